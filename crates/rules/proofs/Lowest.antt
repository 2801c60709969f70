-- Document 02, A3: what a request waits for, told by the pairs and the answers.
--
--   Rises ws   the pairs of one request rise
--
-- Main laws: lowest_none, a request that waits for none has none unfinished; lowest_some, what it waits for is unfinished;
-- lowest_found and lowest_told, the first pair that holds is the lowest; lowest_same and lowest_kept, what a grant leaves of the
-- waits.
use mathlib.Core.Path.{◌≡◌, refl, sym, ap, ◌∙◌}
use mathlib.Core.Logic.{◌≢◌}
use mathlib.Core.Bool.{true, false, true≢false}
use mathlib.Core.List.{List, [], ◌∷◌, Memᴰ}
use Prim.Native.Nat.{ℕ, zero, suc, ◌≤◌, ◌<◌}
use native.Mathlib.Omega.{arith}
use native.Mathlib.Decide.{ℕ_discrete}
use lib.Dec.{eqb}
use borrow.Author.Tests.{eq-eqb, eqb-true}
use Rattle.basics.proofs.Conditions.{split, cond_both, both_left, both_right}
use Rattle.job.specs.declared.Wait.{Wait}
use Rattle.process.specs.Process.{no_wait}
use Rattle.rules.specs.declared.Row.{Row}
use Rattle.rules.specs.Report.{unfinished}
use Rattle.rules.specs.State.{holds, lowest_wait}
use Rattle.rules.specs.Waits.{pair, Lowest}

-- ---- what a request waits for

-- a request that waits for none has no unfinished one among those that it waits for
pub lowest_none : (ws : List Wait) (report : List Row) (q : ℕ) → lowest_wait ws report q ≡ no_wait
    → (w : Wait) → Memᴰ w ws → w.later ≡ q → unfinished report w.earlier ≡ false
lowest_none [] report q none w member own = elim member [ ]
lowest_none (v ∷ ws) report q none w (Memᴰ.head same) own =
    split (holds report q v)
    (λ t. let some : suc v.earlier ≡ no_wait = rw t at none in absurd (omega arith))
    (λ f. ap (λ u. unfinished report u.earlier) same ∙ finished f)
  where
    finished : holds report q v ≡ false → unfinished report v.earlier ≡ false
    finished f = rw (eq-eqb v.later q (ap (λ u. u.later) (sym same) ∙ own)) at f
lowest_none (v ∷ ws) report q none w (Memᴰ.tail m) own =
    split (holds report q v)
    (λ t. let some : suc v.earlier ≡ no_wait = rw t at none in absurd (omega arith))
    (λ f. lowest_none ws report q (rw f at none) w m own)

-- what it waits for is an unfinished one
pub lowest_some : (ws : List Wait) (report : List Row) (q e : ℕ) → lowest_wait ws report q ≡ suc e
    → Memᴰ (pair q e) ws × (unfinished report e ≡ true)
lowest_some [] report q e found = absurd (omega arith)
lowest_some (w ∷ ws) report q e found =
    split (holds report q w) first
    (λ f. let rest = lowest_some ws report q e (rw f at found) in (Memᴰ.tail rest.0, rest.1))
  where
    first : holds report q w ≡ true → Memᴰ (pair q e) (w ∷ ws) × (unfinished report e ≡ true)
    first t =
        let own : w.later ≡ q = eqb-true w.later q (both_left (eqb w.later q) _ t) in
        let is : suc w.earlier ≡ suc e = rw t at found in
        let same : e ≡ w.earlier = omega arith in (
          Memᴰ.head (λ i. record { later = sym own i; earlier = same i }),
          ap (unfinished report) same ∙ both_right (eqb w.later q) _ t,
        )

-- ---- the lowest one

-- the pairs of one request rise
abbrev pub Rises : List Wait → Type 0
Rises [] = Unit {0}
Rises (w ∷ ws) = ((v : Wait) → Memᴰ v ws → v.later ≡ w.later → w.earlier < v.earlier) × Rises ws

pub lowest_found : (ws : List Wait) (report : List Row) (q e : ℕ) → Rises ws → lowest_wait ws report q ≡ suc e → Lowest ws report q e
lowest_found ws report q e rises found =
    let some = lowest_some ws report q e found in
    record { waits = some.0; unanswered = some.1; least = least ws rises found }
  where
    least : (ws : List Wait) → Rises ws → lowest_wait ws report q ≡ suc e → (f : ℕ) → Memᴰ (pair q f) ws → unfinished report f ≡ true
        → e ≤ f
    least [] rises found f member u = elim member [ ]
    least (w ∷ ws) rises found f (Memᴰ.head is) u =
        let here : holds report q w ≡ true = ap (holds report q) (sym is) ∙ rw (eq-eqb q q refl) u in
        let first : suc w.earlier ≡ suc e = rw here at found in
        omega (arith, ap (λ v. v.earlier) is)
    least (w ∷ ws) rises found f (Memᴰ.tail m) u =
        split (holds report q w)
        (λ t.
        let own : w.later ≡ q = eqb-true w.later q (both_left (eqb w.later q) _ t) in
        let first : suc w.earlier ≡ suc e = rw t at found in
        omega (arith, rises.0 (pair q f) m (sym own)))
        (λ t. least ws rises.1 (rw t at found) f m u)

-- and so it is told
pub lowest_told : (ws : List Wait) (report : List Row) (q e : ℕ) → Rises ws → Lowest ws report q e → lowest_wait ws report q ≡ suc e
lowest_told ws report q e rises lowest = go (lowest_wait ws report q) refl
  where
    go : (k : ℕ) → lowest_wait ws report q ≡ k → k ≡ suc e
    go zero is = absurd (true≢false (sym lowest.unanswered ∙ lowest_none ws report q is (pair q e) lowest.waits refl))
    go (suc k) is =
        let found = lowest_found ws report q k rises is in
        omega (arith, found.least e lowest.waits lowest.unanswered, lowest.least k found.waits found.unanswered)

-- ---- what a grant leaves

-- waits are told by the answers alone
pub lowest_same : (ws : List Wait) (report report' : List Row) (q : ℕ) → ((e : ℕ) → unfinished report' e ≡ unfinished report e)
    → lowest_wait ws report' q ≡ lowest_wait ws report q
lowest_same [] report report' q same = refl
lowest_same (w ∷ ws) report report' q same = rw (same w.earlier, lowest_same ws report report' q same)

-- a request that gets its answer is no more waited for; who waits for another one, or for none, goes on so
pub lowest_kept : (ws : List Wait) (report report' : List Row) (r q : ℕ) → unfinished report' r ≡ false
    → ((e : ℕ) → e ≢ r → unfinished report' e ≡ unfinished report e) → lowest_wait ws report q ≢ suc r
    → lowest_wait ws report' q ≡ lowest_wait ws report q
lowest_kept [] report report' r q done same other = refl
lowest_kept (w ∷ ws) report report' r q done same other =
    go (ℕ_discrete w.earlier r) (λ f. lowest_kept ws report report' r q done same (λ is. other (rw f is)))
  where
    -- a pair with the request just answered does not hold, and did not hold
    answered : w.earlier ≡ r → holds report' q w ≡ false
    answered is = cond_both (λ b. b ≡ false) (eqb w.later q) (ap (unfinished report') is ∙ done) refl

    free : w.earlier ≡ r → holds report q w ≡ false
    free is = split (holds report q w) (λ t. absurd (other (rw (t, is)))) (λ f. f)

    go : Dec (w.earlier ≡ r) → (holds report q w ≡ false → lowest_wait ws report' q ≡ lowest_wait ws report q)
        → lowest_wait (w ∷ ws) report' q ≡ lowest_wait (w ∷ ws) report q
    go (yes is) rest = rw (answered is, free is) (rest (free is))
    go (no apart) rest =
        split (holds report q w)
        (λ t. rw (same w.earlier apart, t))
        (λ f. rw (same w.earlier apart, f) (rest f))
