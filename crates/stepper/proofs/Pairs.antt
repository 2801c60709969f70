-- The pairs of an accepted job rise: the search among them for those of one request.
--
--   Above v w          the pair w comes strictly after the pair v
--   Halved             a search that halves has come down to the places from low to high
--   Scanned            the pairs of request q before place i have been looked at, and hold nothing back
--
-- Main laws: admitted_rises and admitted_pair, what is known of the pairs of an admitted job; halved_up and halved_down, the search;
-- scanned_on, scanned_here and scanned_past, the look at the pairs of one request.
use mathlib.Core.Path.{◌≡◌, refl, sym, ap, ◌∙◌}
use mathlib.Core.Logic.{◌≢◌}
use mathlib.Core.Bool.{true, false}
use mathlib.Core.List.{List, [], ◌∷◌, Memᴰ}
use Prim.Native.Nat.{ℕ, zero, suc, ◌+◌, ◌≤◌, ◌<◌}
use native.Mathlib.Numerals.{add-one}
use native.Mathlib.Omega.{arith}
use native.Mathlib.Decide.{ℕ_discrete}
use lib.Dec.{eqb, ltb}
use lib.ListN.{length, get_or, drop, length-drop}
use lib.Seq.{drop-cons, get_or-drop}
use borrow.Author.Tests.{eq-eqb, ne_eqb, eqb-true, ltb-true}
use Rattle.basics.proofs.Conditions.{split, both_left, both_right}
use Rattle.job.specs.declared.Wait.{Wait}
use Rattle.job.specs.Job.{Job}
use Rattle.process.specs.Process.{no_wait}
use Rattle.jobfile.specs.Format.{rises_to, no_pair}
use Rattle.jobfile.specs.Admitted.{Pairs, Admitted}
use Rattle.jobfile.proofs.Pairs.{Rising, rising_all}
use Rattle.rules.specs.declared.Row.{Row}
use Rattle.rules.specs.Report.{unfinished}
use Rattle.rules.specs.State.{lowest_wait}
use Rattle.rules.specs.Waits.{pair}
use Rattle.rules.proofs.Lowest.{Rises}
use Rattle.stepper.specs.Waits.{later_at, Parted}

-- ---- pairs rise

pub record Above (v w : Wait) : Type 0 where
  pub later : v.later ≤ w.later
  pub earlier : v.later ≡ w.later → v.earlier < w.earlier

rises_above : (v w : Wait) → rises_to v w ≡ true → Above v w
rises_above v w e =
    split (ltb v.later w.later)
    (λ t. let more = ltb-true v.later w.later t in record { later = omega arith; earlier = λ same. absurd (omega arith) })
    (λ f.
    let rest = rw f at e in
    let same = eqb-true v.later w.later (both_left (eqb v.later w.later) _ rest) in
    let more = ltb-true v.earlier w.earlier (both_right (eqb v.later w.later) _ rest) in
    record { later = omega arith; earlier = λ is. more })

above_trans : {u v w : Wait} → Above u v → Above v w → Above u w
above_trans a b =
    record {
      later = omega (arith, a.later, b.later);
      earlier = λ same. omega (
        arith,
        a.earlier (omega (arith, same, a.later, b.later)),
        b.earlier (omega (arith, same, a.later, b.later)),
      );
    }

module _ (count : ℕ) where
  rising_above : (v : Wait) (ws : List Wait) → Rising count v ws → (w : Wait) → Memᴰ w ws → Above v w
  rising_above v [] rising w member = elim member [ ]
  rising_above v (x ∷ ws) rising w (Memᴰ.head same) = rw same (rises_above v x rising.0.rises)
  rising_above v (x ∷ ws) rising w (Memᴰ.tail m) =
      above_trans (rises_above v x rising.0.rises) (rising_above x ws rising.1 w m)

  rising_rises : (v : Wait) (ws : List Wait) → Rising count v ws → Rises ws
  rising_rises v [] rising = tt
  rising_rises v (w ∷ ws) rising =
      (λ u m same. (rising_above w ws rising.1 u m).earlier (sym same), rising_rises w ws rising.1)

  rising_pair : (v : Wait) (ws : List Wait) → Rising count v ws → (w : Wait) → Memᴰ w ws → Pairs count w
  rising_pair v [] rising w member = elim member [ ]
  rising_pair v (x ∷ ws) rising w (Memᴰ.head same) =
      let p = rising.0 in
      rw same (record { later = p.later; earlier = p.earlier })
  rising_pair v (x ∷ ws) rising w (Memᴰ.tail m) = rising_pair x ws rising.1 w m

module _ (j : Job) (a : Admitted j) where
  rising_here : Rising (length j.requests) no_pair j.waits
  rising_here = rising_all (length j.requests) j.waits a.each_wait a.rising

  pub admitted_rises : Rises j.waits
  admitted_rises = rising_rises (length j.requests) no_pair j.waits rising_here

  pub admitted_pair : (w : Wait) → Memᴰ w j.waits → Pairs (length j.requests) w
  admitted_pair = rising_pair (length j.requests) no_pair j.waits rising_here

  later_up : (i k : ℕ) → i ≤ k → k < length j.waits → later_at j.waits i ≤ later_at j.waits k
  later_up i zero l h = let same : i ≡ 0 = omega arith in rw same (omega arith)
  later_up i (suc k) l h = go (ℕ_discrete i (suc k)) (λ m. later_up i k m (omega arith))
    where
      go : Dec (i ≡ suc k) → (i ≤ k → later_at j.waits i ≤ later_at j.waits k) → later_at j.waits i ≤ later_at j.waits (suc k)
      go (yes e) below = rw e (omega arith)
      go (no d) below =
          let next = rises_above (get_or j.waits k (pair 0 0)) (get_or j.waits (suc k) (pair 0 0)) (a.rising k (pair 0 0) h) in
          omega (arith, below (omega (arith, d)), next.later)

-- ---- the search that halves

pub record Halved (ws : List Wait) (q low high : ℕ) : Type 0 where
  pub order : low ≤ high
  pub within : high ≤ length ws
  pub before : (i : ℕ) → i < low → later_at ws i < q
  pub from : (i : ℕ) → high ≤ i → i < length ws → q ≤ later_at ws i

module _ (j : Job) (a : Admitted j) {q low high : ℕ} (h : Halved j.waits q low high) (m : ℕ) (above : low ≤ m) (below : m < high) where
  inside : m < length j.waits
  inside = omega (arith, h.within)

  pub halved_up : later_at j.waits m < q → Halved j.waits q (m + 1) high
  halved_up less =
      record {
        order = omega arith;
        within = h.within;
        before = λ i l. omega (arith, later_up j a i m (omega arith) inside);
        from = h.from;
      }

  pub halved_down : q ≤ later_at j.waits m → Halved j.waits q low m
  halved_down more =
      record {
        order = above;
        within = omega (arith, inside);
        before = h.before;
        from = λ i l k. omega (arith, later_up j a m i l k);
      }

-- ---- the pairs of one request

-- pairs of other requests hold nothing back
lowest_other : (ws : List Wait) (report : List Row) (q : ℕ) → ((i : ℕ) → i < length ws → later_at ws i ≢ q)
    → lowest_wait ws report q ≡ no_wait
lowest_other [] report q other = refl
lowest_other (w ∷ ws) report q other =
    rw (ne_eqb w.later q (other 0 (omega arith))) (lowest_other ws report q (λ i l. other (suc i) (omega arith)))

lowest_drop : (ws : List Wait) (report : List Row) (q at : ℕ) → ((i : ℕ) → i < at → later_at ws i ≢ q)
    → lowest_wait ws report q ≡ lowest_wait (drop at ws) report q
lowest_drop ws report q zero other = refl
lowest_drop [] report q (suc at) other = refl
lowest_drop (w ∷ ws) report q (suc at) other =
    rw (ne_eqb w.later q (other 0 (omega arith))) (lowest_drop ws report q at (λ i l. other (suc i) (omega arith)))

pub record Scanned (ws : List Wait) (report : List Row) (q i : ℕ) : Type 0 where
  pub within : i ≤ length ws
  pub same : lowest_wait ws report q ≡ lowest_wait (drop i ws) report q
  pub from : (k : ℕ) → i ≤ k → k < length ws → q ≤ later_at ws k

pub scanned_start : {ws : List Wait} {q at : ℕ} (report : List Row) → Parted ws q at → Scanned ws report q at
scanned_start {ws} {q} {at} report p =
    record {
      within = p.within;
      same = lowest_drop ws report q at (λ i l e. absurd (omega (arith, p.before i l)));
      from = p.from;
    }

module _ {ws : List Wait} {report : List Row} {q i : ℕ} (s : Scanned ws report q i) where
  module _ (l : i < length ws) where
    next : drop i ws ≡ get_or ws i (pair 0 0) ∷ drop (i + 1) ws
    next = drop-cons ws i (pair 0 0) l ∙ simp add-one

    module _ (own : later_at ws i ≡ q) where
      pub scanned_here : unfinished report (get_or ws i (pair 0 0)).earlier ≡ true
          → (get_or ws i (pair 0 0)).earlier + 1 ≡ lowest_wait ws report q
      scanned_here t =
          simp add-one
          (sym (s.same ∙ ap (λ r. lowest_wait r report q) next ∙ rw (eq-eqb (later_at ws i) q own, t)))

      pub scanned_on : unfinished report (get_or ws i (pair 0 0)).earlier ≡ false → Scanned ws report q (i + 1)
      scanned_on f =
          record {
            within = omega arith;
            same = s.same ∙ ap (λ r. lowest_wait r report q) next ∙ rw (eq-eqb (later_at ws i) q own, f);
            from = λ k m. s.from k (omega arith);
          }

-- the pairs from there on are of later requests
pub scanned_past : (j : Job) → Admitted j → {report : List Row} {q i : ℕ} → Scanned j.waits report q i → i < length j.waits
    → later_at j.waits i ≢ q
    → no_wait ≡ lowest_wait j.waits report q
scanned_past j a {report} {q} {i} s l other =
    sym (s.same ∙ lowest_other (drop i j.waits) report q
    (λ k h e.
    let at = i + k in
    let there : at < length j.waits = omega (arith, length-drop i j.waits) in
    let is : later_at j.waits at ≡ q = ap (λ w. w.later) (sym (get_or-drop i j.waits k (pair 0 0))) ∙ e in
    absurd (omega (arith, other, s.from i (omega arith) l, later_up j a i at (omega arith) there))))
