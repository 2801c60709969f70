-- Document 02, A7: every request ends within its limit, at every moment and between any two.
--
-- Main laws: levels_logarithm, `levels` is the logarithm; run_bounded, run_ends, of every run from every start.
use mathlib.Core.Path.{◌≡◌, refl, sym, ap, ◌∙◌}
use mathlib.Core.Logic.{◌≢◌}
use mathlib.Core.List.{List, [], ◌∷◌, ◌++◌, Memᴰ}
use Prim.Native.Nat.{ℕ, ◌+◌, ◌^◌, ◌≤◌, ◌<◌}
use native.Mathlib.Omega.{arith}
use native.Mathlib.Decide.{ℕ_discrete, dec_lt}
use lib.Count.{leading_top}
use lib.Dec.{eqb}
use lib.ListN.{length}
use lib.Pow.{pow_mono, pow_pos}
use borrow.Author.Tests.{eqb-true}
use Rattle.basics.proofs.Conditions.{split}
use Rattle.job.specs.declared.Request.{Request}
use Rattle.job.specs.declared.Wait.{Wait}
use Rattle.linearization.specs.Partition.{Labels}
use Rattle.rules.specs.Report.{row_at}
use Rattle.rules.specs.State.{State, request_at, start}
use Rattle.rules.specs.Start.{Start}
use Rattle.rules.specs.Step.{step}
use Rattle.rules.specs.Run.{Happening, run, happened, history}
use Rattle.rules.specs.History.{is_of, row_of}
use Rattle.rules.specs.Linearized.{Playable}
use Rattle.rules.specs.Bounds.{levels, Logarithm, limit_of, grants_of, Bounded, Ends}
use Rattle.rules.proofs.History.{first_settled}
use Rattle.rules.proofs.Stages.{Inside}
use Rattle.rules.proofs.Invariant.{Invariant}
use Rattle.rules.proofs.Grant.{step_invariant}
use Rattle.rules.proofs.Theorem.{Startable, step_heads, playable_inside, started_invariant, history_prefix}
use Rattle.rules.proofs.Layer.{run_layer}
use Rattle.rules.proofs.Limits.{run_limited, finished_layer, own_used}
use Rattle.rules.proofs.Laws.{playable_cut, granted_later}

-- ---- the logarithm

pub levels_logarithm : (n : ℕ) → 0 < n → n < 2 ^ 32 → Logarithm n (levels n)
levels_logarithm n some few =
    let top = leading_top 32 n some few in
    let is : levels n ≡ top.0 = omega (arith, top.1) in
    rw is (record { least = top.2; most = top.3 })

pub levels_above : (n : ℕ) → n < 2 ^ 32 → (i : ℕ) → 2 ^ i ≤ n → i ≤ levels n
levels_above n few i low = go (dec_lt (levels n) i)
  where
    go : Dec (levels n < i) → i ≤ levels n
    go (yes above) = absurd (omega (arith, low, pow_mono above, (levels_logarithm n (omega (arith, low, pow_pos i)) few).most))
    go (no below) = omega arith

-- ---- between two moments

-- a request that has begun stays so, and never gives a grant back
begun_kept : (q : ℕ) (a : Happening) (past : List Happening) → (row_of q past).first ≢ 0 → (row_of q (a ∷ past)).first ≢ 0
unfolding row_of
begun_kept q a past begun = rw (first_settled (is_of q) a past begun) begun

used_rises : (q : ℕ) (a : Happening) (past : List Happening) → (row_of q past).used ≤ (row_of q (a ∷ past)).used
unfolding row_of
used_rises q a past = split (is_of q a) (λ t. rw t (omega arith)) (λ t. rw t (omega arith))

module _ {qs : List Request} (ws : List Wait) {n : ℕ} {B : Labels} {roots₀ : ℕ}
    (inside : (q : ℕ) → q < length qs → Inside n (request_at qs q)) (q : ℕ) (within : q < length qs) where
  still_unfinished : (S : State) (past : List Happening) (gs : List ℕ) → ((h : ℕ) → Memᴰ h gs → h < length S.heads)
      → Invariant qs n B roots₀ S past → (row_of q (history qs ws S past gs)).answer ≡ 0 → (row_of q past).answer ≡ 0
  still_unfinished S past gs granted inv none = go (ℕ_discrete (row_of q past).answer 0)
    where
      go : Dec ((row_of q past).answer ≡ 0) → (row_of q past).answer ≡ 0
      go (yes e) = e
      go (no finished) = absurd (run_layer inside (finished_layer q) S past gs granted inv finished none)

  -- of a request that has begun and is unfinished at the end, each grant of its head is used
  run_used : (S : State) (past : List Happening) (gs : List ℕ) → ((h : ℕ) → Memᴰ h gs → h < length S.heads)
      → Invariant qs n B roots₀ S past → (row_of q past).first ≢ 0 → (row_of q (history qs ws S past gs)).answer ≡ 0
      → (row_of q past).used + grants_of (request_at qs q).head gs ≤ (row_of q (history qs ws S past gs)).used
  run_used S past [] granted inv begun none = omega arith
  run_used S past (g ∷ gs) granted inv begun none =
      let new = happened qs ws S g in
      let h = (request_at qs q).head in
      let unfinished = still_unfinished S past (g ∷ gs) granted inv none in
      let rest = run_used (step qs ws S g) (new ∷ past) gs (λ k m. rw (step_heads qs ws S g) (granted k (Memᴰ.tail m)))
      (step_invariant inside inv g (granted g (Memᴰ.head refl)) ws) (begun_kept q new past begun) none in
      split (eqb g h)
      (λ own.
      let used = ap (λ k. (row_of q (happened qs ws S k ∷ past)).used) (eqb-true g h own) ∙ own_used ws inv q within begun unfinished in
      rw own (omega (arith, rest, used)))
      (λ other. rw other (omega (arith, rest, used_rises q new past)))

-- ---- every run

module _ {n : ℕ} (qs : List Request) (ws : List Wait) (m : ℕ) {s : Start} (begin : Startable n s) where
  abbrev first : State
  first = start qs m s.table

  pub run_bounded : {gs : List ℕ} → Playable n m qs gs → Bounded n qs (run qs ws first gs).report
  run_bounded playable =
      let limited = run_limited playable ws begin (levels n) (levels_above n (omega (arith, playable.few))) in
      record { most = λ q l. (limited q l).most; fewer = λ q l. (limited q l).fewer }

  module _ (gs hs : List ℕ) (playable : Playable n m qs (gs ++ hs)) where
    -- an unfinished one would have used its limit
    ends : (q : ℕ) → q < length qs → (row_at (run qs ws first gs).report q).first ≢ 0
        → limit_of (request_at qs q).kind n ≤ (row_at (run qs ws first gs).report q).used + grants_of (request_at qs q).head hs
        → (row_at (run qs ws first (gs ++ hs)).report q).answer ≢ 0
    ends q l begun enough none =
        let inv = started_invariant (playable_cut gs hs playable) ws begin in
        let row = inv.rows q l in
        let row' = (started_invariant playable ws begin).rows q l ∙ ap (row_of q) (history_prefix qs ws first [] gs hs) in
        let more = run_used ws (playable_inside playable) q l (run qs ws first gs) (history qs ws first [] gs) hs
        (granted_later qs ws m begin gs hs playable) inv (λ z. begun (ap (λ r. r.first) row ∙ z))
        (sym (ap (λ r. r.answer) row') ∙ none) in
        omega (
          arith,
          enough,
          more,
          ap (λ r. r.used) row,
          ap (λ r. r.used) row',
          (run_bounded playable).fewer q l none,
        )

    pub run_ends : Ends n qs (run qs ws first gs).report (run qs ws first (gs ++ hs)).report hs
    run_ends = record { finished = ends }
