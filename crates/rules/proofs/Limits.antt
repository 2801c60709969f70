-- No request uses more grants than its limit, an unfinished one uses fewer, and each grant to the head of one that has begun is
-- used for it. Everywhere n is the number of nodes and `levels` is not below the base-2 logarithm of n.
--
--   Limited n levels kind row   what is said of the row of a request of that kind
--
-- Main laws: run_limited, it holds of every request at every moment of every run; finished_layer, a finished request stays so;
-- own_used, what a grant to the head of an unfinished request that has begun adds.
use mathlib.Core.Path.{◌≡◌, refl, sym, ap, ◌∙◌, subst}
use mathlib.Core.Logic.{◌≢◌}
use mathlib.Core.Bool.{false, true≢false}
use mathlib.Core.List.{List, [], ◌∷◌}
use Prim.Native.Nat.{ℕ, suc, ◌^◌, ◌≤◌, ◌<◌}
use native.Mathlib.Omega.{arith}
use lib.ListN.{length}
use borrow.Author.Tests.{lt-ltb}
use Rattle.job.specs.declared.Kind.{Kind}
use Rattle.job.specs.declared.Kind.TheVariants.{Union, SameSet}
use Rattle.job.specs.declared.Request.{Request}
use Rattle.job.specs.declared.Wait.{Wait}
use Rattle.word.specs.declared.Node.{Node}
use Rattle.process.specs.declared.Stage.{Stage}
use Rattle.process.specs.declared.Task.{Task}
use Rattle.process.specs.Process.{is_resting}
use Rattle.linearization.specs.Partition.{Labels}
use Rattle.linearization.specs.Entry.{occurrences}
use Rattle.rules.specs.declared.Row.{Row}
use Rattle.rules.specs.Report.{row_at}
use Rattle.rules.specs.State.{State, request_at, start}
use Rattle.rules.specs.Start.{Start}
use Rattle.rules.specs.Step.{head_at}
use Rattle.rules.specs.Run.{Happening, action_of, run, happened}
use Rattle.rules.specs.Run.Happening.{idle, serving}
use Rattle.rules.specs.History.{row_of}
use Rattle.rules.specs.Linearized.{Playable}
use Rattle.rules.specs.Bounds.{limit}
use Rattle.rules.proofs.History.{other_served, row_other, served_used, unbegun_used}
use Rattle.rules.proofs.Stages.{Inside}
use Rattle.rules.proofs.Invariant.{Phase, Invariant}
use Rattle.rules.proofs.Invariant.Phase.{over, current, waiting}
use Rattle.rules.proofs.Serving.{serving_of}
use Rattle.rules.proofs.Grant.{present_now}
use Rattle.rules.proofs.Theorem.{Startable, length_heads, start_resting, start_invariant, playable_inside, started_invariant}
use Rattle.rules.proofs.Layer.{Layer, run_layer}
use Rattle.rules.proofs.StageLayer.{Spending, stage_layer}
use Rattle.rules.proofs.Spent.{Spent, Done, spent_law, under_limit}

pub record Limited (n levels : ℕ) (kind : Kind) (row : Row) : Type 0 where
  pub most : row.used ≤ limit kind n levels
  pub fewer : row.answer ≡ 0 → row.used < limit kind n levels

-- ---- at one moment

some_limit : (kind : Kind) (n levels : ℕ) → 0 < n → 0 < limit kind n levels
some_limit Union n levels some = omega arith
some_limit SameSet n levels some = omega arith

module _ {qs : List Request} {n levels : ℕ} (logarithm : (i : ℕ) → 2 ^ i ≤ n → i ≤ levels)
    (inside : (q : ℕ) → q < length qs → Inside n (request_at qs q)) {B : Labels} {roots₀ : ℕ} {S : State} {past : List Happening}
    (inv : Invariant qs n B roots₀ S past) (holds : Spending (Spent n levels) (Done n levels) qs S past) where
  busy_below : (h : ℕ) → is_resting (head_at S h) ≡ false
      → (row_of (head_at S h).task.request past).used < limit (request_at qs (head_at S h).task.request).kind n levels
  busy_below h busy =
      under_limit n levels logarithm (present_now inside inv (head_at S h).task.request (inv.busy h busy).within)
      (head_at S h).task (head_at S h).stage busy (inv.knows h busy) (row_of (head_at S h).task.request past).used (holds.busy h busy)

  phase_limited : (q : ℕ) → q < length qs → Phase (head_at S (request_at qs q).head) q past (occurrences q S.entries)
      → Limited n levels (request_at qs q).kind (row_of q past)
  phase_limited q l (over before o) = record { most = holds.over q l o.finished; fewer = λ none. absurd (o.finished none) }
  phase_limited q l (current e busy c) =
      let below = subst (λ p. (row_of p past).used < limit (request_at qs p).kind n levels) (sym e)
      (busy_below (request_at qs q).head busy) in
      record { most = omega (arith, below); fewer = λ none. below }
  phase_limited q l (waiting before rests w) =
      let below = some_limit (request_at qs q).kind n levels (omega (arith, (inside q l).x)) in
      let none = unbegun_used q past w.fresh in
      record { most = omega (arith, below, none); fewer = λ _. omega (arith, below, none) }

  pub invariant_limited : (q : ℕ) → q < length qs → Limited n levels (request_at qs q).kind (row_at S.report q)
  invariant_limited q l = rw (inv.rows q l) (phase_limited q l (inv.phases q l))

-- ---- every run

start_spending : (Said : Request → List Node → ℕ → Task → Stage → Type 0) (Ended : Request → ℕ → ℕ → Type 0) (qs : List Request) (m : ℕ)
    (t : List Node) → Spending Said Ended qs (start qs m t) []
unfolding row_of
start_spending Said Ended qs m t =
    record {
      busy = λ h busy. absurd (true≢false (sym (start_resting qs m t h) ∙ busy));
      over = λ q l finished. absurd (finished refl);
    }

pub run_limited : {n m : ℕ} {qs : List Request} {gs : List ℕ} → Playable n m qs gs → (ws : List Wait) {s : Start} → Startable n s
    → (levels : ℕ) → ((i : ℕ) → 2 ^ i ≤ n → i ≤ levels) → (q : ℕ) → q < length qs
    → Limited n levels (request_at qs q).kind (row_at (run qs ws (start qs m s.table) gs).report q)
run_limited {n} {m} {qs} {gs} playable ws {s} begin levels logarithm q l =
    let inside = playable_inside playable in
    let first = start qs m s.table in
    let holds = run_layer inside (stage_layer (spent_law n levels logarithm) inside) first [] gs
    (λ h k. omega (arith, playable.granted h k, length_heads qs 0 m)) (start_invariant qs m begin)
    (start_spending (Spent n levels) (Done n levels) qs m s.table) in
    invariant_limited logarithm inside (started_invariant playable ws begin) holds q l

-- ---- a finished request stays so

pub finished_layer : {qs : List Request} {ws : List Wait} {n : ℕ} {B : Labels} {roots₀ : ℕ} (q : ℕ)
    → Layer qs ws n B roots₀ (λ S past. (row_of q past).answer ≢ 0)
finished_layer q =
    record {
      idles = λ {S} {past} inv finished. subst (λ r. r.answer ≢ 0) (sym (row_other q idle past refl)) finished;
      serves = λ {S} {past} {h} {head} inv is srv effect finished.
          let apart : q ≢ head.task.request = λ e. finished (ap (λ p. (row_of p past).answer) e ∙ srv.unfinished) in
          let other = other_served q head.task.request (action_of S head) apart in
          subst (λ r. r.answer ≢ 0) (sym (row_other q (serving_of S head) past other)) finished;
    }

-- ---- the grants of a head that serves a request

module _ {qs : List Request} (ws : List Wait) {n : ℕ} {B : Labels} {roots₀ : ℕ} {S : State} {past : List Happening}
    (inv : Invariant qs n B roots₀ S past) where
  -- a busy head waits for nothing
  busy_served : (h : ℕ) → is_resting (head_at S h) ≡ false → happened qs ws S h ≡ serving_of S (head_at S h)
  unfolding happened
  busy_served h busy = rw (lt-ltb (head_at S h).task.request (length qs) (inv.busy h busy).within, busy)

  pub own_used : (q : ℕ) → q < length qs → (row_of q past).first ≢ 0 → (row_of q past).answer ≡ 0
      → (row_of q (happened qs ws S (request_at qs q).head ∷ past)).used ≡ suc (row_of q past).used
  own_used q l begun none = go (inv.phases q l)
    where
      h : ℕ
      h = (request_at qs q).head

      go : Phase (head_at S h) q past (occurrences q S.entries) → (row_of q (happened qs ws S h ∷ past)).used ≡ suc (row_of q past).used
      go (over before o) = absurd (o.finished none)
      go (current e busy c) =
          ap (λ a. (row_of q (a ∷ past)).used) (busy_served h busy ∙ ap (λ p. serving p (action_of S (head_at S h))) (sym e))
          ∙ served_used q (action_of S (head_at S h)) past
      go (waiting before rests w) = absurd (begun w.fresh)
