-- One induction over the run, for everything that a grant keeps beside the invariant.
--
--   Layer P          P is kept by an idle grant and by one that serves a head, wherever the invariant holds
--   AllTruthful past   what the steps say of each grant is what its access and the word seen tell
--   Counted S past   the three counters are what the history counts
--   Before r s       a request with the row s has begun only after the one with the row r had ended
--   InTurn qs past   of two requests of one head, the later one begins after the earlier one
--
-- Main laws: run_layer, a layer that holds at one moment holds at every later one; truthful_layer,
-- counted_layer, in_turn_layer and later_layer, the four layers.
use mathlib.Core.Path.{◌≡◌, refl, sym, ap, ap₂, ◌∙◌, subst, subst₂}
use mathlib.Core.Logic.{◌≢◌}
use mathlib.Core.Bool.{true}
use mathlib.Core.List.{List, [], ◌∷◌, Memᴰ}
use Prim.Native.Nat.{ℕ, suc, ◌<◌}
use native.Mathlib.Omega.{arith}
use native.Mathlib.Decide.{ℕ_discrete}
use lib.ListN.{length}
use borrow.Author.Tests.{eq-eqb}
use Rattle.basics.proofs.Conditions.{split}
use Rattle.job.specs.declared.Request.{Request}
use Rattle.job.specs.declared.Wait.{Wait}
use Rattle.process.specs.declared.Head.{Head}
use Rattle.forest.proofs.Later.{Later, later_trans}
use Rattle.linearization.specs.Partition.{Labels}
use Rattle.rules.specs.declared.Row.{Row}
use Rattle.rules.specs.Table.{parent, rank}
use Rattle.rules.specs.State.{State, request_at}
use Rattle.rules.specs.Step.{is_served, head_at, advanced, plus, served, passed, step}
use Rattle.rules.specs.Action.{Action}
use Rattle.rules.specs.Run.{Happening, action_of, run, happened, history}
use Rattle.rules.specs.Run.Happening.{idle, serving}
use Rattle.rules.specs.History.{count_where, is_idle, has_failed, has_link, is_of, row_of}
use Rattle.rules.specs.Laws.{Truthful}
use Rattle.rules.proofs.History.{Other, other_served, first_new, row_other, served_settled, row_last_bound}
use Rattle.rules.proofs.Stages.{Inside}
use Rattle.rules.proofs.Invariant.{labels, Invariant}
use Rattle.rules.proofs.Serving.{Serving, serving_of, more, served_agrees, Effect}
use Rattle.rules.proofs.Grant.{served_within, serving_ready, served_effect, step_invariant}
use Rattle.rules.proofs.Theorem.{step_heads}
use Rattle.rules.proofs.Positions.{phase_begun}

pub record Layer (qs : List Request) (ws : List Wait) (n : ℕ) (B : Labels) (roots₀ : ℕ) (P : State → List Happening → Type 0) : Type 0 where
  pub idles : {S : State} {past : List Happening} → Invariant qs n B roots₀ S past → P S past → P (passed S) (idle ∷ past)
  pub serves : {S : State} {past : List Happening} {h : ℕ} {head : Head} → Invariant qs n B roots₀ S past
      → is_served qs ws S.report (head_at S h) ≡ true → Serving qs n B S past h head
      → Effect qs n B roots₀ S (served qs S h head) (more S head past) head.task.request (advanced S head)
      → P S past → P (served qs S h head) (more S head past)

module _ {qs : List Request} {ws : List Wait} {n : ℕ} {B : Labels} {roots₀ : ℕ}
    (inside : (q : ℕ) → q < length qs → Inside n (request_at qs q)) {P : State → List Happening → Type 0}
    (layer : Layer qs ws n B roots₀ P) where
  module _ {S : State} {past : List Happening} (inv : Invariant qs n B roots₀ S past) (h : ℕ) (present : h < length S.heads) where
    step_layer : P S past → P (step qs ws S h) (happened qs ws S h ∷ past)
    unfolding step happened
    step_layer holds =
        split (is_served qs ws S.report (head_at S h))
        (λ t.
        let serving = serving_ready inside inv h present (served_within qs ws S.report (head_at S h) t) in
        rw t (layer.serves inv t serving (served_effect inside inv h present serving) holds))
        (λ t. rw t (layer.idles inv holds))

  pub run_layer : (S : State) (past : List Happening) (gs : List ℕ) → ((h : ℕ) → Memᴰ h gs → h < length S.heads)
      → Invariant qs n B roots₀ S past → P S past → P (run qs ws S gs) (history qs ws S past gs)
  run_layer S past [] granted inv holds = holds
  run_layer S past (h ∷ gs) granted inv holds =
      let present = granted h (Memᴰ.head refl) in
      run_layer (step qs ws S h) (happened qs ws S h ∷ past) gs
      (λ k m. rw (step_heads qs ws S h) (granted k (Memᴰ.tail m)))
      (step_invariant inside inv h present ws)
      (step_layer inv h present holds)

-- ---- what the steps say of a swap

abbrev pub AllTruthful : List Happening → Type 0
AllTruthful past = (a : Happening) → Memᴰ a past → Truthful a

one_more_truthful : {new : Happening} {past : List Happening} → Truthful new → AllTruthful past → AllTruthful (new ∷ past)
one_more_truthful here before a (Memᴰ.head e) = subst Truthful (sym e) here
one_more_truthful here before a (Memᴰ.tail m) = before a m

pub truthful_layer : {qs : List Request} {ws : List Wait} {n : ℕ} {B : Labels} {roots₀ : ℕ}
    → Layer qs ws n B roots₀ (λ S past. AllTruthful past)
truthful_layer =
    record {
      idles = λ inv before. one_more_truthful tt before;
      serves = λ inv is srv effect before. one_more_truthful (served_agrees srv) before;
    }

-- ---- the counters

pub record Counted (S : State) (past : List Happening) : Type 0 where
  pub idle : S.idle ≡ count_where is_idle past
  pub failed : S.failed ≡ count_where has_failed past
  pub links : S.links ≡ count_where has_link past

pub counted_layer : {qs : List Request} {ws : List Wait} {n : ℕ} {B : Labels} {roots₀ : ℕ} → Layer qs ws n B roots₀ Counted
counted_layer =
    record {
      idles = λ inv c. record { idle = ap suc c.idle; failed = c.failed; links = c.links };
      serves = λ {S} {past} {h} {head} inv is srv effect c.
          let agrees = served_agrees srv in
          record {
            idle = c.idle;
            failed = ap₂ plus agrees.failed c.failed;
            links = ap₂ plus agrees.linked c.links;
          };
    }

-- ---- requests of one head

abbrev pub Before : Row → Row → Type 0
Before r s = s.first ≢ 0 → r.last < s.first

abbrev pub InTurn : List Request → List Happening → Type 0
InTurn qs past =
    (p q : ℕ) → p < q → q < length qs → (request_at qs p).head ≡ (request_at qs q).head → Before (row_of p past) (row_of q past)

-- a grant for neither leaves both rows
pub before_other : (p q : ℕ) (a : Happening) (past : List Happening) → Other p a → Other q a
    → Before (row_of p past) (row_of q past) → Before (row_of p (a ∷ past)) (row_of q (a ∷ past))
before_other p q a past apart-p apart-q = subst₂ Before (sym (row_other p a past apart-p)) (sym (row_other q a past apart-q))

-- the first grant of a request
served_begins : (q : ℕ) (act : Action) (past : List Happening) → (row_of q past).first ≡ 0
    → (row_of q (serving q act ∷ past)).first ≡ suc (length past)
unfolding row_of
served_begins q act past = first_new (is_of q) (serving q act) past (eq-eqb q q refl)

-- a grant for the later one: its first grant stays, or is this one, after every grant of the other
pub before_served : (p q : ℕ) (act : Action) (past : List Happening) → Other p (serving q act)
    → Before (row_of p past) (row_of q past) → Before (row_of p (serving q act ∷ past)) (row_of q (serving q act ∷ past))
before_served p q act past apart before begun = go (ℕ_discrete (row_of q past).first 0)
  where
    last : (row_of p (serving q act ∷ past)).last ≡ (row_of p past).last
    last = ap (λ r. r.last) (row_other p (serving q act) past apart)

    go : Dec ((row_of q past).first ≡ 0) → (row_of p (serving q act ∷ past)).last < (row_of q (serving q act ∷ past)).first
    go (yes z) = omega (arith, last, served_begins q act past z, row_last_bound p past)
    go (no d) = omega (arith, last, served_settled q act past d, before d)

module _ {qs : List Request} {n : ℕ} {B : Labels} {roots₀ : ℕ} where
  module _ {S : State} {past : List Happening} {h : ℕ} {head : Head}
      (inv : Invariant qs n B roots₀ S past) (srv : Serving qs n B S past h head)
      (p q : ℕ) (earlier : p < q) (within : q < length qs) (one : (request_at qs p).head ≡ (request_at qs q).head)
      (holds : Before (row_of p past) (row_of q past)) where
    -- while the earlier one is being served, the later one waits
    not_begun : p ≡ head.task.request → (row_of q past).first ≢ 0 → ⊥
    not_begun is begun =
        let there : (request_at qs q).head ≡ h = sym one ∙ ap (λ k. (request_at qs k).head) is ∙ srv.own in
        omega (arith, phase_begun (inv.phases q within) begun, ap (λ k. (head_at S k).task.request) there, srv.position)

    other : {k : ℕ} → k ≢ head.task.request → Other k (serving_of S head)
    other {k} d = other_served k head.task.request (action_of S head) d

    before_step : Dec (p ≡ head.task.request) → Dec (q ≡ head.task.request)
        → Before (row_of p (more S head past)) (row_of q (more S head past))
    before_step (yes is) _ =
        let row = row_other q (serving_of S head) past (other (λ e. omega arith)) in
        λ begun. absurd (not_begun is (λ z. begun (ap (λ r. r.first) row ∙ z)))
    before_step (no d) (yes is) =
        subst (λ k. Before (row_of p past) (row_of k past) → Before (row_of p (more S head past)) (row_of k (more S head past))) (sym is)
        (before_served p head.task.request (action_of S head) past (other d)) holds
    before_step (no d) (no c) = before_other p q (serving_of S head) past (other d) (other c) holds

  pub in_turn_layer : {ws : List Wait} → Layer qs ws n B roots₀ (λ S past. InTurn qs past)
  in_turn_layer =
      record {
        idles = λ {S} {past} inv turn p q l w one. before_other p q idle past refl refl (turn p q l w one);
        serves = λ {S} {past} {h} {head} inv is srv effect turn p q l w one.
            before_step inv srv p q l w one (turn p q l w one) (ℕ_discrete p head.task.request) (ℕ_discrete q head.task.request);
      }

  -- ---- what every grant leaves alone

  pub later_layer : {ws : List Wait} (p r C : ℕ → ℕ)
      → Layer qs ws n B roots₀ (λ S past. Later n p r C (parent S.table) (rank S.table) (labels qs B S))
  later_layer p r C = record { idles = λ inv later. later; serves = λ inv is srv effect later. later_trans later effect.kept.later }
