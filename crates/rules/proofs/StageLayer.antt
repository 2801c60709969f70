-- One induction over the run, for what the grants that a request has used say of its stage: a bound on them is an instance.
--
--   Spent q t used k st     what is said of the request q under way: the table, the grants used, its task and its stage
--   Done q answer used      what is said of it once it is finished
--   Stepped q t used a      the head's step a leads on to what is said with that many grants used, on the table t
--   StageLaw n Spent Done   what is to be shown of each stage
--   UnderWay qs t past head what is said of the request that a head serves, its grants told by the history
--   Spending qs S past      it holds of every head that serves a request, and of every finished request
--
-- Main law: stage_layer.
use mathlib.Core.Path.{◌≡◌, refl, sym, ap, ◌∙◌, subst}
use mathlib.Core.Logic.{◌≢◌}
use mathlib.Core.Bool.{true, false, true≢false}
use mathlib.Core.List.{List, ◌∷◌}
use Prim.Native.Nat.{ℕ, suc, ◌<◌}
use native.Mathlib.Decide.{ℕ_discrete}
use lib.ListN.{length}
use lib.Seq.{get_or-set_same, get_or-set_other}
use Rattle.basics.proofs.Conditions.{split}
use Rattle.job.specs.declared.Answer.TheVariants.{Unfinished}
use Rattle.job.specs.declared.Request.{Request}
use Rattle.job.specs.declared.Wait.{Wait}
use Rattle.job.specs.Job.{answer_number}
use Rattle.word.specs.declared.Node.{Node}
use Rattle.process.specs.declared.Stage.{Stage}
use Rattle.process.specs.declared.Task.{Task}
use Rattle.process.specs.declared.Head.{Head}
use Rattle.process.specs.declared.Advanced.{Advanced}
use Rattle.process.specs.Process.{traits_of, is_resting, restart}
use Rattle.process.specs.Access.{access_at, access_of}
use Rattle.process.specs.Advance.{advance_at, advance_of}
use Rattle.forest.proofs.Later.{Later}
use Rattle.linearization.specs.Partition.{Labels}
use Rattle.rules.specs.Table.{parent, rank, seen}
use Rattle.rules.specs.Report.{is_final}
use Rattle.rules.specs.State.{State, request_at, resting}
use Rattle.rules.specs.Step.{head_at, advanced, settled, served, passed}
use Rattle.rules.specs.Run.{Happening, action_of}
use Rattle.rules.specs.Run.Happening.{idle}
use Rattle.rules.specs.History.{row_of}
use Rattle.rules.proofs.History.{other_served, row_other, served_answer, served_used, unbegun_used}
use Rattle.rules.proofs.Stages.{Moment, Inside, Within, Knows, knows_within}
use Rattle.rules.proofs.Outcomes.{Present}
use Rattle.rules.proofs.Positions.{phase_of}
use Rattle.rules.proofs.Invariant.{moment_of, Invariant}
use Rattle.rules.proofs.Serving.{Serving, serving_of, more, served_keeps, After, Effect}
use Rattle.rules.proofs.Serving.After.{continues, finishes}
use Rattle.rules.proofs.Grant.{phase_waiting, present_now}
use Rattle.rules.proofs.Layer.{Layer}

pub data Stepped (Spent : Request → List Node → ℕ → Task → Stage → Type 0) (Done : Request → ℕ → ℕ → Type 0)
    (q : Request) (t : List Node) (used : ℕ) (a : Advanced) : Type 0 where
  goes : a.event.answer ≡ Unfinished → Spent q t used a.head.task a.head.stage → Stepped Spent Done q t used a
  ends : is_final a.event.answer ≡ true → Done q (answer_number a.event.answer) used → Stepped Spent Done q t used a

pub record StageLaw (n : ℕ) (Spent : Request → List Node → ℕ → Task → Stage → Type 0) (Done : Request → ℕ → ℕ → Type 0) : Type 0 where
  -- it holds where a request begins
  pub begins : (q : Request) (t : List Node) (k : Task) → Spent q t 0 k (restart q.kind)
  -- every grant of others leaves it
  pub later : {t t' : List Node} {B B' : Labels} → Later n (parent t) (rank t) B (parent t') (rank t') B'
      → (q : Request) (used : ℕ) (k : Task) (st : Stage) → Within n k → Spent q t used k st → Spent q t' used k st
  -- a grant of its own leads on, on the table as the grant finds it
  pub steps : {m : Moment n} {q : Request} → Present m q → (k : Task) (st : Stage) → (traits_of st).resting ≡ false → Knows m q k st
      → (used : ℕ) → Spent q m.table used k st
      → Stepped Spent Done q m.table (suc used) (advance_at k (seen m.table (access_at k st)) (suc m.now) st)

abbrev pub UnderWay : (Request → List Node → ℕ → Task → Stage → Type 0) → List Request → List Node → List Happening → Head → Type 0
UnderWay Spent qs t past head =
    Spent (request_at qs head.task.request) t (row_of head.task.request past).used head.task head.stage

pub record Spending (Spent : Request → List Node → ℕ → Task → Stage → Type 0) (Done : Request → ℕ → ℕ → Type 0)
    (qs : List Request) (S : State) (past : List Happening) : Type 0 where
  pub busy : (h : ℕ) → is_resting (head_at S h) ≡ false → UnderWay Spent qs S.table past (head_at S h)
  pub over : (q : ℕ) → q < length qs → (row_of q past).answer ≢ 0 → Done (request_at qs q) (row_of q past).answer (row_of q past).used

module _ {Spent : Request → List Node → ℕ → Task → Stage → Type 0} {Done : Request → ℕ → ℕ → Type 0} {qs : List Request} where
  -- ---- an idle grant

  idle_spending : {S : State} {past : List Happening} → Spending Spent Done qs S past → Spending Spent Done qs (passed S) (idle ∷ past)
  idle_spending {S} {past} holds =
      record {
        busy = λ h busy.
            let now = head_at S h in
            subst (λ r. Spent (request_at qs now.task.request) S.table r.used now.task now.stage)
            (sym (row_other now.task.request idle past refl)) (holds.busy h busy);
        over = λ q l.
            subst (λ r. r.answer ≢ 0 → Done (request_at qs q) r.answer r.used) (sym (row_other q idle past refl)) (holds.over q l);
      }

  -- ---- a grant that serves a head

  module _ {n : ℕ} (law : StageLaw n Spent Done) (inside : (q : ℕ) → q < length qs → Inside n (request_at qs q)) {B : Labels} {roots₀ : ℕ}
      {S : State} {past : List Happening} {h : ℕ} {head : Head} (inv : Invariant qs n B roots₀ S past) (srv : Serving qs n B S past h head)
      (effect : Effect qs n B roots₀ S (served qs S h head) (more S head past) head.task.request (advanced S head))
      (holds : Spending Spent Done qs S past) where
    abbrev q : ℕ
    q = head.task.request

    abbrev S' : State
    S' = served qs S h head

    abbrev past' : List Happening
    past' = more S head past

    abbrev a : Advanced
    a = advanced S head

    -- before the grant: the head goes on, or its request begins, which has used none
    under_way_now : UnderWay Spent qs S.table past head
    under_way_now =
        let now = head_at S h in
        let phase = phase_of inv h now.task.request (rw srv.position srv.within) (rw srv.position srv.own) in
        subst (UnderWay Spent qs S.table past) (sym srv.is)
        (split (is_resting now)
        (λ rests. rw (rests, unbegun_used now.task.request past (phase_waiting phase rests).fresh)
        (law.begins (request_at qs now.task.request) S.table _))
        (λ busy. rw busy (holds.busy h busy)))

    stepped : Stepped Spent Done (request_at qs q) S.table (suc (row_of q past).used) a
    unfolding access_of advance_of
    stepped =
        law.steps (present_now inside inv q srv.within) head.task head.stage srv.busy srv.knows (row_of q past).used
        under_way_now

    -- ---- finished requests

    over_own : (row_of q past').answer ≢ 0 → Done (request_at qs q) (row_of q past').answer (row_of q past').used
    over_own finished = go stepped
      where
        go : Stepped Spent Done (request_at qs q) S.table (suc (row_of q past).used) a
            → Done (request_at qs q) (row_of q past').answer (row_of q past').used
        go (goes none spent) = absurd (finished (served_answer q (action_of S head) past ∙ ap answer_number none))
        go (ends final is) = rw (served_answer q (action_of S head) past, served_used q (action_of S head) past) is

    over_each : (p : ℕ) → p < length qs → Dec (p ≡ q) → (row_of p past').answer ≢ 0
        → Done (request_at qs p) (row_of p past').answer (row_of p past').used
    over_each p l (yes e) =
        subst (λ k. (row_of k past').answer ≢ 0 → Done (request_at qs k) (row_of k past').answer (row_of k past').used) (sym e) over_own
    over_each p l (no d) =
        subst (λ r. r.answer ≢ 0 → Done (request_at qs p) r.answer r.used)
        (sym (row_other p (serving_of S head) past (other_served p q (action_of S head) d))) (holds.over p l)

    -- ---- heads

    -- another head serves another request
    busy_other : (k : ℕ) → k ≢ h → is_resting (head_at S k) ≡ false → UnderWay Spent qs S'.table past' (head_at S k)
    busy_other k d busy =
        let now = head_at S k in
        let p = now.task.request in
        let apart : p ≢ q = λ e. d (sym (inv.busy k busy).own ∙ ap (λ i. (request_at qs i).head) e ∙ srv.own) in
        subst (λ r. Spent (request_at qs p) S'.table r.used now.task now.stage)
        (sym (row_other p (serving_of S head) past (other_served p q (action_of S head) apart)))
        (law.later effect.kept.later (request_at qs p) (row_of p past).used now.task now.stage
        (knows_within (moment_of qs n B S) (request_at qs p) now.task now.stage busy (inv.knows k busy)) (holds.busy k busy))

    -- the head that goes on with its request
    busy_on : Knows (moment_of qs n B S') (request_at qs q) a.head.task a.head.stage → is_resting a.head ≡ false
        → Spent (request_at qs q) S.table (suc (row_of q past).used) a.head.task a.head.stage
        → UnderWay Spent qs S'.table past' a.head
    busy_on knows busy spent =
        rw (served_keeps S head, served_used q (action_of S head) past)
        (law.later effect.kept.later (request_at qs q) (suc (row_of q past).used) a.head.task a.head.stage
        (knows_within (moment_of qs n B S') (request_at qs q) a.head.task a.head.stage busy knows) spent)

    busy_own : After qs n B S' past' q a → Stepped Spent Done (request_at qs q) S.table (suc (row_of q past).used) a
        → is_resting (settled qs h a) ≡ false → UnderWay Spent qs S'.table past' (settled qs h a)
    busy_own (continues none busy knows timed now) (goes _ spent) seated =
        let stays : settled qs h a ≡ a.head = rw none in
        subst (UnderWay Spent qs S'.table past') (sym stays) (busy_on knows busy spent)
    busy_own (continues none busy knows timed now) (ends final is) seated = absurd (true≢false (sym final ∙ ap is_final none))
    busy_own (finishes final rests done) step seated =
        let resting_now : is_resting (settled qs h a) ≡ true = rw final (ap (λ st. (traits_of st).resting) rests) in
        absurd (true≢false (sym resting_now ∙ seated))

    busy_each : (k : ℕ) → Dec (k ≡ h) → is_resting (head_at S' k) ≡ false → UnderWay Spent qs S'.table past' (head_at S' k)
    busy_each k (yes e) =
        subst (λ now. is_resting now ≡ false → UnderWay Spent qs S'.table past' now)
        (sym (ap (head_at S') e ∙ get_or-set_same S.heads h (settled qs h a) (resting 0) srv.present))
        (busy_own effect.after stepped)
    busy_each k (no d) =
        subst (λ now. is_resting now ≡ false → UnderWay Spent qs S'.table past' now)
        (sym (get_or-set_other S.heads h k (settled qs h a) (resting 0) d)) (busy_other k d)

    served_spending : Spending Spent Done qs S' past'
    served_spending =
        record { busy = λ k. busy_each k (ℕ_discrete k h); over = λ p l. over_each p l (ℕ_discrete p q) }

  pub stage_layer : {n : ℕ} → StageLaw n Spent Done → ((q : ℕ) → q < length qs → Inside n (request_at qs q))
      → {ws : List Wait} {B : Labels} {roots₀ : ℕ} → Layer qs ws n B roots₀ (Spending Spent Done qs)
  stage_layer law inside =
      record {
        idles = λ inv holds. idle_spending holds;
        serves = λ inv is srv effect holds. served_spending law inside inv srv effect holds;
      }
