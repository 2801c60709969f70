-- One grant that serves a head: from what it does to its own request to the invariant of the whole state.
--
--   Serving             the head that a grant serves, begun or not, and what is known of its request
--   serving_of S head   the grant, as the history has it
--   more S head past    the history with it
--   next_head qs h a    the head before its next request
--   After               the request after the grant: it continues, or it is finished
--   Effect              what the grant does to table, entries and its own request
--   S', a, past'        the state after the grant, the served head's step, and the history
--   times p             how often request p is listed then
--   Seated k now        what holds after the grant of head k, which is then `now`
--
-- Main law: effect_invariant.
use mathlib.Core.Path.{◌≡◌, refl, sym, ap, ap₂, ◌∙◌, subst}
use mathlib.Core.Logic.{◌≢◌}
use mathlib.Core.Bool.{true, false, cond, true≢false}
use mathlib.Core.List.{List, ◌∷◌}
use Prim.Native.Nat.{ℕ, suc, ◌+◌, ◌≤◌, ◌<◌}
use native.Mathlib.Omega.{arith}
use native.Mathlib.Decide.{ℕ_discrete}
use lib.Dec.{eqb}
use lib.ListN.{length, get_or, length-set}
use lib.Seq.{get_or-set_same, get_or-set_other}
use Rattle.job.specs.declared.Answer.TheVariants.{Unfinished}
use Rattle.job.specs.declared.Request.{Request}
use Rattle.process.specs.declared.Stage.TheVariants.{Resting}
use Rattle.process.specs.declared.Head.{Head}
use Rattle.process.specs.declared.Advanced.{Advanced}
use Rattle.process.specs.Process.{traits_of, is_resting, queued}
use Rattle.process.specs.Access.{access_of}
use Rattle.process.specs.Advance.{advance_of}
use Rattle.forest.specs.Forest.{root_count}
use Rattle.linearization.specs.Partition.{Labels}
use Rattle.linearization.specs.Entry.{occurrences}
use Rattle.linearization.proofs.Replay.{labels_to, Replayed}
use Rattle.rules.specs.declared.Row.{Row}
use Rattle.rules.specs.Table.{parent, seen}
use Rattle.rules.specs.Report.{no_row, is_final, charge}
use Rattle.rules.specs.State.{State, request_at, seek, resting}
use Rattle.rules.specs.Step.{ready, head_at, advanced, settled, served}
use Rattle.rules.specs.Action.{Agrees}
use Rattle.rules.specs.Run.{Happening, action_of}
use Rattle.rules.specs.Run.Happening.{serving}
use Rattle.rules.specs.History.{row_of, link_of}
use Rattle.rules.specs.Linearized.{operation_at}
use Rattle.rules.proofs.History.{Other, other_served, row_other, row_served}
use Rattle.rules.proofs.Table.{length_touched}
use Rattle.rules.proofs.Requests.{seek_from, seek_own, seek_least}
use Rattle.rules.proofs.Stages.{Inside, Onward, knows_later}
use Rattle.rules.proofs.Outcomes.{Kept}
use Rattle.rules.proofs.Steps.{advance_keeps}
use Rattle.rules.proofs.Agreement.{stage_agrees}
use Rattle.rules.proofs.Positions.{phase_of}
use Rattle.rules.proofs.Others.{timed_other, over_other, waiting_other, phase_other}
use Rattle.rules.proofs.Invariant.{labels, moment_of, HeadKnows, head_until, claim, Timed, Over, Current, Busy, Phase, Placed}
use Rattle.rules.proofs.Invariant.{Invariant}
use Rattle.rules.proofs.Invariant.Phase.{over, current, waiting}

pub record Serving (qs : List Request) (n : ℕ) (B : Labels) (S : State) (past : List Happening) (h : ℕ) (head : Head) : Type 0 where
  -- it is that head as it stands, or as it begins its next request
  pub present : h < length S.heads
  pub is : head ≡ ready qs (head_at S h)
  pub within : head.task.request < length qs
  pub own : (request_at qs head.task.request).head ≡ h
  pub position : (head_at S h).task.request ≡ head.task.request
  pub busy : is_resting head ≡ false
  pub knows : HeadKnows qs n B S head.task.request head
  pub timed : Timed head.task.request past head.stage
  pub begun : (traits_of head.stage).linked ≡ true → (row_of head.task.request past).first ≢ 0
  pub unfinished : (row_of head.task.request past).answer ≡ 0
  pub listed : occurrences head.task.request S.entries ≡ cond (eqb (link_of head.task.request past) 0) 0 1

-- the grant, and the history with it
abbrev pub serving_of : State → Head → Happening
serving_of S head = serving head.task.request (action_of S head)

abbrev pub more : State → Head → List Happening → List Happening
more S head past = serving_of S head ∷ past

pub served_agrees : {qs : List Request} {n : ℕ} {B : Labels} {S : State} {past : List Happening} {h : ℕ} {head : Head}
    → Serving qs n B S past h head → Agrees (action_of S head)
unfolding access_of advance_of
served_agrees {qs} {n} {B} {S = S} {head = head} srv =
    stage_agrees (moment_of qs n B S) head.task (request_at qs head.task.request) head.stage srv.knows

-- no step changes the request of its head
pub served_keeps : (S : State) (head : Head) → (advanced S head).head.task.request ≡ head.task.request
unfolding advance_of
served_keeps S head = (advance_keeps head.task (seen S.table (access_of head)) (suc S.now) head.stage).request

-- the head before its next request
abbrev next_head : List Request → ℕ → Advanced → Head
next_head qs h a = queued a.head (seek qs h (suc a.head.task.request))

-- What holds of the request after the grant. S' is the state after it, a the head's step.
pub data After (qs : List Request) (n : ℕ) (B : Labels) (S' : State) (past' : List Happening) (q : ℕ) (a : Advanced) : Type 0 where
  continues : a.event.answer ≡ Unfinished → is_resting a.head ≡ false → HeadKnows qs n B S' q a.head
      → Timed q past' a.head.stage → Current q past' (occurrences q S'.entries) → After qs n B S' past' q a
  finishes : is_final a.event.answer ≡ true → a.head.stage ≡ Resting → Over q past' (occurrences q S'.entries)
      → After qs n B S' past' q a

-- a head whose request is not finished is busy with it
pub after_busy : {qs : List Request} {n : ℕ} {B : Labels} {S' : State} {past' : List Happening} {q : ℕ} {a : Advanced}
    → After qs n B S' past' q a → is_final a.event.answer ≡ false → is_resting a.head ≡ false
after_busy (continues unfinished busy knows timed now) f = busy
after_busy (finishes final rests done) f = absurd (true≢false (sym final ∙ f))

pub record Effect (qs : List Request) (n : ℕ) (B : Labels) (roots₀ : ℕ) (S S' : State) (past' : List Happening) (q : ℕ) (a : Advanced)
    : Type 0 where
  pub kept : Kept (moment_of qs n B S) S'.table (labels qs B S')
  pub roots : root_count (parent S'.table) n + S'.links ≡ roots₀
  -- the sets up to an earlier point stay
  pub settled : (point : ℕ) → point ≤ S.now
      → labels_to (operation_at qs) point B S'.entries ≡ labels_to (operation_at qs) point B S.entries
  pub entries : Replayed (operation_at qs) (Placed qs past') (claim past') B 0 S'.entries
  pub others : (p : ℕ) → p ≢ q → occurrences p S'.entries ≡ occurrences p S.entries
  pub after : After qs n B S' past' q a

-- ---- the head that was served

module _ {qs : List Request} {n : ℕ} {B : Labels} {roots₀ : ℕ} {S : State} {past : List Happening} {h : ℕ} {head : Head}
    (inside : (q : ℕ) → q < length qs → Inside n (request_at qs q)) (inv : Invariant qs n B roots₀ S past)
    (serving : Serving qs n B S past h head)
    (effect : Effect qs n B roots₀ S (served qs S h head) (more S head past) head.task.request (advanced S head)) where
  abbrev q : ℕ
  q = head.task.request

  abbrev S' : State
  S' = served qs S h head

  abbrev a : Advanced
  a = advanced S head

  abbrev past' : List Happening
  past' = more S head past

  abbrev times : ℕ → ℕ
  times p = occurrences p S'.entries

  keeps : a.head.task.request ≡ q
  keeps = served_keeps S head

  unserved : (p : ℕ) → p ≢ q → Other p (serving_of S head)
  unserved p d = other_served p q (action_of S head) d

  record Seated (k : ℕ) (now : Head) : Type 0 where
    own : k < length S.heads → now.task.request < length qs → (request_at qs now.task.request).head ≡ k
    busy : is_resting now ≡ false → Busy qs k now.task.request
    knows : is_resting now ≡ false → HeadKnows qs n B S' now.task.request now
    timed : is_resting now ≡ false → Timed now.task.request past' now.stage
    phase : (p : ℕ) → p < length qs → (request_at qs p).head ≡ k → Phase now p past' (times p)

  -- it continues with its request
  phase_stays : is_resting a.head ≡ false → Current q past' (times q) → (p : ℕ) → Dec (p ≡ q)
      → Phase (head_at S h) p past (occurrences p S.entries) → Phase a.head p past' (times p)
  phase_stays busy now p (yes e) old = current (e ∙ sym keeps) busy (rw e now)
  phase_stays busy now p (no d) (over l o) =
      over (omega (arith, serving.position, keeps)) (over_other p past (serving_of S head) (unserved p d) (effect.others p d) o)
  phase_stays busy now p (no d) (current e b c) = absurd (d (e ∙ serving.position))
  phase_stays busy now p (no d) (waiting l r w) =
      waiting (omega (arith, serving.position, keeps)) (λ e. absurd (d (e ∙ keeps)))
      (waiting_other p past (serving_of S head) (unserved p d) (effect.others p d) w)

  -- it has finished it
  module _ (rests : a.head.stage ≡ Resting) where
    position_moves : (next_head qs h a).task.request ≡ seek qs h (suc q)
    position_moves = ap (λ p. seek qs h (suc p)) keeps

    resting_now : is_resting (next_head qs h a) ≡ true
    resting_now = ap (λ st. (traits_of st).resting) rests

    phase_moves : Over q past' (times q) → (p : ℕ) → p < length qs → (request_at qs p).head ≡ h → Dec (p ≡ q)
        → Phase (head_at S h) p past (occurrences p S.entries) → Phase (next_head qs h a) p past' (times p)
    phase_moves done p l own (yes e) old = over (omega (arith, position_moves, seek_from qs h (suc q))) (rw e done)
    phase_moves done p l own (no d) (over before o) =
        over (omega (arith, serving.position, position_moves, seek_from qs h (suc q)))
        (over_other p past (serving_of S head) (unserved p d) (effect.others p d) o)
    phase_moves done p l own (no d) (current e b c) = absurd (d (e ∙ serving.position))
    phase_moves done p l own (no d) (waiting from r w) =
        waiting (omega (arith, position_moves, seek_least qs h (suc q) p (omega (arith, serving.position)) l own)) (λ e. resting_now)
        (waiting_other p past (serving_of S head) (unserved p d) (effect.others p d) w)

  seated : After qs n B S' past' q a → Seated h (settled qs h a)
  seated (continues unfinished busy knows timed now) =
      let own : (request_at qs a.head.task.request).head ≡ h = ap (λ p. (request_at qs p).head) keeps ∙ serving.own in
      subst (Seated h) (sym (ap (λ b. cond (is_final b) (next_head qs h a) a.head) unfinished))
      (record {
        own = λ there l. own;
        busy = λ b. record { within = omega (arith, keeps, serving.within); own = own };
        knows = λ b. subst (λ p. HeadKnows qs n B S' p a.head) (sym keeps) knows;
        timed = λ b. subst (λ p. Timed p past' a.head.stage) (sym keeps) timed;
        phase = λ p l own. phase_stays busy now p (ℕ_discrete p q) (phase_of inv h p l own);
      })
  seated (finishes final rests done) =
      subst (Seated h) (sym (ap (λ b. cond b (next_head qs h a) a.head) final))
      (record {
        own = λ there l. ap (λ p. (request_at qs p).head) (position_moves rests)
            ∙ seek_own qs h (suc q) (omega (arith, position_moves rests));
        busy = λ b. absurd (true≢false (sym (resting_now rests) ∙ b));
        knows = λ b. absurd (true≢false (sym (resting_now rests) ∙ b));
        timed = λ b. absurd (true≢false (sym (resting_now rests) ∙ b));
        phase = λ p l own. phase_moves rests done p l own (ℕ_discrete p q) (phase_of inv h p l own);
      })

  -- ---- every head

  onward : Onward (moment_of qs n B S) (moment_of qs n B S')
  onward = record { table = effect.kept.later; passes = omega arith; settled = effect.settled }

  -- another head serves other requests
  seated_other : (k : ℕ) → k ≢ h → Seated k (head_at S k)
  seated_other k d =
      let now = head_at S k in
      record {
        own = inv.own k;
        busy = inv.busy k;
        knows = λ b. knows_later onward (inside now.task.request (inv.busy k b).within) now.task now.stage (inv.knows k b);
        timed = λ b. timed_other (serving_of S head)
            (unserved now.task.request (λ e. d (sym (inv.busy k b).own ∙ ap (λ p. (request_at qs p).head) e ∙ serving.own)))
            (omega (arith, head_until qs n B S now (inv.knows k b), inv.clock)) (inv.timed k b);
        phase = λ p l own.
            let apart : p ≢ q = λ e. d (sym own ∙ ap (λ k. (request_at qs k).head) e ∙ serving.own) in
            phase_other p past (serving_of S head) (unserved p apart) (effect.others p apart) (phase_of inv k p l own);
      }

  seated_each : (k : ℕ) → Dec (k ≡ h) → Seated k (head_at S' k)
  seated_each k (yes e) =
      subst (λ k. Seated k (head_at S' k)) (sym e)
      (subst (Seated h) (sym (get_or-set_same S.heads h (settled qs h a) (resting 0) serving.present)) (seated effect.after))
  seated_each k (no d) = subst (Seated k) (sym (get_or-set_other S.heads h k (settled qs h a) (resting 0) d)) (seated_other k d)

  seats : (k : ℕ) → Seated k (head_at S' k)
  seats k = seated_each k (ℕ_discrete k h)

  -- ---- the report

  abbrev charged : Row
  charged = charge (get_or S.report q no_row) (suc S.now) a.event.answer

  rows_served : (p : ℕ) → p < length qs → Dec (p ≡ q) → get_or S'.report p no_row ≡ row_of p past'
  rows_served p l (yes e) =
      ap (λ k. get_or S'.report k no_row) e
      ∙ get_or-set_same S.report q charged no_row (omega (arith, serving.within, inv.reports))
      ∙ ap₂ (λ r g. charge r (suc g) a.event.answer) (inv.rows q serving.within) inv.clock
      ∙ row_served q (action_of S head) past ∙ ap (λ k. row_of k past') (sym e)
  rows_served p l (no d) =
      get_or-set_other S.report q p charged no_row d ∙ inv.rows p l ∙ sym (row_other p (serving_of S head) past (unserved p d))

  -- ---- the whole state

  pub effect_invariant : Invariant qs n B roots₀ S' past'
  effect_invariant =
      record {
        nodes = length_touched S.table (access_of head) ∙ inv.nodes;
        clock = ap suc inv.clock;
        reports = length-set S.report q charged ∙ inv.reports;
        rows = λ p l. rows_served p l (ℕ_discrete p q);
        sound = effect.kept.sound;
        roots = effect.roots;
        own = λ k l. (seats k).own (omega (arith, length-set S.heads h (settled qs h a)));
        busy = λ k. (seats k).busy;
        knows = λ k. (seats k).knows;
        timed = λ k. (seats k).timed;
        entries = effect.entries;
        phases = λ p l. (seats (request_at qs p).head).phase p l refl;
      }
