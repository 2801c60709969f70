-- What each of the five outcomes does to the table, to the entries and to its own request.
--
--   q, a, act, past', t'   the request served, the head's step, the action, the history and the table after the grant
--   m                 the moment before the grant
--   with_entries es   the state after the grant, with the entries es
--   Does es           the effect of the grant, with the entries es
--   entered           the entries with the request's own at this grant
--
-- Main law: outcome_effect.
use mathlib.Core.Path.{◌≡◌, refl, sym, ap, ◌∙◌, subst}
use mathlib.Core.Logic.{◌≢◌}
use mathlib.Core.Bool.{Bool, true, false}
use mathlib.Core.List.{List, [], ◌∷◌, ◌++◌}
use Prim.Native.Nat.{ℕ, suc, ◌+◌, ◌≤◌}
use native.Mathlib.Omega.{arith}
use native.Mathlib.Decide.{ℕ_discrete}
use lib.ListN.{length}
use borrow.Author.Tests.{eq-eqb, ne_eqb}
use Rattle.job.specs.declared.Kind.{Kind}
use Rattle.job.specs.declared.Kind.TheVariants.{Union, SameSet}
use Rattle.job.specs.declared.Answer.TheVariants.{Joined}
use Rattle.job.specs.declared.Request.{Request}
use Rattle.job.specs.Job.{answer_number}
use Rattle.word.specs.declared.Node.{Node}
use Rattle.process.specs.declared.Head.{Head}
use Rattle.process.specs.declared.Advanced.{Advanced}
use Rattle.process.specs.Process.{traits_of}
use Rattle.process.specs.Access.{access_of}
use Rattle.process.specs.Advance.{together}
use Rattle.forest.specs.Forest.{root_count}
use Rattle.linearization.specs.Partition.{Labels, reply_to, reply, next}
use Rattle.linearization.specs.Entry.{Entry, insert, occurrences}
use Rattle.linearization.proofs.Partition.{reply_together, reply_apart, next_same_set, next_union, next_together}
use Rattle.linearization.proofs.Entries.{entry, Below, Free, insert_last, occurrences_inserted, occurrences_other, occurrences_absent}
use Rattle.linearization.proofs.Replay.{after, labels_to, Replayed, Silent, after_snoc, after_insert, labels_to_snoc, labels_to_insert}
use Rattle.linearization.proofs.Replay.{replayed_fact, replayed_map, replayed_snoc, replayed_insert}
use Rattle.rules.specs.Table.{parent, touched}
use Rattle.rules.specs.Report.{is_final}
use Rattle.rules.specs.State.{State, request_at}
use Rattle.rules.specs.Step.{advanced, served}
use Rattle.rules.specs.Action.{Action, links}
use Rattle.rules.specs.Run.{Happening, action_of}
use Rattle.rules.specs.History.{link_of, point_of}
use Rattle.rules.specs.Linearized.{operation_at, promised}
use Rattle.rules.proofs.History.{used_for, other_served, row_other, served_answer, link_served, link_unserved, find_served}
use Rattle.rules.proofs.History.{point_unlinked, point_same_set, point_union}
use Rattle.rules.proofs.Stages.{Moment, Knows}
use Rattle.rules.proofs.Outcomes.{linked_moment, united, Kept, Unlinked}
use Rattle.rules.proofs.Outcomes.{Going, Closing, Afterwards, Joining, Tidying, Denying, Outcome}
use Rattle.rules.proofs.Outcomes.Afterwards.{finished, continuing}
use Rattle.rules.proofs.Outcomes.Outcome.{going, closing, joining, tidying, denying}
use Rattle.rules.proofs.Invariant.{moment_of, claim, Candidate, Placed, Invariant}
use Rattle.rules.proofs.Others.{placed_other}
use Rattle.rules.proofs.Own.{anchored_joined, anchored_found, anchored_no, finished_over, unfinished_current}
use Rattle.rules.proofs.Own.{timed_on, timed_linked, placed_now, placed_pending, placed_still}
use Rattle.rules.proofs.Serving.{Serving, serving_of, more, served_agrees, After, Effect}
use Rattle.rules.proofs.Serving.After.{continues, finishes}

-- yes and already together are what the specification answers of nodes in one set
together_reply : (k : Kind) → reply_to k true ≡ promised (answer_number (together k))
together_reply Union = refl
together_reply SameSet = refl

together_final : (k : Kind) → is_final (together k) ≡ true
together_final Union = refl
together_final SameSet = refl

module _ (qs : List Request) (n : ℕ) (B : Labels) (roots₀ : ℕ) (S : State) (past : List Happening) (h : ℕ) (head : Head)
    (inv : Invariant qs n B roots₀ S past) (srv : Serving qs n B S past h head) where
  abbrev q : ℕ
  q = head.task.request

  abbrev a : Advanced
  a = advanced S head

  abbrev act : Action
  act = action_of S head

  abbrev past' : List Happening
  past' = more S head past

  abbrev t' : List Node
  t' = touched S.table (access_of head)

  abbrev m : Moment n
  m = moment_of qs n B S

  abbrev with_entries : List Entry → State
  with_entries es =
      record {
        table = t';
        heads = (served qs S h head).heads;
        report = (served qs S h head).report;
        entries = es;
        idle = S.idle;
        failed = (served qs S h head).failed;
        links = (served qs S h head).links;
        now = suc S.now;
      }

  abbrev Does : List Entry → Type 0
  Does es = Effect qs n B roots₀ S (with_entries es) past' q a

  unplaced : a.event.point ≡ 0 → Does S.entries → Effect qs n B roots₀ S (served qs S h head) past' q a
  unplaced z does = subst Does (sym (rw (eq-eqb a.event.point 0 z) refl)) does

  placed_at : (point : ℕ) → a.event.point ≡ point → 1 ≤ point → Does (insert point q S.entries)
      → Effect qs n B roots₀ S (served qs S h head) past' q a
  placed_at point e positive does =
      let entries : (served qs S h head).entries ≡ insert point q S.entries = rw (ne_eqb a.event.point 0 (λ z. omega arith), e) in
      subst Does (sym entries) does

  -- what the step says of the grant is what its access tells
  tells : {b : Bool} → a.event.linked ≡ b → links act.access act.seen ≡ b
  tells e = sym (served_agrees srv).linked ∙ e

  -- ---- the table

  roots_stay : a.event.linked ≡ false → Unlinked m t' → root_count (parent t') n + (served qs S h head).links ≡ roots₀
  roots_stay unlinked table = rw unlinked (ap (λ k. k + S.links) table.roots ∙ inv.roots)

  -- ---- entries that stand

  claim_other : (p : ℕ) → p ≢ q → claim past p ≡ claim past' p
  claim_other p d = ap (λ r. promised r.answer) (sym (row_other p (serving_of S head) past (other_served p q act d)))

  -- a request that is not listed leaves every entry as it stands
  entries_stand : occurrences q S.entries ≡ 0 → Replayed (operation_at qs) (Placed qs past') (claim past') B 0 S.entries
  entries_stand none =
      replayed_map inv.entries
      (λ e m p. placed_other (serving_of S head) (other_served e.request q act (occurrences_absent q none m)) p)
      (λ e m. claim_other e.request (occurrences_absent q none m))

  -- before its link a request is not listed
  module _ (unraised : (traits_of head.stage).linked ≡ false) where
    not_linked : link_of q past ≡ 0
    not_linked = srv.timed.unlinked unraised

    not_listed : occurrences q S.entries ≡ 0
    not_listed = srv.listed ∙ rw (eq-eqb (link_of q past) 0 not_linked)

    listed_once : (point : ℕ) → occurrences q (insert point q S.entries) ≡ 1
    listed_once point = occurrences_inserted point q S.entries ∙ ap suc not_listed

    still_unlinked : a.event.linked ≡ false → link_of q past' ≡ 0
    still_unlinked e = link_unserved q act past (tells e) ∙ not_linked

  others_stay : (point p : ℕ) → p ≢ q → occurrences p (insert point q S.entries) ≡ occurrences p S.entries
  others_stay point p d = occurrences_other point q p S.entries (λ e. d (sym e))

  -- ---- going on

  going_effect : Going m t' (request_at qs q) head.stage a → Does S.entries
  going_effect g =
      let unlinked = still_unlinked g.unraised g.unlinked in
      record {
        kept = g.table.kept;
        roots = roots_stay g.unlinked g.table;
        settled = λ point l. refl;
        entries = entries_stand (not_listed g.unraised);
        others = λ p d. refl;
        after = continues g.unfinished g.busy g.knows
            (timed_on q act past g.still unlinked (λ d. g.proposed d ∙ ap suc inv.clock) g.found)
            (unfinished_current q act past g.unfinished
            (not_listed g.unraised ∙ sym (rw (eq-eqb (link_of q past') 0 unlinked))));
      }

  -- ---- an entry at this grant

  abbrev entered : List Entry
  entered = insert (suc S.now) q S.entries

  abbrev own : Entry
  own = entry (suc S.now) q

  entries_below : Below (suc S.now) S.entries
  entries_below e m = omega (arith, (replayed_fact inv.entries e m).until, inv.clock)

  entered_last : entered ≡ S.entries ++ (own ∷ [])
  entered_last = insert_last (suc S.now) q S.entries entries_below

  entered_labels : after (operation_at qs) B entered ≡ next m.labels (operation_at qs q)
  entered_labels = ap (after (operation_at qs) B) entered_last ∙ after_snoc (operation_at qs) B S.entries own

  entered_settled : (point : ℕ) → point ≤ S.now
      → labels_to (operation_at qs) point B entered ≡ labels_to (operation_at qs) point B S.entries
  entered_settled point l =
      ap (labels_to (operation_at qs) point B) entered_last ∙ labels_to_snoc (operation_at qs) point B S.entries own (omega arith)

  entered_replayed : (traits_of head.stage).linked ≡ false → suc (length past) ≡ point_of (request_at qs q).kind q past'
      → reply m.labels (operation_at qs q) ≡ claim past' q → Replayed (operation_at qs) (Placed qs past') (claim past') B 0 entered
  entered_replayed unraised point answered =
      let placed = subst (λ k. Placed qs past' (entry (suc k) q)) (sym inv.clock) (placed_now q act past srv.within point) in
      subst (Replayed (operation_at qs) (Placed qs past') (claim past') B 0) (sym entered_last)
      (replayed_snoc own (entries_stand (not_listed unraised)) (omega arith) entries_below placed answered)

  -- ---- the two finds ended at one root

  module _ (c : Closing m t' (request_at qs q) head.stage a) where
    closing_point : (k : Kind) → suc (length past) ≡ point_of k q past'
    closing_point Union = sym (point_unlinked q act past (still_unlinked c.unraised c.unlinked))
    closing_point SameSet = sym (point_same_set q past' ∙ find_served q act past c.found)

    closing_answer : reply m.labels (operation_at qs q) ≡ claim past' q
    closing_answer =
        reply_together m.labels (operation_at qs q) c.one_set ∙ together_reply (request_at qs q).kind
        ∙ ap (λ b. promised (answer_number b)) (sym c.answer) ∙ ap promised (sym (served_answer q act past))

    closing_effect : Does entered
    closing_effect =
        let final = ap is_final c.answer ∙ together_final (request_at qs q).kind in
        record {
          kept = subst (Kept m t') (sym (entered_labels ∙ next_together m.labels (operation_at qs q) c.one_set)) c.table.kept;
          roots = roots_stay c.unlinked c.table;
          settled = entered_settled;
          entries = entered_replayed c.unraised (closing_point (request_at qs q).kind) closing_answer;
          others = others_stay (suc S.now);
          after = finishes final c.rests
              (finished_over q act past final (anchored_found q act past (request_at qs q).kind c.answer c.found final)
              (listed_once c.unraised (suc S.now)));
        }

  -- ---- a union that has linked

  -- joined is promised to it, finished or not
  linked_claim : {B' : Labels} → Afterwards m t' B' (request_at qs q) a → Joined ≡ claim past' q
  linked_claim (finished answer rests) = sym (ap promised (served_answer q act past ∙ ap answer_number answer))
  linked_claim (continuing answer stage knows) = sym (ap promised (served_answer q act past ∙ ap answer_number answer))

  -- it is finished, or goes on with what its next stage knows
  linked_after : {B' : Labels} (es : List Entry) → Afterwards m t' B' (request_at qs q) a → after (operation_at qs) B es ≡ B'
      → link_of q past' ≢ 0 → occurrences q es ≡ 1 → After qs n B (with_entries es) past' q a
  linked_after es (finished answer rests) labels linked once =
      finishes (ap is_final answer) rests (finished_over q act past (ap is_final answer) (anchored_joined q act past answer) once)
  linked_after es (continuing answer stage knows) labels linked once =
      let at : ℕ → Labels = λ point. labels_to (operation_at qs) point B es in
      continues answer stage.busy
      (subst (λ C. Knows (linked_moment m t' C at) (request_at qs q) a.head.task a.head.stage) (sym labels) (knows at))
      (timed_linked q act past stage.linked stage.unpending linked)
      (unfinished_current q act past answer (once ∙ sym (rw (ne_eqb (link_of q past') 0 linked))))

  -- ---- the link was written

  module _ (j : Joining m t' (request_at qs q) head.stage a) where
    joining_labels : after (operation_at qs) B entered ≡ united m (request_at qs q)
    joining_labels = entered_labels ∙ next_union m.labels (operation_at qs q) j.kind

    joining_link : link_of q past' ≡ suc (length past)
    joining_link = link_served q act past (tells j.linked)

    linked_now : link_of q past' ≢ 0
    linked_now z = omega (arith, joining_link)

    joining_point : suc (length past) ≡ point_of (request_at qs q).kind q past'
    joining_point = sym (ap (λ k. point_of k q past') j.kind ∙ point_union q past' linked_now ∙ joining_link)

    joining_answer : reply m.labels (operation_at qs q) ≡ claim past' q
    joining_answer =
        reply_apart m.labels (operation_at qs q) j.two_sets ∙ ap (λ k. reply_to k false) j.kind ∙ linked_claim j.after

    joining_effect : Does entered
    joining_effect =
        record {
          kept = subst (Kept m t') (sym joining_labels) j.kept;
          roots = rw j.linked (omega (arith, j.roots, inv.roots));
          settled = entered_settled;
          entries = entered_replayed j.unraised joining_point joining_answer;
          others = others_stay (suc S.now);
          after = linked_after entered j.after joining_labels linked_now (listed_once j.unraised (suc S.now));
        }

  -- ---- a further grant after the link

  module _ (d : Tidying m t' (request_at qs q) head.stage a) where
    was_linked : link_of q past ≢ 0
    was_linked = srv.timed.linked d.raised

    still_linked : link_of q past' ≢ 0
    still_linked z = was_linked (sym (link_unserved q act past (tells d.unlinked)) ∙ z)

    -- its own entry stays where it is, and so do the others
    tidying_placed : (e : Entry) → Dec (e.request ≡ q) → Placed qs past e → Placed qs past' e
    tidying_placed e (yes is) p =
        subst (λ r. Placed qs past' (entry e.point r)) (sym is)
        (placed_still q act past srv.within d.kind (tells d.unlinked) was_linked (srv.begun d.raised)
        (subst (λ r. Placed qs past (entry e.point r)) is p))
    tidying_placed e (no not_own) p = placed_other (serving_of S head) (other_served e.request q act not_own) p

    -- joined was promised before, and still is
    tidying_claim : (p : ℕ) → Dec (p ≡ q) → claim past p ≡ claim past' p
    tidying_claim p (yes is) =
        ap (claim past) is ∙ ap promised srv.unfinished ∙ linked_claim d.after ∙ ap (claim past') (sym is)
    tidying_claim p (no not_own) = claim_other p not_own

    tidying_effect : Does S.entries
    tidying_effect =
        record {
          kept = d.table.kept;
          roots = roots_stay d.unlinked d.table;
          settled = λ point l. refl;
          entries = replayed_map inv.entries (λ e m. tidying_placed e (ℕ_discrete e.request q))
              (λ e m. tidying_claim e.request (ℕ_discrete e.request q));
          others = λ p e. refl;
          after = linked_after S.entries d.after refl still_linked (srv.listed ∙ rw (ne_eqb (link_of q past) 0 was_linked));
        }

  -- ---- x was still a root

  module _ (d : Denying m t' (request_at qs q) head.stage a) where
    abbrev point : ℕ
    point = (traits_of head.stage).pending

    candidate : Candidate q past point
    candidate = srv.timed.candidate (λ z. omega (arith, d.positive))

    -- the point is nobody else's, since no two requests used one grant
    point_free : Free point S.entries
    point_free e m is =
        let p = replayed_fact inv.entries e m in
        let same : suc e.request ≡ suc q = sym p.used ∙ ap (used_for past) is ∙ candidate.used in
        occurrences_absent q (not_listed d.unraised) m (omega arith)

    -- at its point the specification answers no, and no label changes
    silent : Silent (operation_at qs) (claim past') (labels_to (operation_at qs) point B S.entries) q
    silent =
        record {
          answered = reply_apart (labels_to (operation_at qs) point B S.entries) (operation_at qs q) d.two_sets
              ∙ ap (λ k. reply_to k false) d.kind
              ∙ sym (ap promised (served_answer q act past ∙ ap answer_number d.answer));
          unchanged = next_same_set (labels_to (operation_at qs) point B S.entries) (operation_at qs q) d.kind;
        }

    denying_effect : Does (insert point q S.entries)
    denying_effect =
        let final = ap is_final d.answer in
        let until : point ≤ length past = omega (arith, d.until, inv.clock) in
        record {
          kept = subst (Kept m t') (sym (after_insert (operation_at qs) point q B S.entries silent.unchanged)) d.table.kept;
          roots = roots_stay d.unlinked d.table;
          settled = λ m l. labels_to_insert (operation_at qs) point q m B S.entries silent.unchanged;
          entries = replayed_insert point q (entries_stand (not_listed d.unraised)) (omega (arith, d.positive)) point_free
              (placed_pending q act past srv.within d.kind d.unfound until candidate) silent;
          others = others_stay point;
          after = finishes final d.rests
              (finished_over q act past final (anchored_no q act past d.answer d.unfound candidate)
              (listed_once d.unraised point));
        }

  -- ---- any outcome

  pub outcome_effect : Outcome m t' (request_at qs q) head.stage a
      → Effect qs n B roots₀ S (served qs S h head) past' q a
  outcome_effect (going g) = unplaced g.unplaced (going_effect g)
  outcome_effect (closing c) = placed_at (suc S.now) c.point (omega arith) (closing_effect c)
  outcome_effect (joining j) = placed_at (suc S.now) j.point (omega arith) (joining_effect j)
  outcome_effect (tidying d) = unplaced d.unplaced (tidying_effect d)
  outcome_effect (denying d) = placed_at (traits_of head.stage).pending d.point d.positive (denying_effect d)
