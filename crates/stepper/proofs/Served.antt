-- One served grant: the buffers that showed a state show the state after the rules' step.
--
-- Main laws: served_shown, by what each part of the grant left; step_served and happened_served, what the step is.
use mathlib.Core.Path.{◌≡◌, refl, sym, ap, ap₂, ◌∙◌, subst, subst₂}
use mathlib.Core.Bool.{true, false, cond}
use mathlib.Core.List.{List, ◌++◌, map}
use Prim.Native.Nat.{ℕ, suc, ◌+◌, ◌*◌, ◌-◌, ◌^◌, ◌<◌}
use native.Mathlib.Omega.{arith}
use native.Mathlib.Decide.{ℕ_discrete}
use lib.Dec.{eqb, ltb}
use lib.ListN.{length, get_or, set, drop}
use lib.Seq.{get_or-set_same, get_or-set_other}
use borrow.Author.Tests.{eqb-true, eq-eqb, ne_eqb}
use Rattle.basics.proofs.Conditions.{split, both_left}
use Rattle.basics.proofs.Lists.{get_or_mapped}
use Rattle.job.specs.Job.{answer_number, most_heads}
use Rattle.job.specs.declared.Request.{Request}
use Rattle.job.specs.declared.Wait.{Wait}
use Rattle.word.specs.Word.{decode, encode}
use Rattle.process.specs.declared.Head.{Head}
use Rattle.process.specs.declared.Advanced.{Advanced}
use Rattle.process.specs.Process.{Raisable, is_resting, no_wait, waiting_for}
use Rattle.process.specs.Access.{access_of}
use Rattle.process.specs.Advance.{advance_of}
use Rattle.forest.proofs.Sound.{rank_at_most}
use Rattle.linearization.specs.Partition.{Labels}
use Rattle.linearization.specs.Entry.{flat, inserted}
use Rattle.mask.specs.Mask.{mask_of}
use Rattle.mask.proofs.Laws.{mask_kept, mask_left}
use Rattle.rules.specs.Table.{seen, touched}
use Rattle.rules.specs.declared.Row.{Row}
use Rattle.rules.specs.Report.{charge, no_row, row_at, unfinished, is_final}
use Rattle.rules.specs.State.{State, resting, has_work, wait_of}
use Rattle.rules.specs.Start.{Start}
use Rattle.rules.specs.Step.{is_served, ready, head_at, advanced, settled, entered, served, step}
use Rattle.rules.specs.Run.{Happening, action_of, happened}
use Rattle.rules.specs.Run.Happening.{serving}
use Rattle.rules.proofs.History.{final_number, not_final_number}
use Rattle.rules.proofs.Invariant.{moment_of, Invariant}
use Rattle.rules.proofs.Serving.{Serving}
use Rattle.rules.proofs.Waits.{next_unwaiting}
use Rattle.table.specs.Touch.{Within, Worded, Touchable}
use Rattle.table.proofs.Words.{decode_words}
use Rattle.table.proofs.Within.{access_within}
use Rattle.stepper.specs.Buffers.{row_in, stored, flat_rows, rows_of}
use Rattle.stepper.specs.Shown.{Buffers, noted, shown}
use Rattle.stepper.specs.Waits.{frees, Renewable}
use Rattle.stepper.proofs.Lists.{row_shown, stored_shown, rows_back}
use Rattle.stepper.proofs.Shown.{entered_shown, count_shown}
use Rattle.stepper.proofs.Raisable.{stage_raisable}
use Rattle.stepper.proofs.Reached.{Reached}
use Rattle.stepper.proofs.Waiting.{noted_free, busy_free, none_free, noted_same, Answered, renewable, again_shown, left_shown}

-- What the step of a head is that is served.
pub step_served : (qs : List Request) (ws : List Wait) (S : State) (h : ℕ) → is_served qs ws S.report (head_at S h) ≡ true
    → step qs ws S h ≡ served qs S h (ready qs (head_at S h))
unfolding step
step_served qs ws S h t = rw t refl

pub happened_served : (qs : List Request) (ws : List Wait) (S : State) (h : ℕ) → is_served qs ws S.report (head_at S h) ≡ true
    → happened qs ws S h ≡ serving (ready qs (head_at S h)).task.request (action_of S (ready qs (head_at S h)))
unfolding happened
happened_served qs ws S h t = rw t refl

-- A table of a run has words.
pub invariant_worded : {qs : List Request} {n groups : ℕ} {B : Labels} {S : State} {past : List Happening} → Invariant qs n B groups S past
    → Worded S.table
invariant_worded {n = n} inv =
    record {
      rank = λ i h. omega (arith, rank_at_most inv.sound 16 (omega (arith, inv.sound.formed.limit)) i (omega (arith, inv.nodes)));
      parent = λ i h. omega (arith, inv.sound.formed.limit, inv.sound.formed.inside i (omega (arith, inv.nodes)));
    }

-- A head's record.
pub record_shown : {origin : Start} {qs : List Request} {ws : List Wait} {n : ℕ} {b : Buffers} {number : ℕ} {S : State}
    {past : List Happening} {lent : List ℕ} → Reached origin qs ws n b number S past lent → (h : ℕ) → h < most_heads
    → get_or b.heads h (resting 0) ≡ noted ws S.report (head_at S h)
record_shown {ws = ws} {S = S} here h present =
    ap (λ c. get_or c.heads h (resting 0)) here.shows
    ∙ get_or_mapped (noted ws S.report) S.heads h (resting 0) (resting 0) (omega (arith, here.heads))

module _ {origin : Start} {qs : List Request} {ws : List Wait} {n : ℕ} {b : Buffers} {number : ℕ} {S : State} {past : List Happening}
    {lent : List ℕ} (here : Reached origin qs ws n b number S past lent) (h : ℕ) (present : h < most_heads)
    (in_service : Serving qs n origin.labels S past h (ready qs (head_at S h))) where
  abbrev head : Head
  head = ready qs (head_at S h)

  access_here : Within (length S.table) (access_of head)
  unfolding access_of
  access_here =
      subst (λ k. Within k (access_of head)) (sym here.invariant.nodes)
      (access_within (moment_of qs n origin.labels S) _ head.task head.stage in_service.knows)

  -- the head is as the rules have it, but for what it waits for
  pub head_shown : wait_of ws S.report (head_at S h) ≡ no_wait → ready qs (get_or b.heads h (resting 0)) ≡ head
  head_shown free =
      ap (ready qs) (record_shown here h present ∙ noted_free ws S.report (head_at S h) (here.unwaiting h) free)

  -- the words are those of the rules' nodes
  nodes_shown : map decode b.table ≡ S.table
  nodes_shown = ap (λ c. map decode c.table) here.shows ∙ decode_words S.table (invariant_worded here.invariant)

  pub head_touchable : Touchable (map decode b.table) (access_of head)
  head_touchable =
      subst (λ t. Touchable t (access_of head)) (sym nodes_shown)
      (record { node = access_here; worded = invariant_worded here.invariant })

  pub head_raisable : Raisable head.stage
  head_raisable =
      stage_raisable (moment_of qs n origin.labels S) _ head.task
      here.invariant.sound.formed.limit head.stage in_service.knows

  pub moved_here : advance_of head (seen (map decode b.table) (access_of head)) number ≡ advanced S head
  moved_here = ap₂ (λ t g. advance_of head (seen t (access_of head)) g) nodes_shown here.next

  pub row_here : row_in b.report (4 * head.task.request) ≡ get_or S.report head.task.request no_row
  row_here =
      ap (λ c. row_in c.report (4 * head.task.request)) here.shows
      ∙ row_shown S.report head.task.request (omega (arith, in_service.within, here.invariant.reports))

  -- what each part of the grant left
  module _ (moved : Advanced) (table' report' linearization' : List ℕ) (entries' mask' : ℕ) (next : Head)
      (is-moved : moved ≡ advance_of head (seen (map decode b.table) (access_of head)) number)
      (is-table : table' ≡ map encode (touched (map decode b.table) (access_of head)))
      (is-report : report' ≡ stored b.report (4 * head.task.request)
      (charge (row_in b.report (4 * head.task.request)) number moved.event.answer))
      (is-linearization : linearization' ≡ cond (eqb moved.event.point 0) b.linearization
      (inserted b.linearization b.entries moved.event.point head.task.request))
      (is-entries : entries' ≡ cond (eqb moved.event.point 0) b.entries (b.entries + 1))
      (is-next : next ≡ settled qs h moved)
      (is-mask : mask' ≡ cond (ltb next.task.request (length qs)) b.mask (b.mask - 2 ^ h)) where
    to_advanced : moved ≡ advanced S head
    to_advanced = is-moved ∙ moved_here

    to_next : next ≡ settled qs h (advanced S head)
    to_next = is-next ∙ ap (settled qs h) to_advanced

    table_shown : table' ≡ map encode (touched S.table (access_of head))
    table_shown = is-table ∙ ap (λ t. map encode (touched t (access_of head))) nodes_shown

    abbrev rows : List Row
    rows = set S.report head.task.request
        (charge (get_or S.report head.task.request no_row) (suc S.now) (advanced S head).event.answer)

    pub report_shown : report' ≡ flat_rows rows
    report_shown =
        let old = get_or S.report head.task.request no_row in
        let new = charge old (suc S.now) (advanced S head).event.answer in
        let row : charge (row_in b.report (4 * head.task.request)) number moved.event.answer ≡ new =
        ap₂ (λ r g. charge r g moved.event.answer) row_here here.next
        ∙ ap (λ m. charge old (suc S.now) m.event.answer) to_advanced in
        is-report ∙ ap₂ (λ c r. stored c.report (4 * head.task.request) r) here.shows row
        ∙ stored_shown S.report head.task.request new (omega (arith, in_service.within, here.invariant.reports))

    linearization_shown : linearization' ≡ flat (entered S.entries head.task.request (advanced S head).event)
        ++ drop (2 * length (entered S.entries head.task.request (advanced S head).event)) lent
    linearization_shown =
        is-linearization
        ∙ ap₂ (λ m c. cond (eqb m.event.point 0) c.linearization
        (inserted c.linearization c.entries m.event.point head.task.request)) to_advanced here.shows
        ∙ entered_shown S.entries head.task.request (advanced S head).event lent

    entries_shown : entries' ≡ length (entered S.entries head.task.request (advanced S head).event)
    entries_shown =
        is-entries ∙ ap₂ (λ m c. cond (eqb m.event.point 0) c.entries (c.entries + 1)) to_advanced here.shows
        ∙ count_shown S.entries head.task.request (advanced S head).event

    -- the head had work left: its bit stays, or is cleared
    mask_shown : has_work qs (head_at S h) ≡ true → mask' ≡ mask_of (map (has_work qs) (set S.heads h (settled qs h (advanced S head))))
    mask_shown work =
        is-mask ∙ ap₂ (λ k c. cond (ltb k.task.request (length qs)) c.mask (c.mask - 2 ^ h)) to_next here.shows
        ∙ split (has_work qs (settled qs h (advanced S head)))
        (λ t. rw t (sym (mask_kept (has_work qs) (resting 0) S.heads h (settled qs h (advanced S head)) (t ∙ sym work))))
        (λ t. rw t (mask_left (has_work qs) (resting 0) S.heads h (omega (arith, here.heads)) work (settled qs h (advanced S head)) t))

    -- ---- what the heads wait for

    abbrev seats : List Head
    seats = set (map (noted ws S.report) S.heads) h (settled qs h (advanced S head))

    -- the records before they are looked at again
    pub seats_shown : set b.heads h next ≡ seats
    seats_shown = ap₂ (λ c k. set c.heads h k) here.shows to_next

    answer_now : (row_at rows head.task.request).answer ≡ answer_number (advanced S head).event.answer
    unfolding charge
    answer_now =
        ap (λ r. r.answer)
        (get_or-set_same S.report head.task.request _ no_row (omega (arith, in_service.within, here.invariant.reports)))

    -- where the request is finished
    final_answered : is_final (advanced S head).event.answer ≡ true → Answered S.report rows head.task.request
    final_answered final =
        record {
          finished = ne_eqb (row_at rows head.task.request).answer 0 (λ z.
              final_number (advanced S head).event.answer final (sym answer_now ∙ z));
          others = λ e d. ap (λ r. eqb r.answer 0) (get_or-set_other S.report head.task.request e _ no_row d);
        }

    pub seats_renewable : is_final moved.event.answer ≡ true
        → Renewable ws (rows_of report') (set b.heads h next) h head.task.request
    seats_renewable final =
        subst₂ (λ r s. Renewable ws r s h head.task.request)
        (sym (ap rows_of report_shown ∙ rows_back rows)) (sym seats_shown)
        (renewable ws (final_answered (ap (λ m. is_final m.event.answer) (sym to_advanced) ∙ final))
        S.heads h (settled qs h (advanced S head)) here.heads)

    -- where it is not, every answer stays
    kept_answers : is_final (advanced S head).event.answer ≡ false → (e : ℕ) → unfinished rows e ≡ unfinished S.report e
    kept_answers f e = go (ℕ_discrete e head.task.request)
      where
        r : ℕ
        r = head.task.request

        go : Dec (e ≡ head.task.request) → unfinished rows e ≡ unfinished S.report e
        go (yes is) =
            rw is (eq-eqb (row_at rows r).answer 0 (answer_now ∙ not_final_number (advanced S head).event.answer f)
            ∙ sym (eq-eqb (row_at S.report r).answer 0
            (ap (λ w. w.answer) (here.invariant.rows r in_service.within) ∙ in_service.unfinished)))
        go (no d) = ap (λ w. eqb w.answer 0) (get_or-set_other S.report r e _ no_row d)

    -- a head that is not freed keeps its record
    module _ (busy : is_final (advanced S head).event.answer ≡ false → is_resting (advanced S head).head ≡ false)
        (kept : frees (length ws) (advanced S head).event.answer ≡ false) where
      abbrev last : Head
      last = settled qs h (advanced S head)

      others_stay : (k : Head) → noted ws rows k ≡ noted ws S.report k
      others_stay k =
          split (eqb (length ws) 0)
          (λ t. let none = eqb-true (length ws) 0 t in ap (waiting_for k) (none_free ws none rows k ∙ sym (none_free ws none S.report k)))
          (λ f. noted_same ws S.report rows (kept_answers (rw f at kept)) k)

      next_stays : noted ws rows last ≡ last
      next_stays =
          noted_free ws rows last (next_unwaiting qs S h here.unwaiting)
          (split (eqb (length ws) 0)
          (λ t. none_free ws (eqb-true (length ws) 0 t) rows last)
          (λ f. let going = rw f at kept in busy_free ws rows last (rw going (busy going))))

      left_here : seats ≡ map (noted ws rows) (set S.heads h last)
      left_here = left_shown ws S.report rows S.heads h last others_stay next_stays

    heads_shown : (heads' : List Head) → (is_final (advanced S head).event.answer ≡ false → is_resting (advanced S head).head ≡ false)
        → heads' ≡ cond (frees (length ws) moved.event.answer) (map (noted ws (rows_of report')) (set b.heads h next))
        (set b.heads h next)
        → heads' ≡ map (noted ws rows) (set S.heads h (settled qs h (advanced S head)))
    heads_shown heads' busy is =
        let back : rows_of report' ≡ rows = ap rows_of report_shown ∙ rows_back rows in
        is
        ∙ (λ i. cond (frees (length ws) (to_advanced i).event.answer) (map (noted ws (back i)) (seats_shown i)) (seats_shown i))
        ∙ split (frees (length ws) (advanced S head).event.answer)
        (λ t. rw t (again_shown ws S.report rows S.heads h (settled qs h (advanced S head))))
        (λ f. rw f (left_here busy f))

    pub served_shown : (heads' : List Head)
        → (is_final (advanced S head).event.answer ≡ false → is_resting (advanced S head).head ≡ false)
        → heads' ≡ cond (frees (length ws) moved.event.answer) (map (noted ws (rows_of report')) (set b.heads h next))
        (set b.heads h next)
        → is_served qs ws S.report (head_at S h) ≡ true
        → record {
          heads = heads';
          table = table';
          report = report';
          linearization = linearization';
          entries = entries';
          mask = mask';
        }
        ≡ shown qs ws (step qs ws S h) lent
    served_shown heads' busy is-heads served =
        (λ i. record {
          heads = heads_shown heads' busy is-heads i;
          table = table_shown i;
          report = report_shown i;
          linearization = linearization_shown i;
          entries = entries_shown i;
          mask = mask_shown (both_left (has_work qs (head_at S h)) _ served) i;
        })
        ∙ ap (λ T. shown qs ws T lent) (sym (step_served qs ws S h served))
