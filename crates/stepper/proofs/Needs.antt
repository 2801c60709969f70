-- What a served grant asks of its parts, and what it leaves, from a state that the buffers show.
--
-- Main laws: what each part asks of a grant (raisable, touchable_here, charge_room, insertable ..); serve_stepped, what the parts
-- leave together; serve_renewable, the records that are not looked at again; idle_stepped and waiting_stepped, the grant that
-- serves nobody.
use mathlib.Core.Path.{◌≡◌, refl, sym, ap, ◌∙◌, subst}
use mathlib.Core.Logic.{◌≢◌}
use mathlib.Core.Bool.{Bool, true, false, cond, not}
use mathlib.Core.List.{List, [], ◌∷◌, map}
use Prim.Native.Nat.{ℕ, suc, ◌+◌, ◌*◌, ◌-◌, ◌/◌, ◌%◌, ◌^◌, ◌≤◌, ◌<◌}
use native.Mathlib.Omega.{arith}
use lib.Dec.{eqb, ltb}
use lib.ListN.{length, get_or, set, drop, length-drop, length-map}
use borrow.Author.Tests.{eqb-true, ltb-true, ne_eqb, not-true, not-false}
use Rattle.basics.proofs.Conditions.{split, cond_both}
use Rattle.reader.specs.declared.Checked.{Checked}
use Rattle.reader.specs.Reader.{Playing}
use Rattle.job.specs.declared.Request.{Request}
use Rattle.job.specs.declared.Wait.{Wait}
use Rattle.word.specs.Word.{decode, encode}
use Rattle.process.specs.declared.Head.{Head}
use Rattle.process.specs.declared.Advanced.{Advanced}
use Rattle.process.specs.Process.{Raisable, is_resting, no_wait, is_waiting}
use Rattle.process.specs.Access.{access_of}
use Rattle.process.specs.Advance.{advance_of}
use Rattle.linearization.specs.Partition.{Labels}
use Rattle.linearization.specs.Entry.{occurrences, inserted, Insertable}
use Rattle.linearization.proofs.Entries.{length_insert}
use Rattle.linearization.proofs.Replay.{replayed_rising}
use Rattle.linearization.proofs.Numbers.{insertable_shown}
use Rattle.job.specs.Job.{most_heads}
use Rattle.jobfile.specs.Meaning.{meaning}
use Rattle.mask.proofs.Laws.{flag_of}
use Rattle.rules.specs.Table.{seen, touched}
use Rattle.rules.specs.Report.{charge, no_row, row_at, is_final}
use Rattle.rules.specs.State.{request_at, State, seek, resting, has_work, wait_of}
use Rattle.rules.specs.Start.{Start}
use Rattle.rules.specs.Step.{is_served, ready, head_at, advanced, settled, served, passed, step}
use Rattle.rules.specs.Run.{Happening, happened}
use Rattle.rules.specs.Run.Happening.{idle}
use Rattle.rules.specs.History.{count_where, is_of, row_of, link_of}
use Rattle.rules.specs.Linearized.{is_listed}
use Rattle.rules.proofs.Requests.{seek_bound}
use Rattle.rules.proofs.Steps.{advance_keeps}
use Rattle.rules.proofs.Invariant.{Invariant}
use Rattle.rules.proofs.Serving.{Serving, after_busy}
use Rattle.rules.proofs.Grant.{serving_ready, served_effect, step_invariant}
use Rattle.rules.proofs.Theorem.{invariant_linearized}
use Rattle.stepper.specs.declared.Done.{Done}
use Rattle.stepper.specs.declared.Granted.{Granted}
use Rattle.table.specs.Touch.{Touchable}
use Rattle.stepper.specs.Buffers.{row_in, stored, rows_of}
use Rattle.stepper.specs.Shown.{Buffers, buffers, noted, shown, idle_done, used_done, done_of, state_after, history_after}
use Rattle.stepper.specs.Shown.{requests_in, waits_in, Standing, Stepped}
use Rattle.stepper.specs.Waits.{frees, Renewable}
use Rattle.reader.proofs.Playing.{playing_count, playing_waits}
use Rattle.stepper.proofs.Lists.{length_rows}
use Rattle.stepper.proofs.Room.{entries_few}
use Rattle.stepper.proofs.Reached.{Reached, playing_admitted, playing_inside, reached}
use Rattle.stepper.proofs.Served.{step_served, happened_served, record_shown, head_shown, head_touchable, head_raisable}
use Rattle.stepper.proofs.Served.{row_here, moved_here, seats_renewable, served_shown}

-- what the step of a head is that is not served
module _ (qs : List Request) (ws : List Wait) (S : State) (h : ℕ) (unserved : is_served qs ws S.report (head_at S h) ≡ false) where
  step_idle : step qs ws S h ≡ passed S
  unfolding step
  step_idle = rw unserved refl

  happened_idle : happened qs ws S h ≡ idle
  unfolding happened
  happened_idle = rw unserved refl

pub count_bound : (f : Happening → Bool) (past : List Happening) → count_where f past ≤ length past
count_bound f [] = omega arith
count_bound f (a ∷ past) = split (f a) (λ t. rw t (omega (arith, count_bound f past))) (λ t. rw t (omega (arith, count_bound f past)))

-- ---- what holds of every state of a run

module _ {qs : List Request} {n groups : ℕ} {B : Labels} {S : State} {past : List Happening} (inv : Invariant qs n B groups S past) where
  listed_once : (q : ℕ) → q < length qs → occurrences q S.entries ≤ 1
  listed_once q l =
      split (is_listed (row_at S.report q) (link_of q past))
      (λ t. omega (arith, (invariant_linearized inv).listed q l, ap {B = ℕ} (λ b. cond b 1 0) t))
      (λ t. omega (arith, (invariant_linearized inv).listed q l, ap {B = ℕ} (λ b. cond b 1 0) t))

  pub invariant_few : length S.entries ≤ length qs
  invariant_few = entries_few S.entries (length qs) (invariant_linearized inv).requests listed_once

  used_bound : (q : ℕ) → q < length qs → (get_or S.report q no_row).used ≤ S.now
  unfolding row_of
  used_bound q l = omega (arith, ap (λ r. r.used) (inv.rows q l), count_bound (is_of q) past, inv.clock)

-- ---- what an accepted file says

pub next_small : {file : List ℕ} {counts : Checked} → Playing file counts → (h from : ℕ) → from ≤ counts.requests
    → seek (requests_in file) h from < 65536
next_small {file} playing h from l =
    omega (arith, seek_bound (requests_in file) h from (omega (arith, playing_count playing)), (playing_admitted playing).few_requests)

-- ---- a served grant

module _ {file : List ℕ} {counts : Checked} {h number : ℕ} {b : Buffers} (playing : Playing file counts) (present : h < most_heads)
    {origin : Start} {gs lent : List ℕ} (standing : Standing origin (meaning file).job b number gs lent) where
  abbrev qs : List Request
  qs = requests_in file

  abbrev S : State
  S = state_after origin (meaning file).job gs

  abbrev past : List Happening
  past = history_after origin (meaning file).job gs

  abbrev ws : List Wait
  ws = waits_in file

  here : Reached origin qs ws (meaning file).job.nodes b number S past lent
  here = reached playing standing

  -- the mask tells whether the head has work left
  pub work_shown : eqb (b.mask / 2 ^ h % 2) 1 ≡ has_work qs (head_at S h)
  work_shown =
      ap (λ c. eqb (c.mask / 2 ^ h % 2) 1) here.shows ∙ flag_of (has_work qs) (resting 0) S.heads h (omega (arith, here.heads))

  -- there is a record for each head
  pub records_all : length b.heads ≡ most_heads
  records_all = ap (λ c. length c.heads) here.shows ∙ length-map S.heads (noted ws S.report) ∙ here.heads

  pub rows_room : 4 * counts.requests ≤ length b.report
  rows_room =
      omega (
        arith,
        ap (λ c. length c.report) here.shows,
        length_rows S.report,
        here.invariant.reports,
        playing_count playing,
      )

  -- and its record whether it waits
  wait_shown : is_waiting (get_or b.heads h (resting 0)) ≡ not (eqb (wait_of ws S.report (head_at S h)) no_wait)
  wait_shown = ap is_waiting (record_shown here h present)

  -- an idle grant leaves the buffers as they are
  module _ (r : Granted) (is : r ≡ record { heads = b.heads; entries = b.entries; mask = b.mask; done = idle_done }) where
    abbrev Idled : Granted → Type 0
    Idled g =
        Stepped file h (buffers g.heads b.table b.report b.linearization g.entries g.mask) g.done origin gs lent

    idled_here : is_served qs ws S.report (head_at S h) ≡ false → Idled r
    idled_here unserved =
        subst Idled (sym is)
        (record {
          buffers = here.shows ∙ ap (λ T. shown qs ws T lent) (sym (step_idle qs ws S h unserved));
          done = ap done_of (sym (happened_idle qs ws S h unserved));
        })

    -- a head has no work left,
    pub idle_stepped : eqb (b.mask / 2 ^ h % 2) 1 ≡ false → Idled r
    idle_stepped bit = idled_here (rw (sym work_shown ∙ bit))

    -- or waits
    pub waiting_stepped : is_waiting (get_or b.heads h (resting 0)) ≡ true → Idled r
    waiting_stepped waits =
        let some : eqb (wait_of ws S.report (head_at S h)) no_wait ≡ false = not-true _ (sym wait_shown ∙ waits) in
        idled_here (rw some (cond_both (λ t. t ≡ false) (has_work qs (head_at S h)) refl refl))

  module _ (bit : eqb (b.mask / 2 ^ h % 2) 1 ≡ true) (free : is_waiting (get_or b.heads h (resting 0)) ≡ false) where
    work : has_work qs (head_at S h) ≡ true
    work = sym work_shown ∙ bit

    none : eqb (wait_of ws S.report (head_at S h)) no_wait ≡ true
    none = not-false _ (sym wait_shown ∙ free)

    goes : is_served qs ws S.report (head_at S h) ≡ true
    goes = rw (work, none)

    in_service : Serving qs (meaning file).job.nodes origin.labels S past h (ready qs (head_at S h))
    in_service =
        serving_ready (playing_inside playing) here.invariant h (omega (arith, here.heads))
        (ltb-true (head_at S h).task.request (length qs) work)

    pub next_within : (get_or b.heads h (resting 0)).task.request < counts.requests
    next_within =
        omega (
          arith,
          ap (λ k. k.task.request) (record_shown here h present),
          ltb-true (head_at S h).task.request (length qs) work,
          playing_count playing,
        )

    pub entries_small : b.entries < 4294967295
    entries_small =
        omega (arith, ap (λ c. c.entries) here.shows, invariant_few here.invariant, (playing_admitted playing).few_requests)

    module _ (head : Head) (is-head : head ≡ ready qs (get_or b.heads h (resting 0))) where
      to_head : head ≡ ready qs (head_at S h)
      to_head = is-head ∙ head_shown here h present in_service (eqb-true (wait_of ws S.report (head_at S h)) no_wait none)

      pub raisable : Raisable head.stage
      raisable = subst (λ k. Raisable k.stage) (sym to_head) (head_raisable here h present in_service)

      pub touchable_here : Touchable (map decode b.table) (access_of head)
      touchable_here = subst (λ k. Touchable (map decode b.table) (access_of k)) (sym to_head) (head_touchable here h present in_service)

      pub request_within : head.task.request < length qs
      request_within = omega (arith, ap (λ k. k.task.request) to_head, in_service.within)

      pub charge_room : 4 * head.task.request + 4 ≤ length b.report
      charge_room =
          omega (arith, ap (λ c. length c.report) here.shows, length_rows S.report, here.invariant.reports, request_within)

      pub charge_used : number < 4294967296 → (row_in b.report (4 * head.task.request)).used < 4294967295
      charge_used small =
          let served = (ready qs (head_at S h)).task.request in
          let row : (row_in b.report (4 * head.task.request)).used ≡ (get_or S.report served no_row).used =
          ap (λ k. (row_in b.report (4 * k.task.request)).used) to_head ∙ ap (λ r. r.used) (row_here here h present in_service) in
          omega (arith, row, used_bound here.invariant (ready qs (head_at S h)).task.request in_service.within, here.next)

      module _ (moved : Advanced) (is-moved : moved ≡ advance_of head (seen (map decode b.table) (access_of head)) number) where
        to_moved : moved ≡ advance_of (ready qs (head_at S h)) (seen (map decode b.table) (access_of (ready qs (head_at S h)))) number
        to_moved = is-moved ∙ ap (λ k. advance_of k (seen (map decode b.table) (access_of k)) number) to_head

        pub moved_within : moved.head.task.request < counts.requests
        unfolding advance_of
        moved_within =
            let w = seen (map decode b.table) (access_of head) in
            let kept = (advance_keeps head.task w number head.stage).request in
            omega (arith, ap (λ m. m.head.task.request) is-moved, kept, request_within, playing_count playing)

        -- the head serves a request of its own
        pub own_request : (request_at qs moved.head.task.request).head ≡ h
        unfolding advance_of
        own_request =
            let w = seen (map decode b.table) (access_of head) in
            let kept : moved.head.task.request ≡ (ready qs (head_at S h)).task.request =
            ap (λ m. m.head.task.request) is-moved ∙ (advance_keeps head.task w number head.stage).request
            ∙ ap (λ k. k.task.request) to_head in
            ap (λ q. (request_at qs q).head) kept ∙ in_service.own

        -- an entry of this grant has room
        entries_after : eqb moved.event.point 0 ≡ false → suc (length S.entries) ≤ length qs
        entries_after t =
            let S' = served qs S h (ready qs (head_at S h)) in
            let point : eqb (advanced S (ready qs (head_at S h))).event.point 0 ≡ false =
            ap (λ m. eqb m.event.point 0) (sym (to_moved ∙ moved_here here h present in_service)) ∙ t in
            let entry = (advanced S (ready qs (head_at S h))).event.point in
            let more : length S'.entries ≡ suc (length S.entries) =
            rw point (length_insert entry (ready qs (head_at S h)).task.request S.entries) in
            omega (
              arith,
              more,
              ap (λ T. length T.entries) (step_served qs ws S h goes),
              invariant_few (step_invariant (playing_inside playing) here.invariant h (omega (arith, here.heads)) ws),
            )

        pub insertable : moved.event.point ≢ 0 → Insertable b.linearization b.entries
        insertable d =
            subst (λ c. Insertable c.linearization c.entries) (sym here.shows)
            (insertable_shown S.entries (drop (2 * length S.entries) lent)
            (omega (arith, length-drop (2 * length S.entries) lent, here.room, entries_after (ne_eqb moved.event.point 0 d)))
            (replayed_rising here.invariant.entries))

        -- the report and the linearization after a grant of that head
        abbrev charged_report : Head → List ℕ
        charged_report k =
            stored b.report (4 * k.task.request) (charge (row_in b.report (4 * k.task.request)) number moved.event.answer)

        abbrev entered_linearization : Head → List ℕ
        entered_linearization k =
            cond (eqb moved.event.point 0) b.linearization
            (inserted b.linearization b.entries moved.event.point k.task.request)

        -- a head whose request goes on is busy with it
        still_busy : is_final (advanced S (ready qs (head_at S h))).event.answer ≡ false
            → is_resting (advanced S (ready qs (head_at S h))).head ≡ false
        still_busy =
            after_busy (served_effect (playing_inside playing) here.invariant h (omega (arith, here.heads)) in_service).after

        serve_done : (done : Done) → done ≡ used_done moved.event → done ≡ done_of (happened qs ws S h)
        serve_done done is =
            is ∙ ap (λ m. used_done m.event) (to_moved ∙ moved_here here h present in_service)
            ∙ ap done_of (sym (happened_served qs ws S h goes))

        module _ (table' report' linearization' : List ℕ) (entries' mask' : ℕ) (next : Head)
            (is-table : table' ≡ map encode (touched (map decode b.table) (access_of head)))
            (is-report : report' ≡ charged_report head)
            (is-linearization : linearization' ≡ entered_linearization head)
            (is-entries : entries' ≡ cond (eqb moved.event.point 0) b.entries (b.entries + 1))
            (is-next : next ≡ settled qs h moved)
            (is-mask : mask' ≡ cond (ltb next.task.request counts.requests) b.mask (b.mask - 2 ^ h)) where
          pub serve_renewable : is_final moved.event.answer ≡ true
              → Renewable ws (rows_of report') (set b.heads h next) h head.task.request
          serve_renewable final =
              subst (λ k. Renewable ws (rows_of report') (set b.heads h next) h k.task.request) (sym to_head)
              (seats_renewable here h present in_service moved table' report' linearization' entries' mask' next to_moved
              (is-table ∙ ap (λ k. map encode (touched (map decode b.table) (access_of k))) to_head)
              (is-report ∙ ap charged_report to_head)
              (is-linearization ∙ ap entered_linearization to_head)
              is-entries is-next
              (is-mask ∙ ap (λ k. cond (ltb next.task.request k) b.mask (b.mask - 2 ^ h)) (playing_count playing))
              final)

          -- the parts together are the step, with the heads as the report wants them
          pub serve_stepped : (heads' : List Head)
              → heads' ≡ cond (frees counts.waits moved.event.answer) (map (noted ws (rows_of report')) (set b.heads h next))
              (set b.heads h next)
              → (r : Granted) → r ≡ record { heads = heads'; entries = entries'; mask = mask'; done = used_done moved.event }
              → Stepped file h (buffers r.heads table' report' linearization' r.entries r.mask) r.done origin gs lent
          serve_stepped heads' is-heads r is =
              record {
                buffers = ap (λ g. buffers g.heads table' report' linearization' g.entries g.mask) is
                    ∙ served_shown here h present in_service moved table' report' linearization' entries' mask' next to_moved
                    (is-table ∙ ap (λ k. map encode (touched (map decode b.table) (access_of k))) to_head)
                    (is-report ∙ ap charged_report to_head)
                    (is-linearization ∙ ap entered_linearization to_head)
                    is-entries is-next
                    (is-mask ∙ ap (λ k. cond (ltb next.task.request k) b.mask (b.mask - 2 ^ h)) (playing_count playing))
                    heads' still_busy
                    (is-heads ∙ ap (λ k. cond (frees k moved.event.answer)
                    (map (noted ws (rows_of report')) (set b.heads h next)) (set b.heads h next)) (playing_waits playing))
                    goes;
                done = serve_done r.done (ap (λ g. g.done) is);
              }
