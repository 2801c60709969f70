-- Demand 3, the laws of every moment, those of waiting and the limits of requests on the buffers: what they hold is what the rules'
-- run leaves, and of that all four hold.
--
-- Main laws: linearized_from, lawful_from, waited_from and bounded_from; origin_initial, a run may start from what a play starts from.
use mathlib.Core.Path.{◌≡◌, sym, ap, ◌∙◌, subst, subst₂, subst₃}
use mathlib.Core.List.{List, ◌++◌, map}
use Prim.Native.Nat.{ℕ, ◌*◌}
use lib.ListN.{length, take, drop, length-map}
use lib.Seq.{take_at}
use Rattle.job.specs.Job.{Job, most_heads}
use Rattle.word.specs.declared.Node.{Node}
use Rattle.word.specs.Word.{decode, encode}
use Rattle.linearization.specs.Entry.{Entry, flat, entries_of}
use Rattle.linearization.proofs.Numbers.{length_flat, entries_of_flat}
use Rattle.jobfile.specs.Meaning.{meaning}
use Rattle.jobfile.specs.Admitted.{Admitted}
use Rattle.rules.specs.declared.Row.{Row}
use Rattle.rules.specs.State.{State, no_request, tally_of}
use Rattle.rules.specs.Start.{Start, Initial}
use Rattle.rules.specs.Start.Initial.{alone}
use Rattle.rules.specs.Linearized.{Playable, Linearized}
use Rattle.rules.specs.Laws.{Lawful}
use Rattle.rules.specs.Waits.{Waited}
use Rattle.rules.specs.Bounds.{Bounded}
use Rattle.rules.proofs.Invariant.{Invariant}
use Rattle.rules.proofs.Theorem.{Startable, initial_startable, linearized}
use Rattle.rules.proofs.Laws.{run_lawful}
use Rattle.rules.proofs.Waits.{run_waited}
use Rattle.rules.proofs.Bounds.{run_bounded}
use Rattle.stepper.specs.Buffers.{flat_rows, rows_of}
use Rattle.table.proofs.Words.{decode_words}
use Rattle.stepper.proofs.Lists.{length_rows, rows_back}
use Rattle.stepper.proofs.Served.{invariant_worded}
use Rattle.stepper.proofs.Reached.{admitted_granted, after_playable, after_invariant, after_now}
use Rattle.turns.specs.Turns.{run_of}
use Rattle.player.specs.Player.{Left, cut_of, origin_in}
use Rattle.player.specs.Demand.{history_of, LinearizedFrom, LawfulFrom, WaitedHere, BoundedHere}

-- ---- from buffers back to lists

module _ {origin : Start} (j : Job) (initial : Initial j.nodes origin) (admitted : Admitted j) where
  abbrev end : State
  end = run_of origin j

  playable : Playable j.nodes most_heads j.requests j.schedule
  playable = after_playable j admitted j.schedule (admitted_granted j admitted)

  startable : Startable j.nodes origin
  startable = initial_startable playable.few initial

  -- the invariant at the end of the run
  pub run_ended : Invariant j.requests j.nodes origin.labels origin.groups end (history_of origin j)
  run_ended = after_invariant j initial admitted j.schedule (admitted_granted j admitted)

  pub table_back : (lent : List ℕ) → map decode (take j.nodes (map encode end.table ++ lent)) ≡ end.table
  table_back lent =
      ap (map decode) (take_at (map encode end.table) lent j.nodes (length-map end.table encode ∙ run_ended.nodes))
      ∙ decode_words end.table (invariant_worded run_ended)

  pub report_back : (lent : List ℕ) → rows_of (take (4 * length j.requests) (flat_rows end.report ++ lent)) ≡ end.report
  report_back lent =
      ap rows_of (take_at (flat_rows end.report) lent (4 * length j.requests)
      (length_rows end.report ∙ ap (λ k. 4 * k) run_ended.reports))
      ∙ rows_back end.report

  entries_back : (lent : List ℕ) → entries_of (take (2 * length end.entries) (flat end.entries ++ lent)) ≡ end.entries
  entries_back lent =
      ap entries_of (take_at (flat end.entries) lent (2 * length end.entries) (length_flat end.entries))
      ∙ entries_of_flat end.entries

  abbrev Shape : List Node → List Row → List Entry → Type 0
  Shape t r e = Linearized origin.labels j.nodes j.requests t r e (history_of origin j)

  left_linearized : (table report linearization : List ℕ)
      → Shape (map decode (take j.nodes (map encode end.table ++ table)))
      (rows_of (take (4 * length j.requests) (flat_rows end.report ++ report)))
      (entries_of (take (2 * length end.entries) (flat end.entries ++ linearization)))
  left_linearized table report linearization =
      subst₃ Shape (sym (table_back table)) (sym (report_back report)) (sym (entries_back linearization))
      (linearized playable j.waits startable)

  abbrev LawfulAt : ℕ → List Node → List Row → Type 0
  LawfulAt grants t r =
      Lawful origin.groups j.nodes j.heads j.requests t r (tally_of j.requests end) grants (history_of origin j)

  -- the job's own heads serve every request; those beyond them have no work
  run_is_lawful : LawfulAt (length j.schedule) end.table end.report
  run_is_lawful =
      subst (λ k. LawfulAt k end.table end.report) (after_now j initial admitted j.schedule (admitted_granted j admitted))
      (run_lawful j.requests j.waits most_heads startable playable j.heads admitted.few_heads
      (λ q l. (admitted.each_request q no_request l).head))

  left_lawful : (table report : List ℕ)
      → LawfulAt (length j.schedule) (map decode (take j.nodes (map encode end.table ++ table)))
      (rows_of (take (4 * length j.requests) (flat_rows end.report ++ report)))
  left_lawful table report =
      subst₂ (LawfulAt (length j.schedule)) (sym (table_back table)) (sym (report_back report)) run_is_lawful

  left_waited : (report linearization : List ℕ)
      → Waited j.waits (rows_of (take (4 * length j.requests) (flat_rows end.report ++ report)))
      (entries_of (take (2 * length end.entries) (flat end.entries ++ linearization)))
  left_waited report linearization =
      subst₂ (Waited j.waits) (sym (report_back report)) (sym (entries_back linearization))
      (run_waited j.requests j.waits most_heads startable playable)

  left_bounded : (report : List ℕ)
      → Bounded j.nodes j.requests (rows_of (take (4 * length j.requests) (flat_rows end.report ++ report)))
  left_bounded report =
      subst (Bounded j.nodes j.requests) (sym (report_back report))
      (run_bounded j.requests j.waits most_heads startable playable)

-- ---- of a file

pub origin_initial : (file : List ℕ) → Initial (meaning file).job.nodes (origin_in file)
origin_initial file = alone

module _ {origin : Start} (file : List ℕ) (initial : Initial (meaning file).job.nodes origin) (admitted : Admitted (meaning file).job)
    (table report linearization : List ℕ) (left : Left) (is : left ≡ cut_of origin (meaning file).job table report linearization) where
  abbrev j : Job
  j = (meaning file).job

  pub linearized_from : LinearizedFrom origin file left.result left.table left.report left.linearization
  linearized_from =
      subst (λ x. LinearizedFrom origin file x.result x.table x.report x.linearization) (sym is)
      (left_linearized j initial admitted (drop j.nodes table) (drop (4 * length j.requests) report)
      (drop (2 * length (run_of origin j).entries) linearization))

  pub lawful_from : LawfulFrom origin file left.result left.table left.report
  lawful_from =
      subst (λ x. LawfulFrom origin file x.result x.table x.report) (sym is)
      (left_lawful j initial admitted (drop j.nodes table) (drop (4 * length j.requests) report))

  pub waited_from : WaitedHere file left.result left.report left.linearization
  waited_from =
      subst (λ x. WaitedHere file x.result x.report x.linearization) (sym is)
      (left_waited j initial admitted (drop (4 * length j.requests) report) (drop (2 * length (run_of origin j).entries) linearization))

  pub bounded_from : BoundedHere file left.result left.report
  bounded_from =
      subst (λ x. BoundedHere file x.result x.report) (sym is)
      (left_bounded j initial admitted (drop (4 * length j.requests) report))
