-- What a play leaves, where a sheet is made of it: the buffers hold the run's rows and entries.
--
--   CallPlayed file left   what is known of what the call's play left
--
-- Main laws: run_line_up, a run has the report and the line-up that the promises ask for; played_accepted and cut_holding, what
-- the play of an accepted file leaves; call_played; run_readable and run_text_printed, the text of it.
use Rattle.std.specs.Prelude.{Option}
use mathlib.Core.Path.{◌≡◌, refl, sym, ap, ◌∙◌, subst}
use mathlib.Core.Logic.{◌≢◌}
use mathlib.Core.Bool.{Bool}
use mathlib.Core.List.{List, [], ◌∷◌, ◌++◌}
use Prim.Native.Nat.{ℕ, ◌*◌, ◌≤◌}
use native.Mathlib.Omega.{arith}
use native.Mathlib.Decide.{ℕ_discrete}
use lib.ListN.{length, drop, replicate, length-append, length-replicate}
use borrow.Author.Tests.{le-ltb, eq-eqb, ne_eqb}
use Rattle.job.specs.Job.{Job, most_nodes, most_requests}
use Rattle.jobfile.specs.Meaning.{meaning}
use Rattle.jobfile.specs.Admitted.{Admitted, Bytes}
use Rattle.jobfile.proofs.RoundTrip.{admitted_meaning}
use Rattle.reader.specs.declared.Checked.{Checked}
use Rattle.reader.specs.Reader.{Playing}
use Rattle.reader.proofs.Playing.{playing_count}
use Rattle.rules.specs.declared.Row.{Row}
use Rattle.rules.specs.Start.{Start, Initial}
use Rattle.rules.proofs.Theorem.{invariant_linearized}
use Rattle.stepper.specs.Buffers.{flat_rows}
use Rattle.stepper.proofs.Lists.{length_rows}
use Rattle.stepper.proofs.Reached.{playing_admitted}
use Rattle.turns.specs.Turns.{run_of}
use Rattle.player.specs.Player.{Left, cut_of, origin_in, lent_refusal, play_refusal, played_of}
use Rattle.player.specs.Cuts.{LongEnough}
use Rattle.player.proofs.Demand.{run_ended, origin_initial}
use Rattle.sheet.specs.Call.{run_in, run_text}
use Rattle.sheet.specs.Agree.{LineUp, Numbers}
use Rattle.sheet.specs.Buffers.{Numbered, sheet_in, Readable, HoldingRun}
use Rattle.sheet.proofs.Sheets.{linearized_line_up, numbers_none, numbers_next}
use Rattle.sheet.proofs.Buffers.{holding_text, holding_readable}

-- ---- a run

pub run_line_up : {origin : Start} (j : Job) → Initial j.nodes origin → Admitted j
    → LineUp (run_of origin j).report (run_of origin j).entries
run_line_up j initial admitted =
    let ended = run_ended j initial admitted in
    linearized_line_up (invariant_linearized ended) ended.reports

numbers_rows : (rows : List Row) (past : List ℕ) → Numbers (flat_rows rows ++ past) rows
numbers_rows [] past = numbers_none past
numbers_rows (row ∷ rows) past = numbers_next row rows (flat_rows rows ++ past) (numbers_rows rows past)

-- ---- a play on any buffers

module _ (file table report linearization : List ℕ) where
  played_refused : (meaning file).number ≢ 0 → (played_of file table report linearization).result.number ≡ (meaning file).number
  unfolding play_refusal played_of
  played_refused refused = simp (ne_eqb (meaning file).number 0 refused)

  module _ (accepted : (meaning file).number ≡ 0) where
    pub played_accepted : LongEnough (meaning file).job table report linearization
        → played_of file table report linearization ≡ cut_of (origin_in file) (meaning file).job table report linearization
    unfolding play_refusal played_of
    played_accepted enough = simp (eq-eqb (meaning file).number 0 accepted, enough)

    pub cut_holding : Bytes file → (left : Left) → left ≡ cut_of (origin_in file) (meaning file).job table report linearization
        → HoldingRun file left.report left.linearization left.result.entries
    cut_holding bytes left is =
        let j = (meaning file).job in
        let end = run_in file in
        subst (λ (l : Left). HoldingRun file l.report l.linearization l.result.entries) (sym is) (record {
          line_up = run_line_up j (origin_initial file) (admitted_meaning file bytes accepted);
          report_long = omega (
            arith,
            length-append (flat_rows end.report) (drop (4 * length j.requests) report),
            length_rows end.report,
          );
          report_rows = numbers_rows end.report (drop (4 * length j.requests) report);
          past = drop (2 * length end.entries) linearization;
          listed = refl;
          counted = refl;
        })

-- ---- on buffers for the largest job

pub record CallPlayed (file : List ℕ) (left : Left) : Type 0 where
  -- only the file is refused
  pub number : left.result.number ≡ (meaning file).number
  pub heads : left.result.number ≡ 0 → left.result.heads ≡ (meaning file).job.heads
  pub holding : left.result.number ≡ 0 → HoldingRun file left.report left.linearization left.result.entries

module _ (file table report linearization : List ℕ) (bytes : Bytes file)
    (nodes : most_nodes ≤ length table) (rows : 4 * most_requests ≤ length report) (room : 2 * most_requests ≤ length linearization) where
  large_enough : Admitted (meaning file).job → LongEnough (meaning file).job table report linearization
  unfolding lent_refusal
  large_enough admitted =
      let j = (meaning file).job in
      rw (
        le-ltb (length table) j.nodes (omega (arith, admitted.few_nodes)),
        le-ltb (length report) (4 * length j.requests) (omega (arith, admitted.few_requests)),
        le-ltb (length linearization) (2 * length j.requests) (omega (arith, admitted.few_requests)),
      )

  module _ (left : Left) (is : left ≡ played_of file table report linearization) where
    to_cut : (meaning file).number ≡ 0 → left ≡ cut_of (origin_in file) (meaning file).job table report linearization
    to_cut accepted =
        is ∙ played_accepted file table report linearization accepted (large_enough (admitted_meaning file bytes accepted))

    played_number : left.result.number ≡ (meaning file).number
    played_number = go (ℕ_discrete (meaning file).number 0)
      where
        go : Dec ((meaning file).number ≡ 0) → left.result.number ≡ (meaning file).number
        go (yes accepted) = ap (λ l. l.result.number) (to_cut accepted) ∙ sym accepted
        go (no refused) = ap (λ l. l.result.number) is ∙ played_refused file table report linearization refused

    large_played : CallPlayed file left
    large_played =
        record {
          number = played_number;
          heads = λ e. ap (λ l. l.result.heads) (to_cut (sym played_number ∙ e));
          holding = λ e.
              let accepted = sym played_number ∙ e in
              cut_holding file table report linearization accepted bytes left (to_cut accepted);
        }

pub call_played : (file : List ℕ) → Bytes file → (left : Left)
    → left ≡ played_of file (replicate most_nodes 0) (replicate (4 * most_requests) 0) (replicate (2 * most_requests) 0)
    → CallPlayed file left
call_played file bytes left is =
    large_played file _ _ _ bytes (omega (arith, length-replicate {A = ℕ} most_nodes 0))
    (omega (arith, length-replicate {A = ℕ} (4 * most_requests) 0)) (omega (arith, length-replicate {A = ℕ} (2 * most_requests) 0)) left is

-- ---- the text of what it leaves

module _ {file : List ℕ} {counts : Checked} (playing : Playing file counts) {report linearization : List ℕ} {entries : ℕ}
    (holding : HoldingRun file report linearization entries) {seen : ℕ → Bool} {numbers : List (Option ℕ)}
    (numbered : Numbered seen counts.requests numbers) where
  -- the run has a row for each request
  rows_all : counts.requests ≡ length (run_in file).report
  rows_all =
      playing_count playing ∙ sym (run_ended (meaning file).job (origin_initial file) (playing_admitted playing)).reports

  pub run_readable : Readable numbers report counts.requests linearization entries
  run_readable = rw rows_all (holding_readable holding numbers (omega (arith, numbered.long, rows_all)))

  pub run_text_printed : sheet_in numbers report counts.requests linearization entries ≡ run_text seen (run_in file)
  run_text_printed =
      let all : Numbered seen (length (run_in file).report) numbers = subst (λ n. Numbered seen n numbers) rows_all numbered in
      rw rows_all (holding_text holding all)
