-- Document 02, A3: the record of a head has what the head waits for, after every grant of every run.
--
-- Main law: waits_known.
use mathlib.Core.Path.{◌≡◌, sym, ap, ◌∙◌}
use mathlib.Core.List.{List}
use Prim.Native.Nat.{ℕ, suc, ◌<◌}
use native.Mathlib.Omega.{arith}
use lib.ListN.{get_or}
use Rattle.basics.proofs.Conditions.{split}
use Rattle.reader.specs.declared.Checked.{Checked}
use Rattle.reader.specs.Reader.{Playing}
use Rattle.job.specs.Job.{most_heads}
use Rattle.process.specs.Process.{is_resting, no_wait}
use Rattle.jobfile.specs.Meaning.{meaning}
use Rattle.rules.specs.State.{State, resting, wait_of}
use Rattle.rules.specs.Start.{Start}
use Rattle.rules.specs.Step.{head_at}
use Rattle.rules.specs.Waits.{pair}
use Rattle.rules.proofs.Lowest.{lowest_found, lowest_told}
use Rattle.stepper.specs.Shown.{Buffers, state_after, waits_in, Standing}
use Rattle.stepper.specs.Waits.{WaitsFor, Known}
use Rattle.stepper.proofs.Reached.{playing_admitted, reached}
use Rattle.stepper.proofs.Served.{record_shown}
use Rattle.stepper.proofs.Pairs.{admitted_rises, admitted_pair}

module _ {file : List ℕ} {counts : Checked} (playing : Playing file counts) {origin : Start} {b : Buffers} {number : ℕ} {gs lent : List ℕ}
    (standing : Standing origin (meaning file).job b number gs lent) where
  abbrev S : State
  S = state_after origin (meaning file).job gs

  told : (h : ℕ) → h < most_heads → (get_or b.heads h (resting 0)).task.waits ≡ wait_of (waits_in file) S.report (head_at S h)
  told h present = ap (λ k. k.task.waits) (record_shown (reached playing standing) h present)

  -- a head that waits for a request rests, and that request is the lowest of its pairs
  waits_for : (h e : ℕ) → wait_of (waits_in file) S.report (head_at S h) ≡ suc e → WaitsFor (meaning file).job S h e
  waits_for h e is =
      split (is_resting (head_at S h))
      (λ t.
      let q = (head_at S h).task.request in
      let rises = admitted_rises (meaning file).job (playing_admitted playing) in
      let lowest = lowest_found (waits_in file) S.report q e rises (rw t at is) in
      record {
        rests = t;
        next = (admitted_pair (meaning file).job (playing_admitted playing) (pair q e) lowest.waits).later;
        lowest = lowest;
      })
      (λ f. let none : no_wait ≡ suc e = rw f at is in absurd (omega arith))

  waits_told : (h e : ℕ) → WaitsFor (meaning file).job S h e → wait_of (waits_in file) S.report (head_at S h) ≡ suc e
  waits_told h e w =
      rw w.rests
      (lowest_told (waits_in file) S.report (head_at S h).task.request e
      (admitted_rises (meaning file).job (playing_admitted playing)) w.lowest)

  pub waits_known : Known (meaning file).job S b
  waits_known h e present = (λ is. waits_for h e (sym (told h present) ∙ is), λ w. told h present ∙ waits_told h e w)
