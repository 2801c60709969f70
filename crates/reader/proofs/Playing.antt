-- The records of a file that is played: its counts are its job's, and each record is whole in its place.
--
--   playing_rights, playing_count, playing_waits, playing_runs   the counts of its rights, requests, pairs and runs
--   request_fits, wait_fits, run_fits            a record of it ends within the file
--   request_read, wait_read, run_read            and is the job's
--   playing_righted, rights_read                 its rights are counted and whole, and are the job's
use mathlib.Core.Path.{◌≡◌, sym, ap, ◌∙◌}
use mathlib.Core.List.{List}
use Prim.Native.Nat.{ℕ, ◌+◌, ◌≤◌, ◌<◌}
use native.Mathlib.Omega.{arith}
use lib.ListN.{length, get_or, drop, length-map}
use Rattle.job.specs.declared.Request.{Request}
use Rattle.job.specs.declared.Wait.{Wait}
use Rattle.job.specs.Job.{right_of}
use Rattle.jobfile.specs.declared.Run.{Run}
use Rattle.jobfile.specs.Format.{request_size, wait_size, run_size, request_place, wait_place, run_place, file_size}
use Rattle.jobfile.specs.Meaning.{right_at, right_records, rights_in, request_at, wait_at, run_at, job_in, meaning}
use Rattle.jobfile.specs.Written.{longest_runs}
use Rattle.jobfile.proofs.RoundTrip.{job_meant}
use Rattle.jobfile.proofs.Places.{file_length, request_stands, wait_stands, run_stands}
use Rattle.reader.specs.declared.Checked.{Checked}
use Rattle.records.specs.Records.{Righted}
use Rattle.reader.specs.Reader.{Playing}

module _ {file : List ℕ} {counts : Checked} (playing : Playing file counts) where
  pub playing_rights : counts.rights ≡ length (meaning file).job.rights
  playing_rights = ap (λ k. k.rights) playing.checked

  pub playing_count : counts.requests ≡ length (meaning file).job.requests
  playing_count = ap (λ k. k.requests) playing.checked

  pub playing_waits : counts.waits ≡ length (meaning file).job.waits
  playing_waits = ap (λ k. k.waits) playing.checked

  pub playing_runs : counts.runs ≡ length (longest_runs (meaning file).job.schedule)
  playing_runs = ap (λ k. k.runs) playing.checked

  file_counted : length file ≡ file_size counts.rights counts.requests counts.waits counts.runs
  file_counted =
      omega (arith, file_length file playing.bytes playing.accepted, playing_rights, playing_count, playing_waits, playing_runs)

  pub request_fits : (q : ℕ) → q < counts.requests → request_place counts.rights q + request_size ≤ length file
  request_fits q l = omega (arith, file_counted)

  pub wait_fits : (i : ℕ) → i < counts.waits → wait_place counts.rights counts.requests i + wait_size ≤ length file
  wait_fits i l = omega (arith, file_counted)

  pub run_fits : (i : ℕ) → i < counts.runs → run_place counts.rights counts.requests counts.waits i + run_size ≤ length file
  run_fits i l = omega (arith, file_counted)

  pub request_read : (q : ℕ) (none : Request) → q < counts.requests
      → get_or (meaning file).job.requests q none ≡ request_at (drop (request_place counts.rights q) file)
  request_read q none l =
      rw playing_rights (request_stands file playing.bytes playing.accepted q none (omega (arith, playing_count)))

  pub wait_read : (i : ℕ) (none : Wait) → i < counts.waits
      → get_or (meaning file).job.waits i none ≡ wait_at (drop (wait_place counts.rights counts.requests i) file)
  wait_read i none l =
      rw (playing_rights, playing_count) (wait_stands file playing.bytes playing.accepted i none (omega (arith, playing_waits)))

  pub run_read : (i : ℕ) (none : Run) → i < counts.runs
      → get_or (longest_runs (meaning file).job.schedule) i none
      ≡ run_at (drop (run_place counts.rights counts.requests counts.waits i) file)
  run_read i none l =
      rw (playing_rights, playing_count, playing_waits)
      (run_stands file playing.bytes playing.accepted i none (omega (arith, playing_runs)))

  rights_meant : (meaning file).job.rights ≡ rights_in file
  unfolding job_in
  rights_meant = ap (λ j. j.rights) (job_meant file playing.bytes playing.accepted)

  pub playing_righted : Righted file counts.rights
  playing_righted =
      record {
        counted = playing_rights ∙ ap length rights_meant ∙ length-map (right_records file) right_at;
        within = omega (arith, file_counted);
      }

  pub rights_read : (head : ℕ) → right_of (rights_in file) head ≡ right_of (meaning file).job.rights head
  rights_read head = ap (λ rights. right_of rights head) (sym rights_meant)
