-- Where the parts of an accepted file stand, so that they can be read in place, and how many there can be.
--
--   length_written      the length of what is written
--   file_short          an accepted file is at most 32,768 bytes
--   file_length         an accepted file is its header, its rights, its requests, its pairs, its runs and the close
--   request_stands, wait_stands, run_stands   request q, pair i and run i of an accepted file stand in their places
--   runs_meant          the runs of an accepted file are the longest of its schedule
--   granted_next, granted_end   the schedule of the runs from run i on
--   few_grants          an admitted job has at most 2,088,195 grants
use mathlib.Core.Path.{◌≡◌, ◌∙◌, sym, ap}
use mathlib.Core.List.{List, [], ◌++◌}
use Prim.Native.Nat.{ℕ, ◌+◌, ◌*◌, ◌≤◌, ◌<◌}
use native.Mathlib.Omega.{arith}
use native.Mathlib.Numerals.{add-one}
use lib.ListN.{length, get_or, drop, replicate, length-append, length-map, drop_of_length-le}
use lib.Seq.{drop-drop, drop-cons}
use Rattle.job.specs.declared.Request.{Request}
use Rattle.job.specs.declared.Wait.{Wait}
use Rattle.job.specs.Job.{Job}
use Rattle.jobfile.specs.declared.Run.{Run}
use Rattle.jobfile.specs.Format.{request_size, wait_size, run_size, request_place, wait_place, run_place, file_size}
use Rattle.jobfile.specs.Format.{most_bytes}
use Rattle.jobfile.specs.Meaning.{heads_in, request_at, wait_at, run_at, full_run, granted, right_records, requests_start}
use Rattle.jobfile.specs.Meaning.{request_records, waits_start, wait_records, runs_start, run_records, runs_in, job_in, meaning}
use Rattle.jobfile.specs.Written.{longest_runs, file_with, written}
use Rattle.jobfile.specs.Admitted.{Admitted, Bytes}
use Rattle.jobfile.proofs.Records.{section_at, length_records}
use Rattle.jobfile.proofs.Runs.{longest_follow, longest_granted, granted_longest, granted_few}
use Rattle.jobfile.proofs.Passed.{file_passed}
use Rattle.jobfile.proofs.Layouts.{right_layout, request_layout, wait_layout, run_layout}
use Rattle.jobfile.proofs.Backward.{request_section, wait_section, run_section, runs_rule}
use Rattle.jobfile.proofs.RoundTrip.{accepts_all, job_meant, written_meaning}

pub length_written : (j : Job)
    → length (written j) ≡ file_size (length j.rights) (length j.requests) (length j.waits) (length (longest_runs j.schedule))
unfolding written file_with
length_written j =
    simp (
      length-append,
      length_records (right_layout 0),
      length_records (request_layout 0 0 []),
      length_records (wait_layout 0),
      length_records (run_layout 0),
    )
    (omega arith)

pub few_grants : (j : Job) → Admitted j → length j.schedule ≤ 2088195
few_grants j a =
    let few = granted_few j.heads full_run (longest_runs j.schedule) (longest_follow j.heads 0 j.schedule a.each_grant) in
    omega (arith, rw granted_longest at few, length_written j, a.short)

module _ (s : List ℕ) (bytes : Bytes s) (accepts : (meaning s).number ≡ 0) where
  rights_counted : length (meaning s).job.rights ≡ length (right_records s)
  unfolding job_in
  rights_counted = rw (job_meant s bytes accepts, length-map)

  requests_counted : length (meaning s).job.requests ≡ length (request_records s)
  unfolding job_in
  requests_counted = rw (job_meant s bytes accepts, length-map)

  pub request_stands : (q : ℕ) (none : Request) → q < length (meaning s).job.requests
      → get_or (meaning s).job.requests q none ≡ request_at (drop (request_place (length (meaning s).job.rights) q) s)
  unfolding job_in
  request_stands q none l =
      rw (rights_counted, job_meant s bytes accepts)
      (section_at (request_section s) request_at q none (omega (arith, requests_counted))
      ∙ ap request_at (drop-drop (request_size * q) (requests_start s) s))

  waits_counted : length (meaning s).job.waits ≡ length (wait_records s)
  unfolding job_in
  waits_counted = rw (job_meant s bytes accepts, length-map)

  pub wait_stands : (i : ℕ) (none : Wait) → i < length (meaning s).job.waits
      → get_or (meaning s).job.waits i none
      ≡ wait_at (drop (wait_place (length (meaning s).job.rights) (length (meaning s).job.requests) i) s)
  unfolding job_in
  wait_stands i none l =
      rw (rights_counted, requests_counted, job_meant s bytes accepts)
      (section_at (wait_section s) wait_at i none (omega (arith, waits_counted)) ∙ ap wait_at (drop-drop (wait_size * i) (waits_start s) s))

  pub runs_meant : longest_runs (meaning s).job.schedule ≡ runs_in s
  unfolding job_in
  runs_meant =
      rw (job_meant s bytes accepts)
      (longest_granted (heads_in s) full_run (runs_in s) (runs_rule s bytes (file_passed s (accepts_all s bytes accepts))))

  runs_counted : length (longest_runs (meaning s).job.schedule) ≡ length (run_records s)
  runs_counted = rw (runs_meant, length-map)

  pub run_stands : (i : ℕ) (none : Run) → i < length (longest_runs (meaning s).job.schedule)
      → get_or (longest_runs (meaning s).job.schedule) i none
      ≡ run_at (drop (run_place (length (meaning s).job.rights) (length (meaning s).job.requests) (length (meaning s).job.waits) i) s)
  run_stands i none l =
      rw (runs_meant, rights_counted, requests_counted, waits_counted)
      (section_at (run_section s) run_at i none (omega (arith, runs_counted)) ∙ ap run_at (drop-drop (run_size * i) (runs_start s) s))

  pub file_short : length s ≤ most_bytes
  file_short = (file_passed s (accepts_all s bytes accepts)).short

  pub file_length : let j = (meaning s).job in
      length s ≡ file_size (length j.rights) (length j.requests) (length j.waits) (length (longest_runs j.schedule))
  file_length = ap length (sym (written_meaning s bytes accepts)) ∙ length_written (meaning s).job

-- The schedule of the runs from run i on: that run's grants, then those of the runs behind it.
pub granted_next : (rs : List Run) (i : ℕ) (none : Run) → i < length rs
    → granted (drop i rs) ≡ replicate (get_or rs i none).count (get_or rs i none).head ++ granted (drop (i + 1) rs)
granted_next rs i none l = rw (drop-cons rs i none l, add-one)

pub granted_end : (rs : List Run) (i : ℕ) → length rs ≤ i → granted (drop i rs) ≡ []
granted_end rs i l = rw (drop_of_length-le rs {i = i} l)
