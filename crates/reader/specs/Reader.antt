-- What the reader answers: the counts of a meaning, and those of a section of the file. A refusal has zero for every count.
--
--   counts_of m                   the counts of the job of a meaning
--   Playing file c                an accepted file, with its counts: what is asked where its records are read
--   records_of n ts               the refusal n, or how many records stand at the places ts
--   right_section_of h ts t       the refusal or the count of the rights at the places ts, in front of t
--   request_section_of n h rs ts  the refusal or the count of the requests at the places ts, behind the rights rs
--   wait_section_of q ts          the refusal or the count of the pairs at the places ts, behind q requests
--   run_section_of h ts           the refusal, or the count and the grants, of the runs at the places ts
use Rattle.std.specs.Prelude.{◌≡◌, cond, List, map, ℕ, eqb, length, Result}
use Rattle.std.specs.declared.result.Result.TheVariants.{Ok, Err}
use Rattle.job.specs.declared.Right.{Right}
use Rattle.jobfile.specs.Format.{◌then◌, no_pair}
use Rattle.jobfile.specs.Meaning.{Meaning, meaning, refused, rights_refusal, missing_refusal, requests_refusal, waits_refusal}
use Rattle.jobfile.specs.Meaning.{runs_refusal, run_at, full_run, granted}
use Rattle.jobfile.specs.Admitted.{Bytes}
use Rattle.jobfile.specs.Written.{longest_runs}
use Rattle.reader.specs.declared.Checked.{Checked}
use Rattle.job.specs.declared.refusal.Refusal.{Refusal}
use Rattle.job.specs.Refusal.{number_of}
use Rattle.reader.specs.declared.sections.Runs.{Runs}

-- The counts: places, heads, rights (02, A5), requests, pairs (02, A3), grants, and the runs.
abbrev pub counts_of : Meaning → Checked
counts_of m =
    record {
      nodes = m.job.nodes;
      heads = m.job.heads;
      rights = length m.job.rights;
      requests = length m.job.requests;
      waits = length m.job.waits;
      grants = length m.job.schedule;
      runs = length (longest_runs m.job.schedule);
    }

-- What a file is told: its meaning's number, and the counts, which a refusal has at zero.
pub record Answer : Type 0 where
  pub number : ℕ
  pub counts : Checked

abbrev pub answer_of : Meaning → Answer
answer_of m = record { number = m.number; counts = counts_of m }

-- What a check tells.
abbrev pub check_told : Result Checked Refusal → Answer
check_told (Ok counts) = record { number = 0; counts = counts }
check_told (Err refusal) = answer_of (refused (number_of refusal))

-- An accepted file is played from its own bytes: where a record stands is told by the counts.
pub record Playing (file : List ℕ) (counts : Checked) : Type 0 where
  pub accepted : (meaning file).number ≡ 0
  pub bytes : Bytes file
  pub checked : counts ≡ counts_of (meaning file)

-- What reading a section tells: its refusal's number, 0 for none, and how many records it has,
pub record Records : Type 0 where
  pub number : ℕ
  pub count : ℕ

-- and of the runs the grants that they give.
pub record RunSection : Type 0 where
  pub number : ℕ
  pub count : ℕ
  pub grants : ℕ

-- A refusal has zero for every count.
abbrev pub section_told : Result ℕ Refusal → Records
section_told (Ok count) = record { number = 0; count = count }
section_told (Err refusal) = record { number = number_of refusal; count = 0 }

abbrev pub run_section_told : Result Runs Refusal → RunSection
run_section_told (Ok runs) = record { number = 0; count = runs.count; grants = runs.grants }
run_section_told (Err refusal) = record { number = number_of refusal; count = 0; grants = 0 }

-- The records of a section: its refusal, or how many there are.
unfoldable pub records_of : ℕ → List (List ℕ) → Records
records_of number ts = record { number = number; count = cond (eqb number 0) (length ts) 0 }

-- The rights of the file (02, A5), each and then whether one is missing,
abbrev pub right_section_of : ℕ → List (List ℕ) → List ℕ → Records
right_section_of heads ts t = records_of (rights_refusal heads 0 ts then missing_refusal heads (length ts) t) ts

-- the requests, behind these rights,
abbrev pub request_section_of : ℕ → ℕ → List Right → List (List ℕ) → Records
request_section_of nodes heads rights ts = records_of (requests_refusal nodes heads rights 0 ts) ts

-- and the pairs (02, A3), behind so many requests.
abbrev pub wait_section_of : ℕ → List (List ℕ) → Records
wait_section_of requests ts = records_of (waits_refusal requests no_pair ts) ts

-- The runs of the file: the first refusal, or how many there are and the grants that they give.
unfoldable pub run_section_of : ℕ → List (List ℕ) → RunSection
run_section_of heads ts =
    let number = runs_refusal heads full_run ts in
    record {
      number = number;
      count = cond (eqb number 0) (length ts) 0;
      grants = cond (eqb number 0) (length (granted (map run_at ts))) 0;
    }
