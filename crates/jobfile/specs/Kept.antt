-- 02, A4 and A5: what files and jobs keep when the limit of the heads rises, and where they have no rights.
--
--   SizesKept           heads within the lower limit get the same refusal, or none, under both limits
--   former_refusal s, former_job s   the refusal and the job of a file as they were before there were rights
--   former_file j w     the file of a job with the balance w as it was
--   RightsKept          files without rights are refused, mean and are written as before
use Rattle.std.specs.Prelude.{◌≡◌, List, [], ◌++◌, map, cond, ℕ, ◌+◌, ◌*◌, ◌≤◌, ltb, leb, length, drop}
use Rattle.job.specs.Job.{Job, most_requests}
use Rattle.jobfile.specs.Format.{job_mark, right_mark, request_mark, wait_mark, run_mark, close_mark, job_size, request_size, wait_size}
use Rattle.jobfile.specs.Format.{run_size, word, word_bytes, ◌then◌, first_refusal, sizes_refusal_with, fields_refusal, no_pair}
use Rattle.jobfile.specs.Format.{length_refusal}
use Rattle.jobfile.specs.Meaning.{records, nodes_in, heads_in, header_refusal, fields_at, request_at, wait_at, waits_refusal, runs_refusal}
use Rattle.jobfile.specs.Meaning.{run_at, full_run, granted, close_refusal, balance_refusal, file_refusal, job_in}
use Rattle.jobfile.specs.Written.{requests_bytes, waits_bytes, runs_bytes, longest_runs, file_with}

-- ---- A4

-- Every job of up to 16 heads is an instance: the limit was 16 and is 32.
abbrev pub SizesKept : Type 0
SizesKept = (lower upper nodes heads : ℕ) → lower ≤ upper → heads ≤ lower
    → sizes_refusal_with lower nodes heads ≡ sizes_refusal_with upper nodes heads

-- ---- A5

-- Requests stood behind the first record,
abbrev pub former_requests : List ℕ → List (List ℕ)
former_requests s = records request_size request_mark (drop job_size s)

-- pairs behind the requests,
abbrev pub former_waits_start : List ℕ → ℕ
former_waits_start s = job_size + request_size * length (former_requests s)

abbrev pub former_waits : List ℕ → List (List ℕ)
former_waits s = records wait_size wait_mark (drop (former_waits_start s) s)

-- and runs behind the pairs.
abbrev pub former_runs_start : List ℕ → ℕ
former_runs_start s = former_waits_start s + wait_size * length (former_waits s)

abbrev pub former_runs : List ℕ → List (List ℕ)
former_runs s = records run_size run_mark (drop (former_runs_start s) s)

abbrev pub former_close_start : List ℕ → ℕ
former_close_start s = former_runs_start s + run_size * length (former_runs s)

-- The whole record, the request's count, its fields.
abbrev pub former_request_refusal : ℕ → ℕ → ℕ → List ℕ → ℕ
former_request_refusal nodes heads number t =
    cond (ltb (length t) request_size) 2
    (cond (leb most_requests number) 9
    (fields_refusal nodes heads (fields_at t)))

-- The job of a file.
abbrev pub former_job : List ℕ → Job
former_job s =
    record {
      nodes = nodes_in s;
      heads = heads_in s;
      rights = [];
      requests = map request_at (former_requests s);
      waits = map wait_at (former_waits s);
      schedule = granted (map run_at (former_runs s));
    }

-- Document 01's order, with the pairs (02, A3).
abbrev pub former_refusal : List ℕ → ℕ
former_refusal s =
    length_refusal s
    then header_refusal s
    then first_refusal (former_request_refusal (nodes_in s) (heads_in s)) (λ number t. number + 1) 0 (former_requests s)
    then waits_refusal (length (former_requests s)) no_pair (former_waits s)
    then runs_refusal (heads_in s) full_run (former_runs s)
    then close_refusal (drop (former_close_start s) s)
    then balance_refusal s

-- The records in order: the job's, the requests, the pairs, the runs, the close.
abbrev pub former_file : Job → ℕ → List ℕ
former_file j w =
    (word_bytes job_mark ++ word_bytes j.nodes ++ word_bytes j.heads)
    ++ (requests_bytes j.requests
    ++ (waits_bytes j.waits
    ++ (runs_bytes (longest_runs j.schedule)
    ++ (word_bytes close_mark ++ word_bytes w))))

pub record RightsKept : Type 0 where
  -- a file that goes on with another mark behind the first record, or with none, is refused as before, or accepted as before,
  pub refused : (s : List ℕ) → (word (drop job_size s) ≡ right_mark → ⊥) → file_refusal s ≡ former_refusal s
  -- means the same places, heads, requests, pairs and grants, and no rights,
  pub means : (s : List ℕ) → (word (drop job_size s) ≡ right_mark → ⊥)
      → job_in s ≡ former_job s
  -- and a job without rights is written as before
  pub written : (j : Job) (w : ℕ) → j.rights ≡ [] → file_with j w ≡ former_file j w
