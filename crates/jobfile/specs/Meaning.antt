-- Document 01, "Job file", and 02, A3 and A5: what a file of bytes means, or the number of its refusal.
--
--   records size m t    the rest of the file at each record of a section: t, then what follows each record of that
--                       size, as long as the mark is m
--   records_within n size m t   the first n of them
--   right_at t, fields_at t, request_at t, wait_at t, run_at t   the right, the numbers of the request, the request, the pair and
--                       the run at the start of t
--   header_refusal, right_record_refusal, rights_refusal, missing_refusal, request_refusal, requests_refusal, wait_refusal, waits_refusal,
--   run_refusal, runs_refusal, close_refusal, balance_refusal      the checks
--   full_run            what stands before the first run
--   granted rs          the schedule of the runs rs
--   nodes_in s, heads_in s, right_records s, request_records s, wait_records s, run_records s   the parts of the file s
--   requests_start s, waits_start s, runs_start s, close_start s    the bytes where the requests, the pairs, the runs and the close
--                       start
--   file_refusal s      the refusal of the file s, 0 for none
--   rights_in s, runs_in s, job_in s   the rights, the runs and the job of the file s
--   Meaning             a number and a job: accepted j, or refused n
--   meaning s           the number 0 and the job of an accepted file, or the number of the refusal and an empty job
use Rattle.std.specs.Prelude.{not, cond, List, [], ◌∷◌, ◌++◌, map, ℕ, zero, suc, ◌+◌, ◌%◌, eqb, ltb, leb, length, get_or, drop, replicate}
use Rattle.job.specs.declared.Request.{Request}
use Rattle.job.specs.declared.Wait.{Wait}
use Rattle.job.specs.declared.Right.{Right}
use Rattle.job.specs.Job.{Job, most_requests}
use Rattle.jobfile.specs.declared.Fields.{Fields}
use Rattle.jobfile.specs.declared.Run.{Run}
use Rattle.jobfile.specs.Format.{job_mark, right_mark, request_mark, wait_mark, run_mark, close_mark, job_size, right_size, request_size}
use Rattle.jobfile.specs.Format.{wait_size, run_size, close_size, right_place, request_place, wait_place, run_place, most_grants, word}
use Rattle.jobfile.specs.Format.{mask, word_sum, ◌then◌, first_refusal, sizes_refusal, right_refusal, asked_refusal, request_of}
use Rattle.jobfile.specs.Format.{pair_refusal, no_pair, extends, length_refusal}

-- A section goes on as long as its mark follows; no section has more records than the file has bytes.
unfoldable pub records_within : ℕ → ℕ → ℕ → List ℕ → List (List ℕ)
records_within zero size m t = []
records_within (suc n) size m t = cond (eqb (word t) m) (t ∷ records_within n size m (drop size t)) []

-- What is left of the file at each record of a section of that size and mark.
unfoldable pub records : ℕ → ℕ → List ℕ → List (List ℕ)
records size m t = records_within (length t) size m t

-- 44 4B, places (16 bits), heads (16 bits): one. 2: the file ends before a record is whole. 3: a mark not allowed.
abbrev pub nodes_in : List ℕ → ℕ
nodes_in s = word (drop 2 s)

-- The heads stand behind the places.
abbrev pub heads_in : List ℕ → ℕ
heads_in s = word (drop 4 s)

-- Two bytes for the mark, the mark, the whole record, its fields.
unfoldable pub header_refusal : List ℕ → ℕ
header_refusal s =
    cond (ltb (length s) 2) 2
    (cond (not (eqb (word s) job_mark)) 3
    (cond (ltb (length s) job_size) 2
    (sizes_refusal (nodes_in s) (heads_in s))))

-- 52 54, head (8), rights (8), a 32-bit mask of heads it may see, low byte first, after the first record (02, A5).
abbrev pub right_at : List ℕ → Right
right_at t = record { head = get_or t 2 0; rights = get_or t 3 0; sight = mask (drop 4 t) }

-- "one per head or none at all": a surplus record of this kind gives 3 at its mark. Then the whole record, its fields.
unfoldable pub right_record_refusal : ℕ → ℕ → List ℕ → ℕ
right_record_refusal heads number t =
    cond (leb heads number) 3
    (cond (ltb (length t) right_size) 2
    (right_refusal heads number (right_at t)))

-- The heads count up from 0.
abbrev pub rights_refusal : ℕ → ℕ → List (List ℕ) → ℕ
rights_refusal heads = first_refusal (right_record_refusal heads) (λ number t. number + 1)

-- "Once begun, a missing or surplus record of this kind gives 3 at the mark found there": where so many records are followed by
-- another mark. 2: the file ends before a mark.
unfoldable pub missing_refusal : ℕ → ℕ → List ℕ → ℕ
missing_refusal heads count t =
    cond (eqb count 0) 0
    (cond (leb heads count) 0
    (cond (ltb (length t) 2) 2 3))

-- 52 51, head (8), kind (8), place x (16), place y (16): none to 512. 9: a 513th request, checked before its fields.
abbrev pub fields_at : List ℕ → Fields
fields_at t = record { head = get_or t 2 0; kind = get_or t 3 0; x = word (drop 4 t); y = word (drop 6 t) }

-- The request that a record stands for.
abbrev pub request_at : List ℕ → Request
request_at t = request_of (fields_at t)

-- The whole record, the request's count, its fields, and (02, A5) its head's rights.
unfoldable pub request_refusal : ℕ → ℕ → List Right → ℕ → List ℕ → ℕ
request_refusal nodes heads rights number t =
    cond (ltb (length t) request_size) 2
    (cond (leb most_requests number) 9
    (asked_refusal nodes heads rights (fields_at t)))

-- Request numbers count from 0 in file order.
abbrev pub requests_refusal : ℕ → ℕ → List Right → ℕ → List (List ℕ) → ℕ
requests_refusal nodes heads rights = first_refusal (request_refusal nodes heads rights) (λ number t. number + 1)

-- 41 46, later request (16), earlier request (16), between requests and grants (02, A3).
abbrev pub wait_at : List ℕ → Wait
wait_at t = record { later = word (drop 2 t); earlier = word (drop 4 t) }

-- The whole record, then the pair, beside the number of requests and the pair before it.
unfoldable pub wait_refusal : ℕ → Wait → List ℕ → ℕ
wait_refusal count before t = cond (ltb (length t) wait_size) 2 (pair_refusal count before (wait_at t))

-- Each with the pair before it.
abbrev pub waits_refusal : ℕ → Wait → List (List ℕ) → ℕ
waits_refusal count = first_refusal (wait_refusal count) (λ before t. wait_at t)

-- 47 52, head (8), run (8): none or more; the head gets that many grants. 10: a grant's head not below the heads, or run 0.
-- 11: a run's head equals that of the run before, which is under 255.
abbrev pub run_at : List ℕ → Run
run_at t = record { head = get_or t 2 0; count = get_or t 3 0 }

-- The whole record, its head, its run, then the run before.
unfoldable pub run_refusal : ℕ → Run → List ℕ → ℕ
run_refusal heads before t =
    cond (ltb (length t) run_size) 2
    (cond (leb heads (get_or t 2 0)) 10
    (cond (eqb (get_or t 3 0) 0) 10
    (cond (extends before (get_or t 2 0)) 11 0)))

-- Each with the run before it.
abbrev pub runs_refusal : ℕ → Run → List (List ℕ) → ℕ
runs_refusal heads = first_refusal (run_refusal heads) (λ before t. run_at t)

-- Nothing extends a full run, so it stands before the first.
abbrev pub full_run : Run
full_run = record { head = 0; count = most_grants }

-- The head of each run gets that many grants.
abbrev pub granted : List Run → List ℕ
granted [] = []
granted (r ∷ rs) = replicate r.count r.head ++ granted rs

-- 43 4C, balance (16): one, last. What follows the runs is the close, or it has no mark that is allowed there.
-- 12: bytes after the close.
unfoldable pub close_refusal : List ℕ → ℕ
close_refusal t =
    cond (ltb (length t) 2) 2
    (cond (not (eqb (word t) close_mark)) 3
    (cond (ltb (length t) close_size) 2
    (cond (ltb close_size (length t)) 12 0)))

-- 13: the words don't balance. All 16-bit words, the close's too, add up to zero when carries out of 16 bits are dropped.
unfoldable pub balance_refusal : List ℕ → ℕ
balance_refusal s = cond (not (eqb (word_sum s % 65536) 0)) 13 0

-- Where each section stands: the rights behind the first record,
abbrev pub right_records : List ℕ → List (List ℕ)
right_records s = records right_size right_mark (drop job_size s)

-- as long as their mark follows,
abbrev pub rights_in : List ℕ → List Right
rights_in s = map right_at (right_records s)

-- the requests behind the rights,
abbrev pub requests_start : List ℕ → ℕ
requests_start s = right_place (length (right_records s))

-- as long as their mark follows,
abbrev pub request_records : List ℕ → List (List ℕ)
request_records s = records request_size request_mark (drop (requests_start s) s)

-- the pairs behind the requests,
abbrev pub waits_start : List ℕ → ℕ
waits_start s = request_place (length (right_records s)) (length (request_records s))

-- as long as theirs does,
abbrev pub wait_records : List ℕ → List (List ℕ)
wait_records s = records wait_size wait_mark (drop (waits_start s) s)

-- the runs behind the pairs,
abbrev pub runs_start : List ℕ → ℕ
runs_start s = wait_place (length (right_records s)) (length (request_records s)) (length (wait_records s))

-- as long as theirs does,
abbrev pub run_records : List ℕ → List (List ℕ)
run_records s = records run_size run_mark (drop (runs_start s) s)

-- and the close behind the runs.
abbrev pub close_start : List ℕ → ℕ
close_start s = run_place (length (right_records s)) (length (request_records s)) (length (wait_records s)) (length (run_records s))

-- Checked first: length. Then record by record. Then bytes after the close, then balance.
unfoldable pub file_refusal : List ℕ → ℕ
file_refusal s =
    length_refusal s
    then header_refusal s
    then rights_refusal (heads_in s) 0 (right_records s)
    then missing_refusal (heads_in s) (length (right_records s)) (drop (requests_start s) s)
    then requests_refusal (nodes_in s) (heads_in s) (rights_in s) 0 (request_records s)
    then waits_refusal (length (request_records s)) no_pair (wait_records s)
    then runs_refusal (heads_in s) full_run (run_records s)
    then close_refusal (drop (close_start s) s)
    then balance_refusal s

-- The runs of a file.
abbrev pub runs_in : List ℕ → List Run
runs_in s = map run_at (run_records s)

-- A file means places, heads, rights (02, A5), requests, pairs (02, A3) and a list of head numbers, one per grant.
unfoldable pub job_in : List ℕ → Job
job_in s =
    record {
      nodes = nodes_in s;
      heads = heads_in s;
      rights = rights_in s;
      requests = map request_at (request_records s);
      waits = map wait_at (wait_records s);
      schedule = granted (runs_in s);
    }

-- What is said of a file: a number and a job.
pub record Meaning : Type 0 where
  pub number : ℕ
  pub job : Job

-- No refusal: number 0.
abbrev pub accepted : Job → Meaning
accepted j = record { number = 0; job = j }

-- A refusal gives its number and zero for every count.
abbrev pub refused : ℕ → Meaning
refused n = record { number = n; job = record { nodes = 0; heads = 0; rights = []; requests = []; waits = []; schedule = [] } }

-- What any file of bytes means.
unfoldable pub meaning : List ℕ → Meaning
meaning s = cond (eqb (file_refusal s) 0) (accepted (job_in s)) (refused (file_refusal s))
