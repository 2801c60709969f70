-- Document 01, "Job file", and 02, A3 and A5: the file that is written for a job.
--
--   records_bytes bytes l             the bytes of records, one behind the other
--   right_bytes a, request_bytes q, wait_bytes w, run_bytes r           the bytes of a right, of a request, of a pair and of a run
--   rights_bytes as, requests_bytes qs, waits_bytes ws, runs_bytes rs   the bytes of rights, of requests, of pairs and of runs
--   next_run r g        the run under way after a grant for head g
--   longest_runs gs     the longest runs, at most 255, that make the schedule gs
--   runs_from r gs      the same with the run r under way
--   file_with j w       the file of the job j with the balance w
--   balance j           the balance that brings the sum of the file's words to zero
--   written j           the file of the job j
use Rattle.std.specs.Prelude.{cond, List, [], ◌∷◌, ◌++◌, ℕ, ◌+◌, ◌-◌, ◌%◌}
use Rattle.job.specs.declared.Request.{Request}
use Rattle.job.specs.declared.Wait.{Wait}
use Rattle.job.specs.declared.Right.{Right}
use Rattle.job.specs.Job.{Job, kind_number}
use Rattle.jobfile.specs.declared.Run.{Run}
use Rattle.jobfile.specs.Format.{job_mark, right_mark, request_mark, wait_mark, run_mark, close_mark, word_bytes, mask_bytes, word_sum}
use Rattle.jobfile.specs.Format.{extends}

-- Records, in order.
abbrev pub records_bytes : {A : Type 0} → (A → List ℕ) → List A → List ℕ
records_bytes bytes [] = []
records_bytes bytes (a ∷ l) = bytes a ++ records_bytes bytes l

-- 52 54, head (8), rights (8), a 32-bit mask, low byte first (02, A5).
abbrev pub right_bytes : Right → List ℕ
right_bytes r = word_bytes right_mark ++ (r.head ∷ r.rights ∷ []) ++ mask_bytes r.sight

-- The rights in the heads' order.
abbrev pub rights_bytes : List Right → List ℕ
rights_bytes = records_bytes right_bytes

-- 52 51, head (8), kind (8; 1 union, 2 same-set), place x (16), place y (16).
abbrev pub request_bytes : Request → List ℕ
request_bytes q = word_bytes request_mark ++ (q.head ∷ kind_number q.kind ∷ []) ++ word_bytes q.x ++ word_bytes q.y

-- The requests in file order.
abbrev pub requests_bytes : List Request → List ℕ
requests_bytes = records_bytes request_bytes

-- 41 46, later request (16), earlier request (16) (02, A3).
abbrev pub wait_bytes : Wait → List ℕ
wait_bytes w = word_bytes wait_mark ++ word_bytes w.later ++ word_bytes w.earlier

-- The pairs in file order.
abbrev pub waits_bytes : List Wait → List ℕ
waits_bytes = records_bytes wait_bytes

-- 47 52, head (8), run (8).
abbrev pub run_bytes : Run → List ℕ
run_bytes r = word_bytes run_mark ++ (r.head ∷ r.count ∷ [])

-- The runs in their order.
abbrev pub runs_bytes : List Run → List ℕ
runs_bytes = records_bytes run_bytes

-- The run under way after one more grant.
abbrev pub next_run : Run → ℕ → Run
next_run r g = cond (extends r g) (record { head = r.head; count = r.count + 1 }) (record { head = g; count = 1 })

-- A grant joins the run under way if it can; otherwise that run ends and another begins.
abbrev pub runs_from : Run → List ℕ → List Run
runs_from r [] = r ∷ []
runs_from r (g ∷ gs) = let rest = runs_from (next_run r g) gs in cond (extends r g) rest (r ∷ rest)

-- The writer makes the longest runs, at most 255.
abbrev pub longest_runs : List ℕ → List Run
longest_runs [] = []
longest_runs (g ∷ gs) = runs_from (record { head = g; count = 1 }) gs

-- The records in order: the job's, the rights, the requests, the pairs, the runs, the close.
unfoldable pub file_with : Job → ℕ → List ℕ
file_with j w =
    (word_bytes job_mark ++ word_bytes j.nodes ++ word_bytes j.heads)
    ++ (rights_bytes j.rights
    ++ (requests_bytes j.requests
    ++ (waits_bytes j.waits
    ++ (runs_bytes (longest_runs j.schedule)
    ++ (word_bytes close_mark ++ word_bytes w)))))

-- The difference from zero, in 16 bits, of all words but the balance.
abbrev pub balance : Job → ℕ
balance j = (65536 - word_sum (file_with j 0) % 65536) % 65536

-- The file of a job: its words add up to zero.
unfoldable pub written : Job → List ℕ
written j = file_with j (balance j)
