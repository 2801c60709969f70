-- What is written is read back: the meaning of the file of an admitted job is that job.
--
--   close w                  the bytes of the close with the balance w
--   body j                   the records of a job's file before its close
--   file_parts, sum_parts    the file is its body, the close's mark and the balance, and so is the sum of its words
--   meaning_written          the meaning of the written file is the job
use mathlib.Core.Path.{◌≡◌, refl, ◌∙◌, ap}
use mathlib.Core.List.{List, [], ◌∷◌, ◌++◌, map, append_assoc}
use Prim.Native.Nat.{ℕ, ◌+◌, ◌%◌, ◌≤◌}
use native.Mathlib.Omega.{arith}
use lib.ListN.{length, drop, length-append}
use borrow.Author.Tests.{le-ltb}
use Rattle.job.specs.Job.{Job}
use Rattle.jobfile.specs.Format.{job_mark, right_mark, request_mark, wait_mark, close_mark, job_size, most_bytes, word, word_bytes}
use Rattle.jobfile.specs.Format.{word_sum, no_pair, length_refusal}
use Rattle.jobfile.specs.Meaning.{nodes_in, heads_in, header_refusal, rights_refusal, missing_refusal, request_at, requests_refusal}
use Rattle.jobfile.specs.Meaning.{wait_at, waits_refusal, runs_refusal, full_run, granted, close_refusal, balance_refusal}
use Rattle.jobfile.specs.Meaning.{right_records, rights_in, requests_start, request_records, waits_start, wait_records, runs_start}
use Rattle.jobfile.specs.Meaning.{run_records, close_start, file_refusal, runs_in, job_in, accepted, meaning}
use Rattle.jobfile.specs.Written.{rights_bytes, requests_bytes, waits_bytes, runs_bytes, longest_runs, file_with, balance, written}
use Rattle.jobfile.specs.Admitted.{Admitted}
use Rattle.jobfile.proofs.Refusals.{sized_passes}
use Rattle.jobfile.proofs.Passed.{complete_passes}
use Rattle.jobfile.proofs.Rights.{holding_all}
use Rattle.jobfile.proofs.Requests.{asking_all}
use Rattle.jobfile.proofs.Pairs.{rising_all}
use Rattle.jobfile.proofs.Runs.{granted_longest, longest_follow}
use Rattle.jobfile.proofs.Records.{length_records, section_other, written_read, written_count, written_behind, written_passes}
use Rattle.jobfile.proofs.Layouts.{word_back, right_layout, request_layout, wait_layout, run_layout}
use Rattle.jobfile.proofs.Layouts.{holding_pass, asking_pass, rising_pass, following_pass}

-- The close with the balance w.
abbrev close : ℕ → List ℕ
close w = word_bytes close_mark ++ word_bytes w

-- All that stands before the close's mark.
abbrev pub body : Job → List ℕ
body j =
    word_bytes job_mark ++ word_bytes j.nodes ++ word_bytes j.heads
    ++ rights_bytes j.rights ++ requests_bytes j.requests ++ waits_bytes j.waits ++ runs_bytes (longest_runs j.schedule)

pub file_parts : (j : Job) (w : ℕ) → file_with j w ≡ (body j ++ word_bytes close_mark) ++ word_bytes w
unfolding file_with
file_parts j w = simp append_assoc

-- A word behind whole words adds to their sum.
sum_last : (t : List ℕ) (w : ℕ) → length t % 2 ≡ 0 → word_sum (t ++ word_bytes w) ≡ word_sum t + w
sum_last [] w even = omega (arith, word_back w)
sum_last (low ∷ []) w even = absurd (omega arith)
sum_last (low ∷ high ∷ t) w even = omega (arith, sum_last t w (omega arith))

pub sum_parts : (j : Job) (w : ℕ) → word_sum (file_with j w) ≡ word_sum (body j ++ word_bytes close_mark) + w
sum_parts j w =
    let even : length (body j ++ word_bytes close_mark) % 2 ≡ 0 =
    simp (
      length-append,
      length_records (right_layout 0),
      length_records (request_layout 0 0 []),
      length_records (wait_layout 0),
      length_records (run_layout 0),
    )
    (omega arith) in
    ap word_sum (file_parts j w) ∙ sum_last (body j ++ word_bytes close_mark) w even

-- What stands where in the file of an admitted job.
module _ (j : Job) (w : ℕ) (a : Admitted j) where
  abbrev file : List ℕ
  file = file_with j w

  -- what stands behind the pairs, behind the requests, and behind the rights
  abbrev behind_waits : List ℕ
  behind_waits = runs_bytes (longest_runs j.schedule) ++ close w

  abbrev behind_requests : List ℕ
  behind_requests = waits_bytes j.waits ++ behind_waits

  abbrev behind_rights : List ℕ
  behind_rights = requests_bytes j.requests ++ behind_requests

  nodes_here : nodes_in file ≡ j.nodes
  unfolding file_with
  nodes_here = word_back j.nodes

  heads_here : heads_in file ≡ j.heads
  unfolding file_with
  heads_here = word_back j.heads

  -- no record is taken for one of a section before its own
  no_wait : word behind_waits ≡ wait_mark → ⊥
  no_wait = section_other (run_layout 0) wait_mark (longest_runs j.schedule) (close w) (λ e. omega arith) (λ e. omega arith)

  no_request : word behind_requests ≡ request_mark → ⊥
  no_request =
      section_other (wait_layout 0) request_mark j.waits behind_waits (λ e. omega arith)
      (section_other (run_layout 0) request_mark (longest_runs j.schedule) (close w) (λ e. omega arith) (λ e. omega arith))

  no_right : word behind_rights ≡ right_mark → ⊥
  no_right =
      section_other (request_layout 0 0 []) right_mark j.requests behind_requests (λ e. omega arith)
      (section_other (wait_layout 0) right_mark j.waits behind_waits (λ e. omega arith)
      (section_other (run_layout 0) right_mark (longest_runs j.schedule) (close w) (λ e. omega arith) (λ e. omega arith)))

  -- each section stands behind the one before it
  rights_here : drop job_size file ≡ rights_bytes j.rights ++ behind_rights
  unfolding file_with
  rights_here = refl

  requests_here : drop (requests_start file) file ≡ behind_rights
  requests_here = written_behind (right_layout 0) file job_size j.rights behind_rights rights_here no_right

  waits_here : drop (waits_start file) file ≡ behind_requests
  waits_here =
      written_behind (request_layout 0 0 []) file (requests_start file) j.requests behind_requests requests_here no_request

  runs_here : drop (runs_start file) file ≡ behind_waits
  runs_here = written_behind (wait_layout 0) file (waits_start file) j.waits behind_waits waits_here no_wait

  close_here : drop (close_start file) file ≡ close w
  close_here = written_behind (run_layout 0) file (runs_start file) (longest_runs j.schedule) (close w) runs_here (λ e. omega arith)

  -- and is read back
  rights_read : rights_in file ≡ j.rights
  rights_read = written_read (right_layout 0) file job_size j.rights behind_rights rights_here no_right

  requests_read : map request_at (request_records file) ≡ j.requests
  requests_read =
      written_read (request_layout 0 0 []) file (requests_start file) j.requests behind_requests requests_here no_request

  waits_read : map wait_at (wait_records file) ≡ j.waits
  waits_read = written_read (wait_layout 0) file (waits_start file) j.waits behind_waits waits_here no_wait

  runs_read : runs_in file ≡ longest_runs j.schedule
  runs_read = written_read (run_layout 0) file (runs_start file) (longest_runs j.schedule) (close w) runs_here (λ e. omega arith)

  right_count : length (right_records file) ≡ length j.rights
  right_count = written_count (right_layout 0) file job_size j.rights behind_rights rights_here no_right

  request_count : length (request_records file) ≡ length j.requests
  request_count =
      written_count (request_layout 0 0 []) file (requests_start file) j.requests behind_requests requests_here no_request

  job_here : job_in file ≡ j
  unfolding job_in
  job_here = λ i. record {
    nodes = nodes_here i;
    heads = heads_here i;
    rights = rights_read i;
    requests = requests_read i;
    waits = waits_read i;
    schedule = (ap granted runs_read ∙ granted_longest j.schedule) i;
  }

  header_passes : header_refusal file ≡ 0
  unfolding file_with header_refusal
  header_passes =
      let s : List ℕ = file_with j w in
      rw (le-ltb (length s) 2 (omega arith), le-ltb (length s) job_size (omega arith), word_back j.nodes, word_back j.heads)
      (sized_passes j.nodes j.heads
      (record { some_nodes = a.some_nodes; few_nodes = a.few_nodes; some_heads = a.some_heads; few_heads = a.few_heads }))

  rights_pass : rights_refusal (heads_in file) 0 (right_records file) ≡ 0
  rights_pass =
      rw heads_here
      (written_passes (right_layout j.heads) file job_size j.rights behind_rights rights_here no_right 0
      (holding_pass j.heads 0 j.rights behind_rights (holding_all j.heads j.rights a.complete a.each_right)))

  none_missing : missing_refusal (heads_in file) (length (right_records file)) (drop (requests_start file) file) ≡ 0
  none_missing = rw (heads_here, right_count) (complete_passes j.heads (length j.rights) _ a.complete)

  requests_pass : requests_refusal (nodes_in file) (heads_in file) (rights_in file) 0 (request_records file) ≡ 0
  requests_pass =
      rw (nodes_here, heads_here, rights_read)
      (written_passes (request_layout j.nodes j.heads j.rights) file (requests_start file) j.requests behind_requests
      requests_here no_request 0
      (asking_pass j.nodes j.heads j.rights 0 j.requests behind_requests
      (asking_all j.nodes j.heads j.rights j.requests a.few_requests a.each_request)))

  waits_pass : waits_refusal (length (request_records file)) no_pair (wait_records file) ≡ 0
  waits_pass =
      let count = length j.requests in
      let rising = rising_all count j.waits a.each_wait a.rising in
      ap (λ n. waits_refusal n no_pair (wait_records file)) request_count
      ∙ written_passes (wait_layout count) file (waits_start file) j.waits behind_waits waits_here no_wait no_pair
      (rising_pass count no_pair j.waits behind_waits rising)

  runs_pass : runs_refusal (heads_in file) full_run (run_records file) ≡ 0
  runs_pass =
      let runs = longest_runs j.schedule in
      rw heads_here
      (written_passes (run_layout j.heads) file (runs_start file) runs (close w) runs_here (λ e. omega arith) full_run
      (following_pass j.heads full_run runs (close w) (longest_follow j.heads 0 j.schedule a.each_grant)))

  close_passes : close_refusal (drop (close_start file) file) ≡ 0
  unfolding close_refusal
  close_passes = rw close_here

  file_passes : length file ≤ most_bytes → word_sum file % 65536 ≡ 0 → file_refusal file ≡ 0
  unfolding file_refusal length_refusal balance_refusal
  file_passes l b =
      simp (
        le-ltb most_bytes (length file) l,
        header_passes,
        rights_pass,
        none_missing,
        requests_pass,
        waits_pass,
        runs_pass,
        close_passes,
        b,
      )

-- The balance brings the sum of the words to zero.
balanced : (j : Job) → word_sum (written j) % 65536 ≡ 0
unfolding written
balanced j = omega (arith, sum_parts j 0, sum_parts j (balance j))

pub meaning_written : (j : Job) → Admitted j → meaning (written j) ≡ accepted j
unfolding meaning written
meaning_written j a =
    let w = balance j in
    rw (file_passes j w a (unfold written in a.short) (unfold written in balanced j), job_here j w a)
