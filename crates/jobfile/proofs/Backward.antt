-- What is read is written back: an accepted file is the file of its job, byte for byte, and its job is admitted.
--
--   close_front              the bytes of a close that is not refused are what stands there
--   right_section, request_section, wait_section, run_section   the sections of a file stand one behind the other
--   rights_rule, requests_rule, waits_rule, runs_rule   the rights and the requests of an accepted file are a job's, its pairs
--                            rise, its runs follow the rules
--   written_job              the file of an accepted file's job is that file
--   admitted_job             the job of an accepted file is admitted
use mathlib.Core.Path.{◌≡◌, refl, ◌∙◌, ap}
use mathlib.Core.List.{List, [], ◌++◌, map}
use Prim.Native.Nat.{ℕ}
use native.Mathlib.Omega.{arith}
use lib.ListN.{length, drop, length-map, drop_of_length-le}
use lib.Seq.{drop-drop}
use Rattle.job.specs.declared.Right.{Right}
use Rattle.jobfile.specs.declared.Run.{Run}
use Rattle.jobfile.specs.Format.{job_mark, right_mark, request_mark, wait_mark, run_mark, close_mark, job_size, right_size, request_size}
use Rattle.jobfile.specs.Format.{wait_size, run_size, close_size, word, word_bytes, word_sum, no_pair}
use Rattle.jobfile.specs.Meaning.{nodes_in, heads_in, right_at, right_record_refusal, request_at, request_refusal, wait_at, run_at}
use Rattle.jobfile.specs.Meaning.{run_refusal, full_run, right_records, rights_in, requests_start, request_records, waits_start}
use Rattle.jobfile.specs.Meaning.{wait_records, runs_start, run_records, close_start, runs_in, job_in}
use Rattle.jobfile.specs.Written.{file_with, balance, written}
use Rattle.jobfile.specs.Admitted.{Admitted, Bytes}
use Rattle.jobfile.proofs.Refusals.{Paired}
use Rattle.jobfile.proofs.Passed.{right_passed, complete_passed, request_passed, wait_passed, run_passed, ClosePassed, FilePassed}
use Rattle.jobfile.proofs.Records.{Section, records_section, bytes_drop, section_front}
use Rattle.jobfile.proofs.Chains.{latest, counted, section_chain}
use Rattle.jobfile.proofs.Rights.{Held, Holding, holding_each, holding_few}
use Rattle.jobfile.proofs.Requests.{Asked, Asking, asking_each, asking_few}
use Rattle.jobfile.proofs.Pairs.{Rising, rising_each, rising_next}
use Rattle.jobfile.proofs.Runs.{Following, Follows, longest_granted, granted_below}
use Rattle.jobfile.proofs.Layouts.{word_at, mark_front, right_layout, request_layout, wait_layout, run_layout}
use Rattle.jobfile.proofs.Forward.{sum_parts}

-- A right that is not refused is one of a job's,
right_held : (heads number : ℕ) (t : List ℕ) → right_record_refusal heads number t ≡ 0 → Held heads number (right_at t)
right_held heads number t e = let p = right_passed heads number t e in record { among = p.among; holds = p.holds }

-- and so is a request.
request_asked : (nodes heads : ℕ) (rights : List Right) (number : ℕ) (t : List ℕ) → request_refusal nodes heads rights number t ≡ 0
    → Asked nodes heads rights number (request_at t)
request_asked nodes heads rights number t e =
    let p = request_passed nodes heads rights number t e in
    let f = p.fields in
    record { few = p.counted; serves = record { head = f.head; x = f.x; y = f.y; asks = p.asks } }

-- A run that is not refused follows the rules: it is a byte.
run_follows : (heads : ℕ) (before : Run) (t : List ℕ) → Bytes t → run_refusal heads before t ≡ 0 → Following heads before (run_at t)
run_follows heads before t b e =
    let p = run_passed heads before t e in
    record { head = p.head; some = p.some; few = omega (arith, b 3); apart = p.apart }

close_front : (t : List ℕ) → Bytes t → ClosePassed t → word_bytes close_mark ++ word_bytes (word (drop 2 t)) ≡ t
close_front t b p =
    let l = p.whole in
    let none : drop close_size t ≡ [] = drop_of_length-le t {i = close_size} (omega arith) in
    let last : word_bytes (word (drop 2 t)) ≡ drop 2 t = rw none at (word_at 2 t b (omega arith)) in
    ap (λ (u : List ℕ). word_bytes close_mark ++ u) last ∙ mark_front close_mark t b (omega arith) p.marked

-- The sections of a file stand one behind the other.
pub right_section : (s : List ℕ) → Section right_size right_mark (drop job_size s) (right_records s) (drop (requests_start s) s)
right_section s = rw drop-drop at (records_section right_size right_mark (omega arith) refl (drop job_size s))

pub request_section : (s : List ℕ)
    → Section request_size request_mark (drop (requests_start s) s) (request_records s) (drop (waits_start s) s)
request_section s = rw drop-drop at (records_section request_size request_mark (omega arith) refl (drop (requests_start s) s))

pub wait_section : (s : List ℕ) → Section wait_size wait_mark (drop (waits_start s) s) (wait_records s) (drop (runs_start s) s)
wait_section s = rw drop-drop at (records_section wait_size wait_mark (omega arith) refl (drop (waits_start s) s))

pub run_section : (s : List ℕ) → Section run_size run_mark (drop (runs_start s) s) (run_records s) (drop (close_start s) s)
run_section s = rw drop-drop at (records_section run_size run_mark (omega arith) refl (drop (runs_start s) s))

module _ (s : List ℕ) (b : Bytes s) (p : FilePassed s) where
  pub rights_rule : Holding (heads_in s) 0 (rights_in s)
  rights_rule =
      section_chain (right_layout (heads_in s)) (Held (heads_in s)) counted (λ number t. refl)
      (λ number t b e. right_held (heads_in s) number t e) 0 (right_section s) (bytes_drop job_size s b) p.rights

  -- the rights are as many as their records
  rights_counted : length (rights_in s) ≡ length (right_records s)
  rights_counted = length-map (right_records s) right_at

  pub requests_rule : Asking (nodes_in s) (heads_in s) (rights_in s) 0 (map request_at (request_records s))
  requests_rule =
      section_chain (request_layout (nodes_in s) (heads_in s) (rights_in s)) (Asked (nodes_in s) (heads_in s) (rights_in s)) counted
      (λ number t. refl) (λ number t b e. request_asked (nodes_in s) (heads_in s) (rights_in s) number t e) 0
      (request_section s) (bytes_drop (requests_start s) s b) p.requests

  pub waits_rule : Rising (length (request_records s)) no_pair (map wait_at (wait_records s))
  waits_rule =
      let count = length (request_records s) in
      section_chain (wait_layout count) (Paired count) latest (λ before t. refl) (λ before t b e. (wait_passed count before t e).pair)
      no_pair (wait_section s) (bytes_drop (waits_start s) s b) p.waits

  pub runs_rule : Follows (heads_in s) full_run (runs_in s)
  runs_rule =
      section_chain (run_layout (heads_in s)) (Following (heads_in s)) latest (λ before t. refl) (run_follows (heads_in s))
      full_run (run_section s) (bytes_drop (runs_start s) s b) p.runs

  file_front : file_with (job_in s) (word (drop 2 (drop (close_start s) s))) ≡ s
  unfolding file_with job_in
  file_front =
      let l = p.header.whole in
      rw (
        longest_granted (heads_in s) full_run (runs_in s) runs_rule,
        close_front (drop (close_start s) s) (bytes_drop (close_start s) s b) p.close,
        section_front (run_layout (heads_in s)) full_run (run_section s) p.runs (bytes_drop (runs_start s) s b),
        section_front (wait_layout (length (request_records s))) no_pair (wait_section s) p.waits (bytes_drop (waits_start s) s b),
        section_front (request_layout (nodes_in s) (heads_in s) (rights_in s)) 0 (request_section s) p.requests
            (bytes_drop (requests_start s) s b),
        section_front (right_layout (heads_in s)) 0 (right_section s) p.rights (bytes_drop job_size s b),
        word_at 4 s b (omega arith),
        word_at 2 s b (omega arith),
      )
      (mark_front job_mark s b (omega arith) p.header.marked)

  -- the last word is what the other words leave to zero
  balance_found : word (drop 2 (drop (close_start s) s)) ≡ balance (job_in s)
  balance_found =
      let t = drop (close_start s) s in
      let c = bytes_drop 2 t (bytes_drop (close_start s) s b) in
      omega (arith, sum_parts (job_in s) 0, sum_parts (job_in s) (word (drop 2 t)), ap word_sum file_front, p.balance, c 0, c 1)

  pub written_job : written (job_in s) ≡ s
  unfolding written
  written_job = rw (← balance_found) file_front

  pub admitted_job : Admitted (job_in s)
  unfolding job_in
  admitted_job =
      record {
        some_nodes = p.header.sizes.some_nodes;
        few_nodes = p.header.sizes.few_nodes;
        some_heads = p.header.sizes.some_heads;
        few_heads = p.header.sizes.few_heads;
        few_requests = omega (
          arith,
          asking_few (nodes_in s) (heads_in s) (rights_in s) 0 (map request_at (request_records s)) (omega arith) requests_rule,
        );
        complete = rw rights_counted
            (complete_passed (heads_in s) (length (right_records s)) (drop (requests_start s) s)
            (omega (arith, rights_counted, holding_few (heads_in s) (rights_in s) rights_rule)) p.complete);
        each_right = holding_each (heads_in s) (rights_in s) rights_rule;
        each_request = asking_each (nodes_in s) (heads_in s) (rights_in s) 0 (map request_at (request_records s)) requests_rule;
        each_wait = rw (length-map (request_records s) request_at)
            (rising_each (length (request_records s)) no_pair (map wait_at (wait_records s)) waits_rule);
        rising = rising_next (length (request_records s)) no_pair (map wait_at (wait_records s)) waits_rule;
        each_grant = granted_below (heads_in s) full_run (runs_in s) runs_rule;
        short = rw written_job p.short;
      }
