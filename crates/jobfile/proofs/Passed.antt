-- What it says that a record, or a whole file, is not refused: one record of facts for each check.
--
--   RightPassed, RequestPassed, WaitPassed, RunPassed, ClosePassed, HeaderPassed, FilePassed   the facts, by what is checked
--   complete_passed, complete_passes   where none is missing, rights are none or one a head, and the other way round
use mathlib.Core.Path.{◌≡◌, refl}
use mathlib.Core.Bool.{true, false, not}
use mathlib.Core.List.{List}
use Prim.Native.Nat.{ℕ, zero, suc, ◌%◌, ◌≤◌, ◌<◌}
use native.Mathlib.Omega.{arith}
use lib.Dec.{eqb, ltb, leb}
use lib.ListN.{length, get_or, drop}
use borrow.Author.Tests.{eqb-true, eqb-false, ltb-false, leb-true, leb-false, not-false, ne_eqb, le-leb}
use Rattle.basics.proofs.Conditions.{split}
use Rattle.job.specs.declared.Wait.{Wait}
use Rattle.job.specs.declared.Right.{Right}
use Rattle.jobfile.specs.declared.Run.{Run}
use Rattle.job.specs.Job.{most_requests, may_ask, kind_of, right_of}
use Rattle.jobfile.specs.Format.{job_mark, close_mark, job_size, right_size, request_size, wait_size, run_size, close_size, most_bytes}
use Rattle.jobfile.specs.Format.{word}
use Rattle.jobfile.specs.Format.{word_sum, fields_refusal, no_pair, extends, length_refusal}
use Rattle.jobfile.specs.Meaning.{nodes_in, heads_in, header_refusal, right_at, right_record_refusal, rights_refusal, missing_refusal}
use Rattle.jobfile.specs.Meaning.{right_records, rights_in, requests_start, fields_at, request_refusal}
use Rattle.jobfile.specs.Meaning.{requests_refusal, wait_at, wait_refusal, waits_refusal, run_refusal, runs_refusal, full_run}
use Rattle.jobfile.specs.Meaning.{close_refusal}
use Rattle.jobfile.specs.Meaning.{balance_refusal, request_records, wait_records, run_records, close_start, file_refusal}
use Rattle.jobfile.specs.Admitted.{Holds}
use Rattle.jobfile.proofs.Refusals.{passed, through, Sized, sized, held, Fit, fit, may, Paired, paired}

pub record RightPassed (heads number : ℕ) (t : List ℕ) : Type 0 where
  pub among : number < heads
  pub whole : right_size ≤ length t
  pub holds : Holds heads number (right_at t)

pub right_passed : (heads number : ℕ) (t : List ℕ) → right_record_refusal heads number t ≡ 0 → RightPassed heads number t
unfolding right_record_refusal
right_passed heads number t e =
    let a = passed (leb heads number) 2 _ e in
    let b = passed (ltb (length t) right_size) 1 _ a.rest in
    record {
      among = leb-false heads number a.test;
      whole = ltb-false (length t) right_size b.test;
      holds = held heads number (right_at t) b.rest;
    }

pub complete_passed : (heads count : ℕ) (t : List ℕ) → count ≤ heads → missing_refusal heads count t ≡ 0 → 0 < count → count ≡ heads
unfolding missing_refusal
complete_passed heads count t few e some =
    split (leb heads count)
    (λ all. omega (arith, leb-true heads count all))
    (λ short.
    let begun = passed (ltb (length t) 2) 1 3 (rw (ne_eqb count 0 (λ z. omega arith), short) at e) in
    absurd (omega (arith, begun.rest)))

pub complete_passes : (heads count : ℕ) (t : List ℕ) → (0 < count → count ≡ heads) → missing_refusal heads count t ≡ 0
unfolding missing_refusal
complete_passes heads zero t complete = refl
complete_passes heads (suc count) t complete =
    rw (ne_eqb (suc count) 0 (λ z. omega arith), le-leb heads (suc count) (omega (arith, complete (omega arith))))

pub record RequestPassed (nodes heads : ℕ) (rights : List Right) (number : ℕ) (t : List ℕ) : Type 0 where
  pub whole : request_size ≤ length t
  pub counted : number < most_requests
  pub fields : Fit nodes heads (fields_at t)
  pub asks : may_ask (right_of rights (get_or t 2 0)).rights (kind_of (get_or t 3 0)) ≡ true

pub request_passed : (nodes heads : ℕ) (rights : List Right) (number : ℕ) (t : List ℕ) → request_refusal nodes heads rights number t ≡ 0
    → RequestPassed nodes heads rights number t
unfolding request_refusal
request_passed nodes heads rights number t e =
    let a = passed (ltb (length t) request_size) 1 _ e in
    let b = passed (leb most_requests number) 8 _ a.rest in
    let c = through (fields_refusal nodes heads (fields_at t)) _ b.rest in
    record {
      whole = ltb-false (length t) request_size a.test;
      counted = leb-false most_requests number b.test;
      fields = fit nodes heads (fields_at t) c.first;
      asks = may _ _ c.second;
    }

pub record WaitPassed (count : ℕ) (before : Wait) (t : List ℕ) : Type 0 where
  pub whole : wait_size ≤ length t
  pub pair : Paired count before (wait_at t)

pub wait_passed : (count : ℕ) (before : Wait) (t : List ℕ) → wait_refusal count before t ≡ 0 → WaitPassed count before t
unfolding wait_refusal
wait_passed count before t e =
    let a = passed (ltb (length t) wait_size) 1 _ e in
    record { whole = ltb-false (length t) wait_size a.test; pair = paired count before (wait_at t) a.rest }

-- What it says of a run that its head is admitted, it grants something, and it could not have joined the run before it.
pub record RunPassed (heads : ℕ) (before : Run) (t : List ℕ) : Type 0 where
  pub whole : run_size ≤ length t
  pub head : get_or t 2 0 < heads
  pub some : 0 < get_or t 3 0
  pub apart : extends before (get_or t 2 0) ≡ false

pub run_passed : (heads : ℕ) (before : Run) (t : List ℕ) → run_refusal heads before t ≡ 0 → RunPassed heads before t
unfolding run_refusal
run_passed heads before t e =
    let a = passed (ltb (length t) run_size) 1 _ e in
    let h = passed (leb heads (get_or t 2 0)) 9 _ a.rest in
    let n = passed (eqb (get_or t 3 0) 0) 9 _ h.rest in
    let x = passed (extends before (get_or t 2 0)) 10 _ n.rest in
    record {
      whole = ltb-false (length t) run_size a.test;
      head = leb-false heads (get_or t 2 0) h.test;
      some = omega (arith, eqb-false (get_or t 3 0) 0 n.test);
      apart = x.test;
    }

pub record ClosePassed (t : List ℕ) : Type 0 where
  pub marked : word t ≡ close_mark
  pub whole : length t ≡ close_size

pub close_passed : (t : List ℕ) → close_refusal t ≡ 0 → ClosePassed t
unfolding close_refusal
close_passed t e =
    let a = passed (ltb (length t) 2) 1 _ e in
    let m = passed (not (eqb (word t) close_mark)) 2 _ a.rest in
    let w = passed (ltb (length t) close_size) 1 _ m.rest in
    let n = passed (ltb close_size (length t)) 11 _ w.rest in
    record {
      marked = eqb-true (word t) close_mark (not-false _ m.test);
      whole = omega (arith, ltb-false (length t) close_size w.test, ltb-false close_size (length t) n.test);
    }

pub record HeaderPassed (s : List ℕ) : Type 0 where
  pub marked : word s ≡ job_mark
  pub whole : job_size ≤ length s
  pub sizes : Sized (nodes_in s) (heads_in s)

pub header_passed : (s : List ℕ) → header_refusal s ≡ 0 → HeaderPassed s
unfolding header_refusal
header_passed s e =
    let a = passed (ltb (length s) 2) 1 _ e in
    let m = passed (not (eqb (word s) job_mark)) 2 _ a.rest in
    let w = passed (ltb (length s) job_size) 1 _ m.rest in
    record {
      marked = eqb-true (word s) job_mark (not-false _ m.test);
      whole = ltb-false (length s) job_size w.test;
      sizes = sized (nodes_in s) (heads_in s) w.rest;
    }

-- What it says that a file is not refused, check by check.
pub record FilePassed (s : List ℕ) : Type 0 where
  pub short : length s ≤ most_bytes
  pub header : HeaderPassed s
  pub rights : rights_refusal (heads_in s) 0 (right_records s) ≡ 0
  pub complete : missing_refusal (heads_in s) (length (right_records s)) (drop (requests_start s) s) ≡ 0
  pub requests : requests_refusal (nodes_in s) (heads_in s) (rights_in s) 0 (request_records s) ≡ 0
  pub waits : waits_refusal (length (request_records s)) no_pair (wait_records s) ≡ 0
  pub runs : runs_refusal (heads_in s) full_run (run_records s) ≡ 0
  pub close : ClosePassed (drop (close_start s) s)
  pub balance : word_sum s % 65536 ≡ 0

pub file_passed : (s : List ℕ) → file_refusal s ≡ 0 → FilePassed s
unfolding file_refusal length_refusal balance_refusal
file_passed s e =
    let a = through _ _ e in
    let h = through _ _ a.second in
    let g = through _ _ h.second in
    let m = through _ _ g.second in
    let q = through _ _ m.second in
    let w = through _ _ q.second in
    let r = through _ _ w.second in
    let c = through _ _ r.second in
    record {
      short = ltb-false most_bytes (length s) (passed (ltb most_bytes (length s)) 0 _ a.first).test;
      header = header_passed s h.first;
      rights = g.first;
      complete = m.first;
      requests = q.first;
      waits = w.first;
      runs = r.first;
      close = close_passed (drop (close_start s) s) c.first;
      balance = eqb-true _ 0 (not-false _ (passed (not (eqb (word_sum s % 65536) 0)) 12 _ c.second).test);
    }
