-- The checks of a file in their order: the first that refuses gives the answer, and where none does, the counts are the job's.
--
--   behind_X s             the checks behind the part X of the file, in their order
--   RightsRead s g         the length and the header are accepted, and g is what reading the rights gave
--   RequestsRead s g q     the rights are accepted too, and q is what reading the requests gave
--   WaitsRead s g q w      the requests are accepted too, and w is what reading the pairs gave
--   RunsRead s g q w r     the pairs are accepted too, and r is what reading the runs gave
--   CloseRead s g q w r n  the runs are accepted too, and n is the refusal of the close and the balance
--   rights_told, requests_told, waits_told, runs_told, close_told   that they are, by what the functions promise
--   length_answers .. close_answers   the answer where that check refuses
--   counts_answer          the answer where none does
--   righted, waits_room, runs_room, close_room   where the next section starts is within the file
use mathlib.Core.Path.{◌≡◌, ◌∙◌, sym, ap}
use mathlib.Core.List.{List}
use Prim.Native.Nat.{ℕ, ◌+◌, ◌*◌, ◌≤◌, ◌<◌}
use native.Mathlib.Omega.{arith}
use lib.ListN.{length, drop, length-drop, length-map}
use borrow.Author.Tests.{lt-ltb, le-ltb, ne_eqb}
use Rattle.jobfile.specs.Format.{wait_mark, run_mark, job_size, wait_size, run_size, request_place, wait_place, run_place, most_bytes}
use Rattle.jobfile.specs.Format.{◌then◌}
use Rattle.jobfile.specs.Format.{no_pair, length_refusal}
use Rattle.jobfile.specs.Meaning.{records, nodes_in, heads_in, header_refusal, right_at, right_records}
use Rattle.jobfile.specs.Meaning.{rights_in, requests_start, requests_refusal, request_at, waits_refusal, wait_at, runs_refusal, run_at}
use Rattle.jobfile.specs.Meaning.{full_run, granted, close_refusal, balance_refusal, request_records, waits_start, wait_records, runs_start}
use Rattle.jobfile.specs.Meaning.{run_records, close_start, file_refusal, runs_in, job_in, refused, meaning}
use Rattle.jobfile.specs.Admitted.{Bytes}
use Rattle.jobfile.proofs.Records.{Section, Layout, refusal, section_fits}
use Rattle.jobfile.proofs.Refusals.{through, then_behind}
use Rattle.jobfile.proofs.Passed.{header_passed}
use Rattle.jobfile.proofs.Layouts.{right_layout, request_layout, wait_layout, run_layout}
use Rattle.jobfile.proofs.Backward.{right_section, request_section, wait_section, run_section}
use Rattle.jobfile.proofs.RoundTrip.{meaning_number, meaning_accepted, meaning_refused}
use Rattle.jobfile.proofs.Places.{runs_meant}
use Rattle.records.specs.Records.{Righted}
use Rattle.reader.specs.Reader.{Records, RunSection, answer_of, records_of, right_section_of, request_section_of, wait_section_of}
use Rattle.reader.specs.Reader.{run_section_of}

-- What is checked behind the runs,
abbrev behind_runs : List ℕ → ℕ
behind_runs s = close_refusal (drop (close_start s) s) then balance_refusal s

-- behind the pairs
abbrev behind_waits : List ℕ → ℕ
behind_waits s = runs_refusal (heads_in s) full_run (run_records s) then behind_runs s

-- behind the requests
abbrev behind_requests : List ℕ → ℕ
behind_requests s = waits_refusal (length (request_records s)) no_pair (wait_records s) then behind_waits s

-- and behind the rights.
abbrev behind_rights : List ℕ → ℕ
behind_rights s = requests_refusal (nodes_in s) (heads_in s) (rights_in s) 0 (request_records s) then behind_requests s

-- A refusal of the file is the answer.
refusal_answers : (s : List ℕ) (n : ℕ) → file_refusal s ≡ n → (n ≡ 0 → ⊥) → answer_of (refused n) ≡ answer_of (meaning s)
refusal_answers s n e z = rw (meaning_refused s (λ a. z (sym e ∙ a)), e)

module _ (s : List ℕ) (n behind : ℕ) (left : file_refusal s ≡ (n then behind)) where
  -- the first of the checks that are left answers where it refuses,
  check_answers : (n ≡ 0 → ⊥) → answer_of (refused n) ≡ answer_of (meaning s)
  check_answers z = refusal_answers s n (rw (ne_eqb n 0 z) at left) z

  -- and leaves those behind it where it does not
  check_passes : n ≡ 0 → file_refusal s ≡ behind
  check_passes z = rw z at left

-- What follows a section that is not refused starts within the file.
section_room : {A S : Type 0} (k : Layout A S) (none : S) (s : List ℕ) (start : ℕ) {ts : List (List ℕ)} {rest : List ℕ}
    → Section k.size k.mark (drop start s) ts rest → start ≤ length s → refusal k none ts ≡ 0
    → start + k.size * length ts ≤ length s
section_room k none s start stands within passes = omega (arith, section_fits k none stands passes, length-drop start s)

pub length_answers : (s : List ℕ) → most_bytes < length s → answer_of (refused 1) ≡ answer_of (meaning s)
unfolding file_refusal length_refusal
length_answers s l = refusal_answers s 1 (rw (lt-ltb most_bytes (length s) l)) (λ e. omega arith)

length_passes : (s : List ℕ) → length s ≤ most_bytes → length_refusal s ≡ 0
unfolding length_refusal
length_passes s l = rw (le-ltb most_bytes (length s) l)

pub header_answers : (s : List ℕ) (n : ℕ) → length s ≤ most_bytes → n ≡ header_refusal s → (n ≡ 0 → ⊥)
    → answer_of (refused n) ≡ answer_of (meaning s)
unfolding file_refusal
header_answers s n l e z = refusal_answers s n (simp (length_passes s l, ← e, ne_eqb n 0 z)) z

-- What a section that was read tells: its refusal, or its count.
module _ (number : ℕ) (ts : List (List ℕ)) {g : Records} (read : g ≡ records_of number ts) where
  records_number : g.number ≡ number
  unfolding records_of
  records_number = ap (λ (g : Records). g.number) read

  records_count : g.number ≡ 0 → g.count ≡ length ts
  unfolding records_of
  records_count z = ap (λ (g : Records). g.count) read ∙ rw (← records_number, z)

-- The length and the header are accepted, and g is what reading the rights gave.
pub record RightsRead (s : List ℕ) (g : Records) : Type 0 where
  pub short : length s ≤ most_bytes
  pub header : header_refusal s ≡ 0
  pub read : g ≡ right_section_of (heads_in s) (right_records s) (drop (requests_start s) s)

pub rights_told : {s : List ℕ} {heads : ℕ} {g : Records} → (length s ≤ most_bytes) × (header_refusal s ≡ 0) → heads ≡ heads_in s
    → g ≡ right_section_of heads (right_records s) (drop (requests_start s) s) → RightsRead s g
rights_told p h r = record { short = p.0; header = p.1; read = rw h at r }

module _ {s : List ℕ} {g : Records} (h : RightsRead s g) where
  right_count : g.number ≡ 0 → g.count ≡ length (right_records s)
  right_count = records_count _ _ h.read

  rights_left : file_refusal s ≡ (g.number then behind_rights s)
  unfolding file_refusal
  rights_left = simp (length_passes s h.short, h.header, records_number _ _ h.read, then_behind)

  pub rights_answer : (g.number ≡ 0 → ⊥) → answer_of (refused g.number) ≡ answer_of (meaning s)
  rights_answer = check_answers s g.number (behind_rights s) rights_left

  -- the rights are counted, and the requests start within the file
  pub righted : g.number ≡ 0 → Righted s g.count
  righted z =
      let whole = (header_passed s h.header).whole in
      let passes = (through _ _ (sym (records_number _ _ h.read) ∙ z)).first in
      record {
        counted = right_count z;
        within = rw (right_count z) (section_room (right_layout (heads_in s)) 0 s job_size (right_section s) whole passes);
      }

-- The rights are accepted too, and q is what reading the requests gave.
pub record RequestsRead (s : List ℕ) (g q : Records) : Type 0 where
  pub before : RightsRead s g
  pub rights : g.number ≡ 0
  pub read : q ≡ request_section_of (nodes_in s) (heads_in s) (rights_in s) (request_records s)

pub requests_told : {s : List ℕ} {g : Records} {nodes heads : ℕ} {q : Records} → RightsRead s g → g.number ≡ 0
    → nodes ≡ nodes_in s → heads ≡ heads_in s → q ≡ request_section_of nodes heads (rights_in s) (request_records s) → RequestsRead s g q
requests_told b z n h r = record { before = b; rights = z; read = rw (n, h) at r }

module _ {s : List ℕ} {g q : Records} (h : RequestsRead s g q) where
  request_count : q.number ≡ 0 → q.count ≡ length (request_records s)
  request_count = records_count _ _ h.read

  requests_left : file_refusal s ≡ (q.number then behind_requests s)
  requests_left =
      rw (records_number _ _ h.read) (check_passes s g.number (behind_rights s) (rights_left h.before) h.rights)

  pub requests_answer : (q.number ≡ 0 → ⊥) → answer_of (refused q.number) ≡ answer_of (meaning s)
  requests_answer = check_answers s q.number (behind_requests s) requests_left

  -- where the pairs start, by the counts
  waits_place : q.number ≡ 0 → request_place g.count q.count ≡ waits_start s
  waits_place z = rw (right_count h.before h.rights, request_count z)

  -- the pairs start within the file
  pub waits_room : q.number ≡ 0 → request_place g.count q.count ≤ length s
  waits_room z =
      let within = rw (right_count h.before h.rights) at (righted h.before h.rights).within in
      rw (waits_place z)
      (section_room (request_layout (nodes_in s) (heads_in s) (rights_in s)) 0 s (requests_start s) (request_section s) within
      (sym (records_number _ _ h.read) ∙ z))

-- The requests are accepted too, and w is what reading the pairs gave.
pub record WaitsRead (s : List ℕ) (g q w : Records) : Type 0 where
  pub before : RequestsRead s g q
  pub requests : q.number ≡ 0
  pub read : w ≡ wait_section_of (length (request_records s)) (wait_records s)

pub waits_told : {s : List ℕ} {g q : Records} {start : ℕ} {w : Records} → RequestsRead s g q → q.number ≡ 0
    → start ≡ request_place g.count q.count → w ≡ wait_section_of q.count (records wait_size wait_mark (drop start s))
    → WaitsRead s g q w
waits_told b z p r = record { before = b; requests = z; read = rw (p, waits_place b z, request_count b z) at r }

module _ {s : List ℕ} {g q w : Records} (h : WaitsRead s g q w) where
  wait_count : w.number ≡ 0 → w.count ≡ length (wait_records s)
  wait_count = records_count _ _ h.read

  waits_left : file_refusal s ≡ (w.number then behind_waits s)
  waits_left =
      rw (records_number _ _ h.read) (check_passes s q.number (behind_requests s) (requests_left h.before) h.requests)

  pub waits_answer : (w.number ≡ 0 → ⊥) → answer_of (refused w.number) ≡ answer_of (meaning s)
  waits_answer = check_answers s w.number (behind_waits s) waits_left

  -- where the runs start, by the counts
  runs_place : w.number ≡ 0 → wait_place g.count q.count w.count ≡ runs_start s
  runs_place z = rw (waits_place h.before h.requests, wait_count z)

  -- the runs start within the file
  pub runs_room : w.number ≡ 0 → wait_place g.count q.count w.count ≤ length s
  runs_room z =
      let within = rw (waits_place h.before h.requests) at (waits_room h.before h.requests) in
      rw (runs_place z)
      (section_room (wait_layout (length (request_records s))) no_pair s (waits_start s) (wait_section s) within
      (sym (records_number _ _ h.read) ∙ z))

-- The pairs are accepted too, and r is what reading the runs gave.
pub record RunsRead (s : List ℕ) (g q w : Records) (r : RunSection) : Type 0 where
  pub before : WaitsRead s g q w
  pub waits : w.number ≡ 0
  pub read : r ≡ run_section_of (heads_in s) (run_records s)

pub runs_told : {s : List ℕ} {g q w : Records} {heads start : ℕ} {r : RunSection} → WaitsRead s g q w
    → w.number ≡ 0 → heads ≡ heads_in s → start ≡ wait_place g.count q.count w.count
    → r ≡ run_section_of heads (records run_size run_mark (drop start s)) → RunsRead s g q w r
runs_told b z h p r = record { before = b; waits = z; read = rw (h, p, runs_place b z) at r }

module _ {s : List ℕ} {g q w : Records} {r : RunSection} (h : RunsRead s g q w r) where
  run_number : r.number ≡ runs_refusal (heads_in s) full_run (run_records s)
  unfolding run_section_of
  run_number = ap (λ (r : RunSection). r.number) h.read

  run_count : r.number ≡ 0 → r.count ≡ length (run_records s)
  unfolding run_section_of
  run_count z = ap (λ (r : RunSection). r.count) h.read ∙ rw (← run_number, z)

  run_grants : r.number ≡ 0 → r.grants ≡ length (granted (runs_in s))
  unfolding run_section_of
  run_grants z = ap (λ (r : RunSection). r.grants) h.read ∙ rw (← run_number, z)

  runs_left : file_refusal s ≡ (r.number then behind_runs s)
  runs_left = rw run_number (check_passes s w.number (behind_waits s) (waits_left h.before) h.waits)

  pub runs_answer : (r.number ≡ 0 → ⊥) → answer_of (refused r.number) ≡ answer_of (meaning s)
  runs_answer = check_answers s r.number (behind_runs s) runs_left

  -- where the close starts, by the counts
  close_place : r.number ≡ 0 → run_place g.count q.count w.count r.count ≡ close_start s
  close_place z = rw (runs_place h.before h.waits, run_count z)

  -- the close starts within the file
  pub close_room : r.number ≡ 0 → run_place g.count q.count w.count r.count ≤ length s
  close_room z =
      let within = rw (runs_place h.before h.waits) at (runs_room h.before h.waits) in
      rw (close_place z) (section_room (run_layout (heads_in s)) full_run s (runs_start s) (run_section s) within (sym run_number ∙ z))

-- The runs are accepted too, and n is the refusal of the close and the balance.
pub record CloseRead (s : List ℕ) (g q w : Records) (r : RunSection) (n : ℕ) : Type 0 where
  pub before : RunsRead s g q w r
  pub runs : r.number ≡ 0
  pub read : n ≡ behind_runs s

pub close_told : {s : List ℕ} {g q w : Records} {r : RunSection} {at n : ℕ} → RunsRead s g q w r → r.number ≡ 0
    → at ≡ run_place g.count q.count w.count r.count → n ≡ (close_refusal (drop at s) then balance_refusal s)
    → CloseRead s g q w r n
close_told b z p e = record { before = b; runs = z; read = rw (p, close_place b z) at e }

module _ {s : List ℕ} {g q w : Records} {r : RunSection} {n : ℕ} (h : CloseRead s g q w r n) where
  file_number : file_refusal s ≡ n
  file_number = check_passes s r.number (behind_runs s) (runs_left h.before) h.runs ∙ sym h.read

  pub close_answers : (n ≡ 0 → ⊥) → answer_of (refused n) ≡ answer_of (meaning s)
  close_answers z = refusal_answers s n file_number z

  pub counts_answer : Bytes s → n ≡ 0
      → record {
        number = 0;
        counts = record {
          nodes = nodes_in s;
          heads = heads_in s;
          rights = g.count;
          requests = q.count;
          waits = w.count;
          grants = r.grants;
          runs = r.count;
        };
      }
      ≡ answer_of (meaning s)
  unfolding job_in
  counts_answer b z =
      let accepts = meaning_accepted s (file_number ∙ z) in
      let none : (meaning s).number ≡ 0 = meaning_number s ∙ file_number ∙ z in
      let ran = h.before in
      let paired = ran.before in
      let asked = paired.before in
      let rights = right_count asked.before asked.rights in
      let requests = request_count asked paired.requests in
      λ i. record {
        number = sym none i;
        counts = record {
          nodes = ap (λ m. m.job.nodes) (sym accepts) i;
          heads = ap (λ m. m.job.heads) (sym accepts) i;
          rights = (rights ∙ sym (length-map (right_records s) right_at) ∙ ap (λ m. length m.job.rights) (sym accepts)) i;
          requests = (requests ∙ sym (length-map (request_records s) request_at) ∙ ap (λ m. length m.job.requests) (sym accepts)) i;
          waits = (wait_count paired ran.waits ∙ sym (length-map (wait_records s) wait_at)
              ∙ ap (λ m. length m.job.waits) (sym accepts)) i;
          grants = (run_grants ran h.runs ∙ ap (λ m. length m.job.schedule) (sym accepts)) i;
          runs = (run_count ran h.runs ∙ sym (length-map (run_records s) run_at) ∙ ap length (sym (runs_meant s b none))) i;
        };
      }
