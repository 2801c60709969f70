-- The records stored one after the other are the file, and what the writer leaves with it.
--
--   header j            the first record of a job's file
--   body_closed         the body with its close is the file
--   file_stored         the six parts, stored behind one another, are the file
--   left_refused, left_written   what the writer leaves
--   left_means          what it leaves means what it was given
use Rattle.std.proofs.Common.{◌≡◌, ℕ, ◌+◌, ◌-◌, ◌*◌, ◌%◌, ◌≤◌, eqb, List, [], ◌++◌, map, length, take, drop, sym, refl, ap, ◌∙◌}
use Rattle.std.proofs.Common.{append_assoc, arith, take_at, ne_eqb, eqb-true}
use lib.ListN.{length-map}
use lib.Seq.{sets}
use Rattle.basics.proofs.Conditions.{split}
use Rattle.job.specs.Job.{Job}
use Rattle.jobfile.specs.Format.{job_mark, close_mark, job_size, right_size, request_size, wait_size, run_size, word_bytes, word_sum}
use Rattle.jobfile.specs.Format.{request_of}
use Rattle.jobfile.specs.Written.{rights_bytes, requests_bytes, waits_bytes, runs_bytes, longest_runs, file_with, balance, written}
use Rattle.jobfile.specs.Draft.{Draft, rights_given, fields_of, pairs_of, job_of, draft_refusal}
use Rattle.jobfile.specs.Meaning.{accepted, meaning}
use Rattle.jobfile.proofs.Refusals.{through}
use Rattle.jobfile.proofs.Layouts.{right_layout, request_layout, wait_layout, run_layout}
use Rattle.jobfile.proofs.Forward.{body, file_parts, sum_parts}
use Rattle.jobfile.proofs.RoundTrip.{written_draft}
use Rattle.writer.specs.declared.Written.{Written}
use Rattle.writer.specs.Write.{close_bytes, write_refusal, answer, writes}
use Rattle.writer.proofs.Rights.{rights_count}
use Rattle.writer.proofs.Requests.{fields_count}
use Rattle.writer.proofs.Pairs.{pairs_count}
use Rattle.writer.proofs.Stores.{stored_on, sets_front, Front, front_on}
use Rattle.writer.proofs.Answers.{length_file, ready}

abbrev header : Job → List ℕ
header j = word_bytes job_mark ++ word_bytes j.nodes ++ word_bytes j.heads

body_closed : (j : Job) → body j ++ close_bytes (body j) ≡ written j
unfolding written
body_closed j =
    let sum : word_sum (file_with j 0) ≡ word_sum (body j ++ word_bytes close_mark) = omega (arith, sum_parts j 0) in
    sym (file_parts j (balance j) ∙ append_assoc (body j) (word_bytes close_mark) (word_bytes (balance j))
    ∙ ap (λ s. body j ++ (word_bytes close_mark ++ word_bytes ((65536 - s % 65536) % 65536))) sum)

-- What the buffer holds with the header, then the rights, the requests, the pairs, the runs and the close.
pub file_stored : (d : Draft) (out headed entitled listed paired scheduled closed : List ℕ) (asked pairs runs close : ℕ)
    → length (written (job_of d)) ≤ length out
    → headed ≡ sets out 0 (word_bytes job_mark ++ word_bytes d.nodes ++ word_bytes d.heads)
    → asked ≡ job_size + right_size * length (rights_given d.rights)
    → entitled ≡ sets headed job_size (rights_bytes (rights_given d.rights))
    → pairs ≡ asked + request_size * length (fields_of d.requests)
    → listed ≡ sets entitled asked (requests_bytes (map request_of (fields_of d.requests)))
    → runs ≡ pairs + wait_size * length (pairs_of d.waits)
    → paired ≡ sets listed pairs (waits_bytes (pairs_of d.waits))
    → close ≡ runs + run_size * length (longest_runs d.schedule)
    → scheduled ≡ sets paired runs (runs_bytes (longest_runs d.schedule))
    → closed ≡ sets scheduled close (close_bytes (take close scheduled))
    → closed ≡ sets out 0 (written (job_of d))
unfolding job_of
file_stored d out headed entitled listed paired scheduled closed asked pairs runs close fits first a rights q second w third r fourth
    last =
    let j = job_of d in
    let one : Front out (header j) job_size headed = record { place = refl; same = first } in
    let held = front_on (right_layout 0) j.rights one asked entitled a rights in
    let two = front_on (request_layout 0 0 []) j.requests held pairs listed (rw length-map q) second in
    let three = front_on (wait_layout 0) j.waits two runs paired w third in
    let four : Front out (body j) close scheduled =
    front_on (run_layout 0) (longest_runs j.schedule) three close scheduled r fourth in
    let room : length (body j) ≤ length out =
    omega (arith, four.place, length_file d, rights_count d.rights, fields_count d.requests, pairs_count d.waits) in
    let before : take close scheduled ≡ body j =
    ap (take close) (four.same ∙ sets_front out (body j) room)
    ∙ take_at (body j) (drop (length (body j)) out) close (sym four.place) in
    stored_on out scheduled closed (body j) (close_bytes (take close scheduled)) 0 close (omega (arith, four.place)) four.same last
    ∙ ap (λ t. sets out 0 (body j ++ close_bytes t)) before
    ∙ ap (sets out 0) (body_closed j)

refusal_told : (d : Draft) (room : ℕ) → (answer d room).number ≡ write_refusal d room
unfolding answer
refusal_told d room = split (eqb (write_refusal d room) 0) (λ e. rw e (sym (eqb-true (write_refusal d room) 0 e))) (λ e. rw e)

module _ (d : Draft) (out : List ℕ) (told : Written) (is : told ≡ answer d (length out)) where
  told_number : told.number ≡ write_refusal d (length out)
  told_number = ap (λ w. w.number) is ∙ refusal_told d (length out)

  pub none_refused : told.number ≡ 0 → write_refusal d (length out) ≡ 0
  none_refused none = sym told_number ∙ none

  pub left_refused : (told.number ≡ 0 → ⊥) → record { answer = told; out = out } ≡ writes d out
  unfolding writes
  left_refused some = rw (is, ne_eqb (write_refusal d (length out)) 0 (λ e. some (told_number ∙ e)))

  pub left_written : (after : List ℕ) → told.number ≡ 0 → after ≡ sets out 0 (written (job_of d))
      → record { answer = told; out = after } ≡ writes d out
  unfolding writes
  left_written after none stored =
      let enough = (ready d (length out) (none_refused none)).enough in
      rw (is, none_refused none, stored)
      (ap (λ (t : List ℕ). record { answer = answer d (length out); out = t }) (sets_front out (written (job_of d)) enough))

-- The file that is left means what the writer was given.
pub left_means : (d : Draft) (out : List ℕ) → (writes d out).answer.number ≡ 0
    → meaning (take (writes d out).answer.bytes (writes d out).out) ≡ accepted (job_of d)
unfolding writes answer write_refusal
left_means d out none =
    let file = written (job_of d) in
    let passes = sym (unfold write_refusal in refusal_told d (length out)) ∙ none in
    let draft = (through (draft_refusal d) _ passes).first in
    rw (passes, take_at file (drop (length file) out) (length file) refl) (written_draft d draft)

-- What `write` and `records::put_file` are shown by.
pub ruleset left_lemmas = (none_refused, left_refused, left_written)

pub ruleset put_file_lemmas = (rights_count, fields_count, pairs_count, length_file, ready, file_stored)
