-- The writer's answer, test by test, and what it says that nothing is refused.
--
--   numbers_refusal d   the refusal of the numbers of a draft, before the length of its file
--   length_file         the length of a draft's file
--   answer_numbers, answer_length, answer_buffer, answer_written   the four ways that a check ends
--   Ready d room        what is known of a draft that is not refused
use Rattle.std.proofs.Common.{◌≡◌, ℕ, ◌/◌, ◌<◌, ◌≤◌, ltb, [], length, sym, ◌∙◌, arith, ltb-false, le-ltb, lt-ltb, ne_eqb}
use lib.ListN.{length-map}
use Rattle.job.specs.Job.{most_nodes, most_heads, most_requests}
use Rattle.jobfile.specs.Format.{file_size, most_bytes, ◌then◌, sizes_refusal, no_pair, length_refusal}
use Rattle.jobfile.specs.Written.{longest_runs, written}
use Rattle.jobfile.specs.Draft.{Draft, rights_given, fields_of, pairs_of, job_of, complete_refusal, each_right_refusal, count_refusal}
use Rattle.jobfile.specs.Draft.{each_refusal, pairs_refusal, grants_refusal, draft_refusal}
use Rattle.jobfile.proofs.Refusals.{passed, through, then_behind, sized}
use Rattle.jobfile.proofs.Rights.{complete_few}
use Rattle.jobfile.proofs.Drafts.{complete_given}
use Rattle.jobfile.proofs.Places.{length_written}
use Rattle.writer.specs.Write.{buffer_refusal, write_refusal, refused, answer}
use Rattle.writer.proofs.Rights.{rights_count, rights_fit}
use Rattle.writer.proofs.Requests.{fields_count, each_fits}
use Rattle.writer.proofs.Pairs.{pairs_count, pairs_fit}

-- The number of rights, then each of them.
abbrev pub rights_refusal : Draft → ℕ
rights_refusal d =
    complete_refusal d.heads (length (rights_given d.rights)) then each_right_refusal d.heads 0 (rights_given d.rights)

-- Each request.
abbrev pub requests_refusal : Draft → ℕ
requests_refusal d = each_refusal d.nodes d.heads (rights_given d.rights) (fields_of d.requests)

-- The rights, then the count of the requests, then each request, then each pair, then each grant.
abbrev pub numbers_refusal : Draft → ℕ
numbers_refusal d =
    sizes_refusal d.nodes d.heads
    then rights_refusal d
    then count_refusal (length (fields_of d.requests))
    then requests_refusal d
    then pairs_refusal (length (fields_of d.requests)) no_pair (pairs_of d.waits)
    then grants_refusal d.heads d.schedule

pub length_file : (d : Draft)
    → length (written (job_of d))
    ≡ file_size (length d.rights / 3) (length d.requests / 4) (length d.waits / 2) (length (longest_runs d.schedule))
unfolding job_of
length_file d = length_written (job_of d) ∙ simp (length-map, rights_count, fields_count, pairs_count)

module _ (d : Draft) (room : ℕ) where
  in_order : write_refusal d room
      ≡ (numbers_refusal d then length_refusal (written (job_of d)) then buffer_refusal (written (job_of d)) room)
  unfolding write_refusal draft_refusal
  in_order = simp then_behind

  refuses : (n : ℕ) → n ≡ write_refusal d room → (n ≡ 0 → ⊥) → refused n ≡ answer d room
  unfolding answer
  refuses n is some = rw (← is, ne_eqb n 0 some)

  pub answer_numbers : (n : ℕ) → n ≡ numbers_refusal d → (n ≡ 0 → ⊥) → refused n ≡ answer d room
  answer_numbers n is some = refuses n (rw (in_order, ← is, ne_eqb n 0 some)) some

-- Rights that are none or one a head are few.
rights_within : (d : Draft) → complete_refusal d.heads (length (rights_given d.rights)) ≡ 0 → d.heads ≤ most_heads
    → length d.rights / 3 ≤ most_heads
rights_within d complete few =
    let count = length (rights_given d.rights) in
    omega (arith, rights_count d.rights, complete_few d.heads count (complete_given d.heads count complete))

-- What is asked once the numbers are not refused: the file's length, which is known from the counts, and the buffer.
module _ (d : Draft) (n : ℕ) (is : n ≡ numbers_refusal d) (none : n ≡ 0) where
  passes : numbers_refusal d ≡ 0
  passes = sym is ∙ none

  behind_sizes : (rights_refusal d
      then count_refusal (length (fields_of d.requests))
      then requests_refusal d
      then pairs_refusal (length (fields_of d.requests)) no_pair (pairs_of d.waits)
      then grants_refusal d.heads d.schedule)
      ≡ 0
  behind_sizes = (through (sizes_refusal d.nodes d.heads) _ passes).second

  pub few_rights : length d.rights / 3 ≤ most_heads
  few_rights =
      let size = sized d.nodes d.heads (through (sizes_refusal d.nodes d.heads) _ passes).first in
      let complete = (through (complete_refusal d.heads _) _ (through (rights_refusal d) _ behind_sizes).first).first in
      rights_within d complete size.few_heads

  pub few_requests : length d.requests / 4 ≤ most_requests
  unfolding count_refusal
  few_requests =
      let count = length (fields_of d.requests) in
      let few = (through (count_refusal count) _ (through (rights_refusal d) _ behind_sizes).second).first in
      rw fields_count at (ltb-false most_requests count (passed (ltb most_requests count) 8 0 few).test)

  module _ (room : ℕ) where
    pub answer_length : most_bytes < length (written (job_of d)) → refused 1 ≡ answer d room
    unfolding length_refusal
    answer_length long =
        refuses d room 1 (rw (in_order d room, passes, lt-ltb most_bytes (length (written (job_of d))) long)) (λ e. omega arith)

    module _ (short : length (written (job_of d)) ≤ most_bytes) where
      rest : write_refusal d room ≡ buffer_refusal (written (job_of d)) room
      unfolding length_refusal
      rest = rw (in_order d room, passes, le-ltb most_bytes (length (written (job_of d))) short)

      pub answer_buffer : room < length (written (job_of d)) → refused 14 ≡ answer d room
      unfolding buffer_refusal
      answer_buffer small = refuses d room 14 (rw (rest, lt-ltb room (length (written (job_of d))) small)) (λ e. omega arith)

      pub answer_written : (bytes : ℕ) → bytes ≡ length (written (job_of d)) → bytes ≤ room
          → record { number = 0; bytes = bytes } ≡ answer d room
      unfolding answer buffer_refusal
      answer_written bytes file fits = rw (rest, ← file, le-ltb room bytes fits)

pub record Ready (d : Draft) (room : ℕ) : Type 0 where
  pub few_nodes : d.nodes ≤ most_nodes
  pub few_heads : d.heads ≤ most_heads
  -- every right, every request and every pair fits the largest job
  pub few_rights : length (rights_given d.rights) ≤ most_heads
  pub rights : each_right_refusal most_heads 0 (rights_given d.rights) ≡ 0
  pub fits : each_refusal most_nodes most_heads [] (fields_of d.requests) ≡ 0
  pub pairs : pairs_refusal most_requests no_pair (pairs_of d.waits) ≡ 0
  -- and the file fits the buffer
  pub enough : length (written (job_of d)) ≤ room

pub ready : (d : Draft) (room : ℕ) → write_refusal d room ≡ 0 → Ready d room
unfolding write_refusal draft_refusal count_refusal buffer_refusal
ready d room passes =
    let count = length (fields_of d.requests) in
    let a = through (draft_refusal d) _ passes in
    let b = through (sizes_refusal d.nodes d.heads) _ a.first in
    let complete = through (complete_refusal d.heads (length (rights_given d.rights))) _ b.second in
    let held = through (each_right_refusal d.heads 0 (rights_given d.rights)) _ complete.second in
    let e = through (count_refusal count) _ held.second in
    let each = through (requests_refusal d) _ e.second in
    let rise = (through (pairs_refusal count no_pair (pairs_of d.waits)) _ each.second).first in
    let size = sized d.nodes d.heads b.first in
    let few = ltb-false most_requests count (passed (ltb most_requests count) 8 0 e.first).test in
    record {
      few_nodes = size.few_nodes;
      few_heads = size.few_heads;
      few_rights = rw rights_count (rights_within d complete.first size.few_heads);
      rights = rights_fit d.heads (rights_given d.rights) size.few_heads held.first;
      fits = each_fits d.nodes d.heads (rights_given d.rights) (fields_of d.requests) size each.first;
      pairs = pairs_fit count no_pair (pairs_of d.waits) few rise;
      enough = ltb-false room (length (written (job_of d))) (passed (ltb room (length (written (job_of d)))) 13 0 a.second).test;
    }

-- What the refusals of `checks::Draft::check` are shown by.
pub ruleset checked_lemmas = (length_file, few_rights, few_requests, answer_numbers, answer_length)
