-- The rights that the writer is given (02, A5): how they stand in a list of numbers, three each.
--
--   rights_count        how many rights there are
--   right_in r          the right of a row of three numbers
--   rights_of_rows      the rights of a list of numbers are those of its rows
--   right_given, right_absent   the right of a head: that of its row, or every right
--   next_right, right_end   the refusal of the rows from one on, and behind the last
--   rights_fit          rights that are not refused fit the largest job
--   Narrow r            the numbers of the right r fit their bytes
--   rights_narrow       those of the largest job's rights do
use Rattle.std.proofs.Common.{◌≡◌, ℕ, suc, ◌+◌, ◌*◌, ◌/◌, ◌<◌, ◌≤◌, List, [], ◌∷◌, map, length, get_or, drop, sym, refl, ap}
use Rattle.std.proofs.Common.{◌∙◌, drop_of_length-le, arith, pow_mono}
use Rattle.std.proofs.lemmas.List.{at_drop_more, get_or-map}
use Rattle.std.specs.Simd.{first_chunks}
use lib.ListN.{get_or-eq_default, length-map}
use Rattle.job.specs.declared.Right.{Right}
use Rattle.job.specs.Job.{most_heads, every_right, right_of}
use Rattle.jobfile.specs.Format.{◌then◌, first_refusal, right_refusal}
use Rattle.jobfile.specs.Draft.{rights_given, each_right_refusal}
use Rattle.jobfile.proofs.Rights.{holds_checked, checked_holds, complete_few}
use Rattle.jobfile.proofs.Drafts.{complete_given}

pub rights_count : (l : List ℕ) → length (rights_given l) ≡ length l / 3
rights_count [] = refl
rights_count (h ∷ []) = omega arith
rights_count (h ∷ r ∷ []) = omega arith
rights_count (h ∷ r ∷ m ∷ l) = omega (arith, rights_count l)

pub right_absent : (l : List ℕ) (head : ℕ) → length l < 3 * head + 3 → every_right head ≡ right_of (rights_given l) head
right_absent l head short = sym (get_or-eq_default (rights_given l) (every_right head) (omega (arith, rights_count l)))

pub record Narrow (r : Right) : Type 0 where
  pub head : r.head < most_heads
  pub rights : r.rights ≤ 3

pub rights_narrow : (rs : List Right) → length rs ≤ most_heads → each_right_refusal most_heads 0 rs ≡ 0
    → (k : ℕ) (none : Right) → k < length rs → Narrow (get_or rs k none)
rights_narrow rs few e k none l =
    let h = holds_checked most_heads rs e k none l in
    record { head = omega (arith, h.head); rights = h.few }

pub rights_fit : (heads : ℕ) (rs : List Right) → heads ≤ most_heads → each_right_refusal heads 0 rs ≡ 0
    → each_right_refusal most_heads 0 rs ≡ 0
rights_fit heads rs few e =
    checked_holds most_heads rs
    (λ k none l.
    let h = holds_checked heads rs e k none l in
    record { head = h.head; some = h.some; few = h.few; sight = omega (arith, h.sight, pow_mono few) })

-- the right of a row of three numbers
abbrev pub right_in : List ℕ → Right
right_in r = record { head = get_or r 0 0; rights = get_or r 1 0; sight = get_or r 2 0 }

-- The rights of a list of numbers are those of its rows.
pub rights_of_rows : (l : List ℕ) → map right_in (first_chunks 3 (length l / 3) l) ≡ rights_given l
rights_of_rows [] = refl
rights_of_rows (h ∷ []) = refl
rights_of_rows (h ∷ r ∷ []) = refl
rights_of_rows (h ∷ r ∷ m ∷ l) =
    let one : length (h ∷ r ∷ m ∷ l) / 3 ≡ suc (length l / 3) = omega arith in
    rw one (ap (λ t. record { head = h; rights = r; sight = m } ∷ t) (rights_of_rows l))

-- The right of a head is that of its row.
pub right_given : (l : List ℕ) (head : ℕ) (row : List ℕ) → head < length l / 3 → row ≡ get_or (first_chunks 3 (length l / 3) l) head row
    → right_in row ≡ right_of (rights_given l) head
right_given l head row among is =
    let rows = first_chunks 3 (length l / 3) l in
    let all = rights_of_rows l in
    let within : head < length rows = omega (arith, rights_count l, ap length all, length-map rows right_in) in
    ap right_in is ∙ sym (get_or-map right_in rows head row (every_right head) within) ∙ ap (λ rs. right_of rs head) all

-- The refusal of the rows from one on: that of its right, or of those behind it.
pub next_right : (heads number : ℕ) (rows : List (List ℕ)) (i : ℕ) → i < length rows
    → each_right_refusal heads number (map right_in (drop i rows))
    ≡ (right_refusal heads number (right_in (get_or rows i []))
    then each_right_refusal heads (number + 1) (map right_in (drop (i + 1) rows)))
unfolding first_refusal
next_right heads number rows i l = at_drop_more (λ rs. each_right_refusal heads number (map right_in rs)) rows i [] l

-- and there is none behind the last.
pub right_end : (heads number : ℕ) (rows : List (List ℕ)) (i n : ℕ) → each_right_refusal heads number (map right_in (drop i rows)) ≡ n
    → length rows ≤ i → 0 ≡ n
unfolding first_refusal
right_end heads number rows i n is done = rw (drop_of_length-le rows {i = i} done) at is

-- What `checks::check_rights` is shown by.
pub ruleset rights_told = (complete_few, complete_given, rights_count)
