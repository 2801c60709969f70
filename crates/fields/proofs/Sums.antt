-- Words of a file, and the loop that adds them up.
--
--   rows_sum rs             the sum of the words that the rows rs hold, two bytes each
--   sum_of_rows             the words of a file are those of its rows, and one for a byte that is left over
--   next_word               the sum of the rows from one on: its word and those behind it
--   sum_all                 what is summed behind the last row, with the byte that is left over, is the sum of the file
use Rattle.std.proofs.Common.{◌≡◌, ℕ, suc, ◌+◌, ◌*◌, ◌/◌, ◌%◌, ◌<◌, ◌≤◌, List, [], ◌∷◌, length, get_or, drop, arith}
use Rattle.std.proofs.Common.{drop_of_length-le}
use Rattle.std.proofs.lemmas.List.{at_drop_more}
use Rattle.std.specs.Simd.{first_chunks}
use Rattle.jobfile.specs.Format.{word, word_sum}

abbrev pub rows_sum : List (List ℕ) → ℕ
rows_sum [] = 0
rows_sum (row ∷ rows) = word row + rows_sum rows

pub sum_of_rows : (s : List ℕ) → word_sum s ≡ rows_sum (first_chunks 2 (length s / 2) s) + word (drop (length s / 2 * 2) s)
sum_of_rows [] = omega arith
sum_of_rows (low ∷ []) = omega arith
sum_of_rows (low ∷ high ∷ t) =
    let one : length (low ∷ high ∷ t) / 2 ≡ suc (length t / 2) = omega arith in
    let two : suc (length t / 2) * 2 ≡ suc (suc (length t / 2 * 2)) = omega arith in
    rw (one, two) (omega (arith, sum_of_rows t))

pub next_word : (rows : List (List ℕ)) (i : ℕ) → i < length rows
    → rows_sum (drop i rows) ≡ word (get_or rows i []) + rows_sum (drop (i + 1) rows)
next_word rows i l = at_drop_more rows_sum rows i [] l

pub sum_all : (s : List ℕ) (rows : List (List ℕ)) (rest : List ℕ) (sum i last : ℕ)
    → rows ≡ first_chunks 2 (length s / 2) s → rest ≡ drop (length s / 2 * 2) s → length rows ≤ i
    → (sum + rows_sum (drop i rows)) % 65536 ≡ rows_sum rows % 65536 → last ≡ word rest
    → (sum + last) % 65536 ≡ word_sum s % 65536
sum_all s rows rest sum i last front back end same is =
    let none : rows_sum (drop i rows) ≡ 0 = rw (drop_of_length-le rows {i = i} end) in
    let total : word_sum s ≡ rows_sum rows + last = rw (front, is, back) (sum_of_rows s) in
    omega (arith, same, none, total)
