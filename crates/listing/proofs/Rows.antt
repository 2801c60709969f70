-- The rows of a list of numbers, by their places.
--
--   row_number   number j of row i stands in its place among all
--   report_row   the line of a request shows the numbers of its row
use Rattle.std.proofs.Common.{◌≡◌, ℕ, zero, suc, ◌+◌, ◌*◌, ◌/◌, ◌≤◌, ◌<◌, List, [], ◌∷◌, length, get_or, drop}
use Rattle.std.proofs.Common.{refl, ◌∙◌, ap, arith, get_or-drop}
use Rattle.std.proofs.lemmas.List.{get_or-take}
use Rattle.std.specs.Simd.{first_chunks}
use Rattle.listing.specs.Listing.{report_line, request_line}

row_number : (n k i j : ℕ) (d s : List ℕ) → i < k → j < n → get_or (get_or (first_chunks n k s) i d) j 0 ≡ get_or s (n * i + j) 0
row_number n zero i j d s l m = absurd (omega arith)
row_number n (suc k) zero j d s l m =
    let same : j ≡ n * 0 + j = omega arith in
    get_or-take n s j 0 m ∙ ap (λ a. get_or s a 0) same
row_number n (suc k) (suc i) j d s l m =
    let same : n + (n * i + j) ≡ n * suc i + j = omega arith in
    row_number n k i j d (drop n s) (omega arith) m ∙ get_or-drop n s (n * i + j) 0 ∙ ap (λ a. get_or s a 0) same

pub report_row : (number i : ℕ) (d s : List ℕ) (rows : List (List ℕ)) → rows ≡ first_chunks 4 (length s / 4) s → 4 * (i + 1) ≤ length s
    → report_line number s i
    ≡ request_line number (get_or (get_or rows i d) 0 0) (get_or (get_or rows i d) 1 0) (get_or (get_or rows i d) 2 0)
    (get_or (get_or rows i d) 3 0)
report_row number i d s rows is l =
    let row : (j : ℕ) → j < 4 → get_or (get_or rows i d) j 0 ≡ get_or s (4 * i + j) 0 =
    λ j m. ap (λ r. get_or (get_or r i d) j 0) is ∙ row_number 4 (length s / 4) i j d s (omega arith) m in
    let first : get_or (get_or rows i d) 0 0 ≡ get_or s (4 * i) 0 =
    let same : 4 * i + 0 ≡ 4 * i = omega arith in
    row 0 (omega arith) ∙ ap (λ a. get_or s a 0) same in
    rw (first, row 1 (omega arith), row 2 (omega arith), row 3 (omega arith)) refl
