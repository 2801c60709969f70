-- The two loops that write: the rows that were found, and a page from rows whose numbers fit their columns.
--
--   Fitting r                  the numbers of the row r fit their columns
--   AllFitting rows n          so do those of the first n rows
--   page_after rows page n     the lent page once the lines of n rows are written
--
-- Main laws: lines_to_length, how long a page is by its rows; rows_next and rows_done, page_start, page_next and page_done: a
-- loop leaves what it wrote, and then what was there.
use mathlib.Core.Path.{◌≡◌, refl, sym, ap, ◌∙◌}
use mathlib.Core.List.{List, [], ◌∷◌, ◌++◌}
use Prim.Native.Nat.{ℕ, zero, suc, ◌+◌, ◌%◌, ◌^◌, ◌≤◌, ◌<◌}
use native.Mathlib.Numerals.{add-one}
use native.Mathlib.Omega.{arith}
use lib.Dec.{eqb}
use lib.ListN.{length, get_or, set, take, drop, length-append, length-replicate}
use lib.Seq.{sets, sets-eq, drop-cons, take-suc, set_at, append_snoc, length-take-le, take-length}
use borrow.Author.Tests.{eqb-true, eqb-false}
use Rattle.basics.proofs.Conditions.{split}
use Rattle.text.specs.Text.{decimal, each}
use Rattle.text.proofs.Text.{digits_most}
use Rattle.text.proofs.Writing.{sets_append}
use Rattle.page.specs.declared.Row.{Row}
use Rattle.page.specs.Rows.{no_row}
use Rattle.page.specs.Page.{right_aligned, columns, heading, row_line, row_lines, lines_to}
use Rattle.page.specs.Written.{page_length, lined}

-- every row of a table has numbers of at most 8 digits
pub record Fitting (r : Row) : Type 0 where
  pub lowest : r.lowest < 10 ^ 8
  pub size : r.size < 10 ^ 8
  pub root : r.root < 10 ^ 8
  pub rank : r.rank < 10 ^ 8

abbrev pub AllFitting : List Row → ℕ → Type 0
AllFitting rows n = (k : ℕ) → k < n → Fitting (get_or rows k no_row)

unfoldable pub page_after : List Row → List ℕ → ℕ → List ℕ
page_after rows page n = sets page 0 (lines_to rows n)

-- ---- lengths

column_length : (text : List ℕ) → length text ≤ 8 → length (right_aligned text) ≡ 8
column_length text l = simp (length-append, length-replicate) (omega arith)

number_length : (n : ℕ) → n < 10 ^ 8 → length (right_aligned (decimal n)) ≡ 8
number_length n l = column_length (decimal n) (digits_most 7 n l)

columns_length : (text : List ℕ) (texts : List (List ℕ))
    → length (columns (text ∷ texts)) ≡ length (right_aligned text) + length (columns texts)
columns_length text texts = length-append (right_aligned text) (columns texts)

-- every line has 33 bytes
pub row_length : (r : Row) → Fitting r → length (row_line r) ≡ 33
unfolding row_line
row_length r f =
    let last : List (List ℕ) = decimal r.rank ∷ [] in
    let third : List (List ℕ) = decimal r.root ∷ last in
    let second : List (List ℕ) = decimal r.size ∷ third in
    omega (
      arith,
      length-append (columns (decimal r.lowest ∷ second)) (10 ∷ []),
      columns_length (decimal r.lowest) second,
      columns_length (decimal r.size) third,
      columns_length (decimal r.root) last,
      columns_length (decimal r.rank) [],
      number_length r.lowest f.lowest,
      number_length r.size f.size,
      number_length r.root f.root,
      number_length r.rank f.rank,
    )

heading_length : length heading ≡ 33
unfolding heading
heading_length = refl

-- one row more is one line more, or two
lines_length : (i : ℕ) (r : Row) → Fitting r → page_length i + length (row_lines i r) ≡ page_length (suc i)
lines_length i r f =
    split (eqb (i % 20) 0)
    (λ e.
    rw e (omega (arith, length-append heading (row_line r), heading_length, row_length r f, eqb-true (i % 20) 0 e)))
    (λ e. rw e (omega (arith, row_length r f, eqb-false (i % 20) 0 e)))

pub lines_to_length : (rows : List Row) (n : ℕ) → AllFitting rows n → length (lines_to rows n) ≡ page_length n
unfolding each
lines_to_length rows zero f = refl
lines_to_length rows (suc n) f =
    omega (
      arith,
      length-append (lines_to rows n) (row_lines n (get_or rows n no_row)),
      lines_to_length rows n (λ k l. f k (omega arith)),
      lines_length n (get_or rows n no_row) (f n (omega arith)),
    )

-- ---- writing the page

module _ (rows : List Row) (page : List ℕ) where
  pub page_start : page_after rows page 0 ≡ page
  unfolding page_after each
  page_start = refl

  pub page_next : (i : ℕ) → AllFitting rows i
      → sets (page_after rows page i) (page_length i) (row_lines i (get_or rows i no_row)) ≡ page_after rows page (i + 1)
  unfolding page_after each
  page_next i f =
      rw (add-one i)
      (sets_append (lines_to rows i) (row_lines i (get_or rows i no_row)) page 0 (page_length i) (omega (arith, lines_to_length rows i f)))

  pub page_done : (n : ℕ) → length (lines_to rows n) ≤ length page
      → page_after rows page n ≡ lines_to rows n ++ drop (length (lines_to rows n)) page
  unfolding page_after
  page_done n l =
      let start : 0 + length (lines_to rows n) ≡ length (lines_to rows n) = omega arith in
      sets-eq (lines_to rows n) page 0 (omega arith) ∙ ap (λ k. lines_to rows n ++ drop k page) start

-- rows that agree have the same lines
pub lines_same : (rows others : List Row) (n : ℕ) → ((k : ℕ) → k < n → get_or rows k no_row ≡ get_or others k no_row)
    → lines_to rows n ≡ lines_to others n
unfolding each
lines_same rows others zero same = refl
lines_same rows others (suc n) same =
    let before : lines_to rows n ≡ lines_to others n = lines_same rows others n (λ k l. same k (omega arith)) in
    let here : get_or rows n no_row ≡ get_or others n no_row = same n (omega arith) in
    λ i. before i ++ row_lines n (here i)

-- ---- filling the rows

-- one row of those found is filled
pub rows_next : (found rows : List Row) {now : List Row} {k : ℕ} {row : Row} → now ≡ take k found ++ drop k rows
    → row ≡ get_or found k no_row → k < length found → length found ≤ length rows → set now k row ≡ take (k + 1) found ++ drop (k + 1) rows
rows_next found rows {now} {k} {row} same e l few =
    rw (add-one k, same, drop-cons rows k no_row (omega arith), take-suc found k no_row l, e)
    (set_at (take k found) (get_or rows k no_row) (drop (suc k) rows) (get_or found k no_row) k (length-take-le k found (omega arith))
    ∙ sym (append_snoc (take k found) (get_or found k no_row) (drop (suc k) rows)))

-- all of them are
pub rows_done : (found rows after : List Row) (n : ℕ) → n ≡ length found → after ≡ take n found ++ drop n rows
    → after ≡ found ++ drop (length found) rows
rows_done found rows after n all e =
    e ∙ ap (λ (m : ℕ). take m found ++ drop m rows) all
    ∙ ap (λ (front : List Row). front ++ drop (length found) rows) (take-length found)

-- ---- the loop over the page leaves that

pub lined_after : (rows : List Row) (page : List ℕ) (n : ℕ) → AllFitting rows n → lined rows n page ≡ page_after rows page n
lined_after rows page zero f = sym (page_start rows page)
lined_after rows page (suc n) f =
    let before : AllFitting rows n = λ k l. f k (omega arith) in
    ap (λ (after : List ℕ). sets after (page_length n) (row_lines n (get_or rows n no_row))) (lined_after rows page n before)
    ∙ page_next rows page n before ∙ ap (page_after rows page) (add-one n)
