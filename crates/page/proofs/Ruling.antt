-- Pages are ruled: their lines have 32 characters, none of which is a line feed.
--
--   is_plain text   the test for a text without a line feed
use mathlib.Core.Path.{◌≡◌, refl, sym, ◌∙◌}
use mathlib.Core.Bool.{Bool, true, false, cond, true≢false}
use mathlib.Core.List.{List, [], ◌∷◌, ◌++◌, map, append_assoc}
use Prim.Native.Nat.{ℕ, zero, suc, ◌+◌, ◌-◌, ◌/◌, ◌%◌}
use native.Mathlib.Omega.{arith}
use lib.Dec.{eqb, ltb}
use lib.ListN.{length, get_or, replicate, length-append}
use borrow.Author.Tests.{eqb-false}
use Rattle.basics.proofs.Conditions.{split, cond_both}
use Rattle.text.specs.Text.{digits_by, digits_within, decimal, each}
use Rattle.page.specs.declared.Row.{Row}
use Rattle.page.specs.Rows.{no_row}
use Rattle.page.specs.Page.{right_aligned, columns, names, heading, row_line, row_lines, lines_to}
use Rattle.page.specs.Grouped.{Plain, Ruled, blank, ruled}
use Rattle.page.proofs.Pages.{Fitting, AllFitting, row_length}

-- ---- characters

plain_append : (xs ys : List ℕ) → Plain xs → Plain ys → Plain (xs ++ ys)
plain_append [] ys p q = q
plain_append (x ∷ xs) ys p q = (p.0, plain_append xs ys p.1 q)

abbrev is_plain : List ℕ → Bool
is_plain [] = true
is_plain (byte ∷ text) = cond (eqb byte 10) false (is_plain text)

plain_tested : (text : List ℕ) → is_plain text ≡ true → Plain text
plain_tested [] e = tt
plain_tested (byte ∷ text) e =
    split (eqb byte 10) (λ f. absurd (true≢false (sym e ∙ rw f refl))) (λ f. (eqb-false byte 10 f, plain_tested text (sym (rw f refl) ∙ e)))

plain_spaces : (n : ℕ) → Plain (replicate n 32)
plain_spaces zero = tt
plain_spaces (suc n) = ((λ e. omega arith), plain_spaces n)

plain_digits : (fuel n : ℕ) → Plain (digits_within fuel n)
unfolding digits_within
plain_digits zero n = tt
plain_digits (suc fuel) n = go (ltb n 10) (plain_digits fuel (n / 10))
  where
    go : (small : Bool) → Plain (digits_within fuel (n / 10)) → Plain (digits_by small n (digits_within fuel))
    go true rest = ((λ e. omega arith), tt)
    go false rest = plain_append (digits_within fuel (n / 10)) ((48 + n % 10) ∷ []) rest ((λ e. omega arith), tt)

plain_columns : (ns : List ℕ) → Plain (columns (map decimal ns))
unfolding decimal
plain_columns [] = tt
plain_columns (n ∷ ns) =
    plain_append (right_aligned (decimal n)) (columns (map decimal ns))
    (plain_append (replicate (8 - length (decimal n)) 32) (decimal n) (plain_spaces (8 - length (decimal n))) (plain_digits (suc n) n))
    (plain_columns ns)

-- ---- lines

ruled_append : {xs : List ℕ} (ys : List ℕ) → Ruled xs → Ruled ys → Ruled (xs ++ ys)
ruled_append ys blank q = q
ruled_append ys (ruled text rest l p r) q =
    rw (append_assoc text (10 ∷ rest) ys) (ruled text (rest ++ ys) l p (ruled_append ys r q))

ruled_row : (r : Row) → Fitting r → Ruled (row_line r)
unfolding row_line
ruled_row r f =
    let numbers : List ℕ = r.lowest ∷ r.size ∷ r.root ∷ r.rank ∷ [] in
    let whole = length-append (columns (map decimal numbers)) (10 ∷ []) in
    ruled (columns (map decimal numbers)) [] (omega (arith, whole, row_length r f)) (plain_columns numbers) blank

ruled_heading : Ruled heading
unfolding heading
ruled_heading = ruled (columns names) [] refl (plain_tested (columns names) refl) blank

pub ruled_lines : (rows : List Row) (n : ℕ) → AllFitting rows n → Ruled (lines_to rows n)
unfolding each
ruled_lines rows zero f = blank
ruled_lines rows (suc n) f =
    let row = ruled_row (get_or rows n no_row) (f n (omega arith)) in
    ruled_append (row_lines n (get_or rows n no_row)) (ruled_lines rows n (λ k l. f k (omega arith)))
    (cond_both Ruled (eqb (n % 20) 0) (ruled_append (row_line (get_or rows n no_row)) ruled_heading row) row)
