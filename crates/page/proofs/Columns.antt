-- Columns as they are written: spaces and a text, and one column after the other.
--
--   Padding width filled at before after next   spaces are written before a text of that width, and the column is filled so far
use mathlib.Core.Path.{◌≡◌, refl, sym, ap, ◌∙◌, subst}
use mathlib.Core.List.{List, [], ◌∷◌, ◌++◌, map, map-append, append_assoc, append-nil}
use Prim.Native.Nat.{ℕ, ◌+◌, ◌-◌, ◌%◌, ◌≤◌, ◌<◌}
use native.Mathlib.Omega.{arith}
use lib.ListN.{length, get_or, take, replicate, replicate-append-replicate}
use lib.Seq.{sets}
use borrow.Author.Tests.{eq-eqb}
use Rattle.basics.proofs.Lists.{take_next}
use Rattle.text.specs.Text.{decimal}
use Rattle.text.specs.Writing.{Wrote}
use Rattle.text.proofs.Writing.{wrote_append}
use Rattle.page.specs.declared.Row.{Row}
use Rattle.page.specs.Page.{right_aligned, columns, heading, row_line, row_lines}
use Rattle.page.specs.Written.{page_length}

-- ---- a column

pub record Padding (width filled at : ℕ) (before after : List ℕ) (next : ℕ) : Type 0 where
  pub begun : width ≤ filled
  pub within : filled - width ≤ 8 - width
  pub wrote : Wrote (replicate (filled - width) 32) at before after next

module _ {width filled at next : ℕ} {before after : List ℕ} (p : Padding width filled at before after next) where
  pub padding_next : {later : List ℕ} {past : ℕ} → filled < 8 → Wrote (32 ∷ []) next after later past
      → Padding width (filled + 1) at before later past
  padding_next {later} {past} more w =
      let one : filled + 1 - width ≡ filled - width + 1 = omega (arith, p.begun) in
      let spaces = replicate-append-replicate {A = ℕ} (filled - width) 1 32 in
      record {
        begun = omega (arith, p.begun);
        within = omega (arith, p.begun);
        wrote = rw (one, ← spaces) (wrote_append p.wrote w);
      }

  -- the text stands at the column's right end
  pub padding_done : {text later : List ℕ} {past : ℕ} → 8 ≤ filled → width ≡ length text → Wrote text next after later past
      → Wrote (right_aligned text) at before later past
  padding_done {text} {later} {past} full e w =
      let same : filled - width ≡ 8 - length text = omega (arith, p.begun, p.within) in
      subst (λ k. Wrote (replicate k 32 ++ text) at before later past) same (wrote_append p.wrote w)

-- ---- columns

columns_append : (xs ys : List (List ℕ)) → columns (xs ++ ys) ≡ columns xs ++ columns ys
columns_append [] ys = refl
columns_append (x ∷ xs) ys =
    ap (λ (l : List ℕ). right_aligned x ++ l) (columns_append xs ys) ∙ sym (append_assoc (right_aligned x) (columns xs) (columns ys))

pub columns_next : (ns : List ℕ) (i : ℕ) → i < length ns
    → columns (map decimal (take (i + 1) ns)) ≡ columns (map decimal (take i ns)) ++ right_aligned (decimal (get_or ns i 0))
columns_next ns i l =
    ap (λ ms. columns (map decimal ms)) (take_next ns i l)
    ∙ ap columns (map-append decimal (take i ns) (get_or ns i 0 ∷ []))
    ∙ columns_append (map decimal (take i ns)) (decimal (get_or ns i 0) ∷ [])
    ∙ ap (λ (l : List ℕ). columns (map decimal (take i ns)) ++ l) (append-nil (right_aligned (decimal (get_or ns i 0))))

-- ---- the lines of a row

module _ (i : ℕ) (r : Row) {at : ℕ} (place : at ≡ page_length i) {before : List ℕ} where
  pub lines_headed : i % 20 ≡ 0 → {middle after : List ℕ} {next past : ℕ} → Wrote heading at before middle next
      → Wrote (row_line r) next middle after past → after ≡ sets before (page_length i) (row_lines i r)
  lines_headed e {after = after} w v =
      rw (eq-eqb (i % 20) 0 e)
      ((wrote_append w v).stored ∙ ap (λ k. sets before k (heading ++ row_line r)) place)
