-- The report as rows of four numbers: one row read, and one written.
--
-- Main laws: row_shown, stored_shown, answer_read and rows_back.
use mathlib.Core.Path.{◌≡◌, refl, ap}
use mathlib.Core.List.{List, [], ◌∷◌}
use Prim.Native.Nat.{ℕ, zero, suc, ◌+◌, ◌*◌, ◌≤◌, ◌<◌}
use native.Mathlib.Omega.{arith}
use lib.ListN.{length, get_or, set}
use Rattle.rules.specs.declared.Row.{Row}
use Rattle.rules.specs.Report.{no_row, row_at}
use Rattle.stepper.specs.Buffers.{row_in, stored, flat_rows, rows_of}

pub length_rows : (rows : List Row) → length (flat_rows rows) ≡ 4 * length rows
length_rows [] = refl
length_rows (row ∷ rows) = omega (arith, length_rows rows)

four : (q : ℕ) → 4 * suc q ≡ suc (suc (suc (suc (4 * q))))
four q = omega arith

four_more : (q k : ℕ) → 4 * suc q + k ≡ suc (suc (suc (suc (4 * q + k))))
four_more q k = omega arith

pub row_shown : (rows : List Row) (q : ℕ) → q < length rows → row_in (flat_rows rows) (4 * q) ≡ get_or rows q no_row
row_shown [] q h = absurd (omega arith)
row_shown (row ∷ rows) zero h = refl
row_shown (row ∷ rows) (suc q) h = rw (four_more q 1, four_more q 2, four_more q 3, four q) (row_shown rows q (omega arith))

-- what is read of a report, four numbers a row
pub answer_read : (numbers : List ℕ) (q : ℕ) → 4 * q + 4 ≤ length numbers → get_or numbers (4 * q) 0 ≡ (row_at (rows_of numbers) q).answer
answer_read [] q h = absurd (omega arith)
answer_read (a ∷ []) q h = absurd (omega arith)
answer_read (a ∷ f ∷ []) q h = absurd (omega arith)
answer_read (a ∷ f ∷ l ∷ []) q h = absurd (omega arith)
answer_read (a ∷ f ∷ l ∷ u ∷ numbers) zero h = refl
answer_read (a ∷ f ∷ l ∷ u ∷ numbers) (suc q) h = rw (four q) (answer_read numbers q (omega arith))

pub rows_back : (rows : List Row) → rows_of (flat_rows rows) ≡ rows
rows_back [] = refl
rows_back (row ∷ rows) = ap {B = List Row} (λ r. row ∷ r) (rows_back rows)

pub stored_shown : (rows : List Row) (q : ℕ) (row : Row) → q < length rows
    → stored (flat_rows rows) (4 * q) row ≡ flat_rows (set rows q row)
stored_shown [] q new h = absurd (omega arith)
stored_shown (row ∷ rows) zero new h = refl
stored_shown (row ∷ rows) (suc q) new h =
    rw (four_more q 1, four_more q 2, four_more q 3, four q)
    (ap {B = List ℕ} (λ r. row.answer ∷ row.first ∷ row.last ∷ row.used ∷ r) (stored_shown rows q new (omega arith)))
