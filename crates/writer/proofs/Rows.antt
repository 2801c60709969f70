-- Rows of numbers, each stored as a record: what the loop over them keeps, and the records of rows.
--
--   rows_room    a row more has room
--   rows_start, rows_on, rows_done   the records of no row, of one row more, of all rows are stored
--   records_of_rows, rows_written   the records of rows are those of what the rows hold, and stored where these are
use Rattle.std.proofs.Common.{◌≡◌, ℕ, zero, suc, ◌+◌, ◌*◌, ◌<◌, ◌≤◌, List, [], ◌∷◌, ◌++◌, map, length, get_or, take, refl, sym, ap, ◌∙◌}
use Rattle.std.proofs.Common.{append_assoc, append-nil, length-append, add-one, mul-zero, mul-suc, take-suc, arith}
use lib.Seq.{sets, take_all}
use Rattle.jobfile.specs.Written.{records_bytes}
use Rattle.writer.specs.Write.{Put}
use Rattle.writer.proofs.Stores.{stored_on}

le_mul : (s i n : ℕ) → i ≤ n → s * i ≤ s * n
le_mul s zero n l = omega (arith, mul-zero s)
le_mul s (suc i) zero l = absurd (omega arith)
le_mul s (suc i) (suc n) l = omega (arith, mul-suc s i, mul-suc s n, le_mul s i n (omega arith))

pub rows_room : (start size i n at room : ℕ) → at ≡ start + size * i → i < n → start + size * n ≤ room → at + size ≤ room
rows_room start size i n at room is more fits = omega (arith, mul-suc size i, le_mul size (suc i) n (omega arith), is)

module _ {R : Type 0} (bytes : R → List ℕ) where
  records_more : (l : List R) (a : R) → records_bytes bytes (l ++ (a ∷ [])) ≡ records_bytes bytes l ++ bytes a
  records_more [] a = append-nil (bytes a)
  records_more (b ∷ l) a =
      ap (λ (t : List ℕ). bytes b ++ t) (records_more l a) ∙ sym (append_assoc (bytes b) (records_bytes bytes l) (bytes a))

  module _ (size start : ℕ) (rows : List R) (before : List ℕ) where
    -- The records of the rows before row i are stored.
    pub record RowsPut (i : ℕ) (out : List ℕ) : Type 0 where
      pub put : Put (size * i) (records_bytes bytes (take i rows)) start before out

    pub rows_start : RowsPut 0 before
    rows_start = record { put = record { sized = sym (mul-zero size); stored = refl } }

    pub rows_on : (i at : ℕ) (row : R) (out after : List ℕ) → RowsPut i out → i < length rows → row ≡ get_or rows i row
        → at ≡ start + size * i → Put size (bytes row) at out after → RowsPut (i + 1) after
    rows_on i at row out after so_far more is place next =
        let all = records_bytes bytes (take i rows) in
        let longer : records_bytes bytes (take (i + 1) rows) ≡ all ++ bytes row =
        rw add-one (ap (records_bytes bytes) (take-suc rows i row more) ∙ records_more (take i rows) (get_or rows i row)
        ∙ ap (λ a. all ++ bytes a) (sym is)) in
        record {
          put = record {
            sized = ap length longer ∙ length-append all (bytes row)
                ∙ omega (arith, so_far.put.sized, next.sized, mul-suc size i);
            stored = stored_on before out after all (bytes row) start at (omega (arith, place, so_far.put.sized))
                so_far.put.stored next.stored ∙ ap (sets before start) (sym longer);
          };
        }

    pub rows_done : (i : ℕ) (out : List ℕ) → RowsPut i out → length rows ≤ i → out ≡ sets before start (records_bytes bytes rows)
    rows_done i out so_far done =
        so_far.put.stored ∙ ap (λ l. sets before start (records_bytes bytes l)) (take_all i rows done)

-- The records of rows are those of what the rows hold.
pub records_of_rows : {R A : Type 0} (bytes : A → List ℕ) (f : R → A) (rows : List R)
    → records_bytes (λ row. bytes (f row)) rows ≡ records_bytes bytes (map f rows)
records_of_rows bytes f [] = refl
records_of_rows bytes f (row ∷ rows) = ap (λ (t : List ℕ). bytes (f row) ++ t) (records_of_rows bytes f rows)

pub rows_written : {R A : Type 0} (bytes : A → List ℕ) (f : R → A) (rows : List R) (all : List A) (start : ℕ) (before after : List ℕ)
    → map f rows ≡ all → after ≡ sets before start (records_bytes (λ row. bytes (f row)) rows)
    → after ≡ sets before start (records_bytes bytes all)
rows_written bytes f rows all start before after is stored =
    stored ∙ ap (sets before start) (records_of_rows bytes f rows ∙ ap (records_bytes bytes) is)
