-- The requests that the writer is given: how they stand in a list of numbers, four each.
--
--   fields_count              how many requests there are
--   count_passes              the test of their number
--   fields_in r               the request of a row of four numbers
--   fields_of_rows            the requests of a list of numbers are those of its rows
--   next_fields, fields_end              the refusal of the rows from one on, and behind the last
--   each_fits                 requests that are not refused fit the largest job
use Rattle.std.proofs.Common.{◌≡◌, ℕ, suc, ◌+◌, ◌/◌, ◌<◌, ◌≤◌, List, [], ◌∷◌, map, length, get_or, drop, refl, ap, arith}
use Rattle.std.proofs.Common.{drop_of_length-le, le-ltb}
use Rattle.std.proofs.lemmas.List.{at_drop_more}
use Rattle.std.specs.Simd.{first_chunks}
use Rattle.job.specs.declared.Right.{Right}
use Rattle.job.specs.Job.{most_nodes, most_heads, most_requests, kind_of}
use Rattle.jobfile.specs.declared.Fields.{Fields}
use Rattle.jobfile.specs.Format.{◌then◌, first_refusal, fields_refusal, asked_refusal}
use Rattle.jobfile.specs.Draft.{fields_of, count_refusal, each_refusal}
use Rattle.jobfile.proofs.KindNumbers.{every_kind}
use Rattle.jobfile.proofs.Refusals.{through, Sized, Fit, fit, fit_passes, may_passes}

pub fields_count : (l : List ℕ) → length (fields_of l) ≡ length l / 4
fields_count [] = refl
fields_count (h ∷ []) = omega arith
fields_count (h ∷ k ∷ []) = omega arith
fields_count (h ∷ k ∷ x ∷ []) = omega arith
fields_count (h ∷ k ∷ x ∷ y ∷ l) = omega (arith, fields_count l)

pub count_passes : (l : List ℕ) → length l / 4 ≤ most_requests → count_refusal (length (fields_of l)) ≡ 0
unfolding count_refusal
count_passes l some = rw (fields_count l, le-ltb most_requests (length l / 4) some)

pub each_fits : (nodes heads : ℕ) (rights : List Right) (qs : List Fields) → Sized nodes heads → each_refusal nodes heads rights qs ≡ 0
    → each_refusal most_nodes most_heads [] qs ≡ 0
unfolding first_refusal
each_fits nodes heads rights [] sized e = refl
each_fits nodes heads rights (q ∷ qs) sized e =
    let both = through (asked_refusal nodes heads rights q) _ e in
    let fits = fit nodes heads q (through (fields_refusal nodes heads q) _ both.first).first in
    let larger : Fit most_nodes most_heads q = record {
      head = omega arith;
      some_kind = fits.some_kind;
      few_kinds = fits.few_kinds;
      x = omega arith;
      y = omega arith;
    } in
    rw (fit_passes most_nodes most_heads q larger, may_passes 3 q.kind (every_kind (kind_of q.kind)))
    (each_fits nodes heads rights qs sized both.second)

-- the request of a row of four numbers
abbrev pub fields_in : List ℕ → Fields
fields_in r = record { head = get_or r 0 0; kind = get_or r 1 0; x = get_or r 2 0; y = get_or r 3 0 }

-- The requests of a list of numbers are those of its rows.
pub fields_of_rows : (l : List ℕ) → map fields_in (first_chunks 4 (length l / 4) l) ≡ fields_of l
fields_of_rows [] = refl
fields_of_rows (h ∷ []) = refl
fields_of_rows (h ∷ k ∷ []) = refl
fields_of_rows (h ∷ k ∷ x ∷ []) = refl
fields_of_rows (h ∷ k ∷ x ∷ y ∷ l) =
    let one : length (h ∷ k ∷ x ∷ y ∷ l) / 4 ≡ suc (length l / 4) = omega arith in
    rw one (ap (λ t. record { head = h; kind = k; x = x; y = y } ∷ t) (fields_of_rows l))

-- The refusal of the rows from one on: that of its request, or of those behind it.
pub next_fields : (nodes heads : ℕ) (rights : List Right) (rows : List (List ℕ)) (i : ℕ) → i < length rows
    → each_refusal nodes heads rights (map fields_in (drop i rows))
    ≡ (asked_refusal nodes heads rights (fields_in (get_or rows i []))
    then each_refusal nodes heads rights (map fields_in (drop (i + 1) rows)))
unfolding first_refusal
next_fields nodes heads rights rows i l =
    at_drop_more (λ rs. each_refusal nodes heads rights (map fields_in rs)) rows i [] l

-- and there is none behind the last.
pub fields_end : (nodes heads : ℕ) (rights : List Right) (rows : List (List ℕ)) (i n : ℕ)
    → each_refusal nodes heads rights (map fields_in (drop i rows)) ≡ n → length rows ≤ i → 0 ≡ n
unfolding first_refusal
fields_end nodes heads rights rows i n is done = rw (drop_of_length-le rows {i = i} done) at is
