-- The pairs that the writer is given: how they stand in a list of numbers, two each.
--
--   pairs_count             how many pairs there are
--   pair_in r               the pair of a row of two numbers
--   pairs_of_rows           the pairs of a list of numbers are those of its rows
--   next_pair, pair_end              the refusal of the rows from one on, and behind the last
--   pairs_fit               pairs that are not refused fit the largest job
use Rattle.std.proofs.Common.{◌≡◌, ℕ, suc, ◌+◌, ◌/◌, ◌<◌, ◌≤◌, List, [], ◌∷◌, map, length, get_or, drop, refl, ap, arith}
use Rattle.std.proofs.Common.{drop_of_length-le}
use Rattle.std.proofs.lemmas.List.{at_drop_more}
use Rattle.std.specs.Simd.{first_chunks}
use Rattle.job.specs.declared.Wait.{Wait}
use Rattle.job.specs.Job.{most_requests}
use Rattle.jobfile.specs.Format.{◌then◌, first_refusal, pair_refusal}
use Rattle.jobfile.specs.Draft.{pairs_of, pairs_refusal}
use Rattle.jobfile.proofs.Refusals.{Paired}
use Rattle.jobfile.proofs.Chains.{latest, chained_map}
use Rattle.jobfile.proofs.Pairs.{rising_checked, checked_rising}

pub pairs_count : (l : List ℕ) → length (pairs_of l) ≡ length l / 2
pairs_count [] = refl
pairs_count (later ∷ []) = omega arith
pairs_count (later ∷ earlier ∷ l) = omega (arith, pairs_count l)

pub pairs_fit : (count : ℕ) (before : Wait) (ws : List Wait) → count ≤ most_requests → pairs_refusal count before ws ≡ 0
    → pairs_refusal most_requests before ws ≡ 0
pairs_fit count before ws few e =
    checked_rising most_requests before ws (chained_map latest larger before ws (rising_checked count before ws e))
  where
    larger : (before w : Wait) → Paired count before w → Paired most_requests before w
    larger before w p = record { later = omega (arith, p.later); earlier = p.earlier; rises = p.rises }

-- the pair of a row of two numbers
abbrev pub pair_in : List ℕ → Wait
pair_in r = record { later = get_or r 0 0; earlier = get_or r 1 0 }

-- The pairs of a list of numbers are those of its rows.
pub pairs_of_rows : (l : List ℕ) → map pair_in (first_chunks 2 (length l / 2) l) ≡ pairs_of l
pairs_of_rows [] = refl
pairs_of_rows (later ∷ []) = refl
pairs_of_rows (later ∷ earlier ∷ l) =
    let one : length (later ∷ earlier ∷ l) / 2 ≡ suc (length l / 2) = omega arith in
    rw one (ap (λ t. record { later = later; earlier = earlier } ∷ t) (pairs_of_rows l))

-- The refusal of the rows from one on: that of its pair, or of those behind it.
pub next_pair : (count : ℕ) (before : Wait) (rows : List (List ℕ)) (i : ℕ) → i < length rows
    → pairs_refusal count before (map pair_in (drop i rows))
    ≡ (pair_refusal count before (pair_in (get_or rows i []))
    then pairs_refusal count (pair_in (get_or rows i [])) (map pair_in (drop (i + 1) rows)))
unfolding first_refusal
next_pair count before rows i l = at_drop_more (λ rs. pairs_refusal count before (map pair_in rs)) rows i [] l

-- and there is none behind the last.
pub pair_end : (count : ℕ) (before : Wait) (rows : List (List ℕ)) (i n : ℕ)
    → pairs_refusal count before (map pair_in (drop i rows)) ≡ n → length rows ≤ i → 0 ≡ n
unfolding first_refusal
pair_end count before rows i n is done = rw (drop_of_length-le rows {i = i} done) at is
