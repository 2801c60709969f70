-- Laws of sums.
--
--   sum_next       a list with one number more behind it
--   sum_ones       ones add up to the length
--   sum_to_le      one of the numbers is at most their sum
--   sum_to_same    numbers that agree add up to the same
--   sum_to_more    one of the numbers grows
--   sum_to_none    zeros add up to zero
--   sum_to_count   a count is a sum of ones
use mathlib.Core.Path.{◌≡◌, refl, ap}
use mathlib.Core.Logic.{◌≢◌}
use mathlib.Core.Bool.{Bool, cond}
use mathlib.Core.List.{List, [], ◌∷◌, ◌++◌, map}
use Prim.Native.Nat.{ℕ, zero, suc, ◌+◌, ◌≤◌, ◌<◌}
use native.Mathlib.Omega.{arith}
use native.Mathlib.Decide.{ℕ_discrete}
use lib.ListN.{length}
use Rattle.basics.specs.Count.{count}
use Rattle.basics.specs.Sum.{sum, sum_to}
use Rattle.basics.proofs.Conditions.{split}

pub sum_next : (ns : List ℕ) (n : ℕ) → sum (ns ++ (n ∷ [])) ≡ sum ns + n
sum_next [] n = omega arith
sum_next (m ∷ ns) n = omega (arith, sum_next ns n)

pub sum_to_le : (f : ℕ → ℕ) (n i : ℕ) → i < n → f i ≤ sum_to f n
sum_to_le f zero i l = absurd (omega arith)
sum_to_le f (suc n) i l = go (ℕ_discrete i n) (λ k. sum_to_le f n i k)
  where
    go : Dec (i ≡ n) → (i < n → f i ≤ sum_to f n) → f i ≤ sum_to f n + f n
    go (yes e) m = omega (arith, ap f e)
    go (no e) m = omega (arith, m (omega arith))

pub sum_to_same : (f g : ℕ → ℕ) (n : ℕ) → ((i : ℕ) → i < n → f i ≡ g i) → sum_to f n ≡ sum_to g n
sum_to_same f g zero h = refl
sum_to_same f g (suc n) h = omega (arith, h n (omega arith), sum_to_same f g n (λ i l. h i (omega arith)))

-- the number at x grows by d, and every other is as it was
pub sum_to_more : (f g : ℕ → ℕ) (n x d : ℕ) → x < n → f x ≡ g x + d → ((i : ℕ) → i ≢ x → f i ≡ g i) → sum_to f n ≡ sum_to g n + d
sum_to_more f g zero x d l e h = absurd (omega arith)
sum_to_more f g (suc n) x d l e h = go (ℕ_discrete n x) (λ k. sum_to_more f g n x d k e h)
  where
    go : Dec (n ≡ x) → (x < n → sum_to f n ≡ sum_to g n + d) → sum_to f n + f n ≡ sum_to g n + g n + d
    go (yes q) m = omega (arith, e, ap f q, ap g q, sum_to_same f g n (λ i k. h i (λ r. absurd (omega arith))))
    go (no q) m = omega (arith, m (omega arith), h n q)

pub sum_to_none : (f : ℕ → ℕ) (n : ℕ) → ((i : ℕ) → i < n → f i ≡ 0) → sum_to f n ≡ 0
sum_to_none f zero h = refl
sum_to_none f (suc n) h = omega (arith, h n (omega arith), sum_to_none f n (λ i l. h i (omega arith)))

pub sum_ones : (l : List ℕ) → sum (map (λ i. 1) l) ≡ length l
sum_ones [] = refl
sum_ones (a ∷ l) = omega (arith, sum_ones l)

pub sum_to_count : (t : ℕ → Bool) (n : ℕ) → sum_to (λ i. cond (t i) 1 0) n ≡ count t n
sum_to_count t zero = refl
sum_to_count t (suc n) = split (t n) (λ e. rw e (omega (arith, sum_to_count t n))) (λ e. rw e (omega (arith, sum_to_count t n)))
