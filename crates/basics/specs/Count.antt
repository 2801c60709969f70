-- Counting: the numbers below a limit that pass a test.
--
--   count test n          how many numbers below n pass the test
--   passing_below test n  these numbers, rising
use Rattle.std.specs.Prelude.{Bool, cond, List, [], ◌∷◌, ◌++◌, ℕ, zero, suc}

abbrev pub count : (ℕ → Bool) → ℕ → ℕ
count test zero = zero
count test (suc n) = cond (test n) (suc (count test n)) (count test n)

abbrev pub passing_below : (ℕ → Bool) → ℕ → List ℕ
passing_below test zero = []
passing_below test (suc n) = cond (test n) (passing_below test n ++ (n ∷ [])) (passing_below test n)
