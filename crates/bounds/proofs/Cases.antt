-- The table of limits holds of the definitions, all by computation.
--
-- Main law: limit_cases, what the definitions give for each number of places is what is expected.
use mathlib.Core.Path.{◌≡◌, refl}
use mathlib.Core.List.{map}
use lib.Count.{count_leading_zeros}
use Rattle.jobfile.specs.Format.{sizes_refusal}
use Rattle.bounds.specs.Bounds.{limits_of}
use Rattle.bounds.specs.Cases.{cases, outcome, wanted}

pub limit_cases : map outcome cases ≡ map wanted cases
unfolding count_leading_zeros sizes_refusal limits_of
limit_cases = refl
