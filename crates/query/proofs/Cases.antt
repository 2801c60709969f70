-- The table of cases holds of the definition, by computation.
use mathlib.Core.Path.{◌≡◌, refl}
use mathlib.Core.List.{map}
use Rattle.word.specs.Word.{rank_of, parent_of, encode}
use Rattle.process.specs.Access.{access_of}
use Rattle.process.specs.Advance.{advance_of}
use Rattle.query.specs.Query.{refusal, queried}
use Rattle.query.specs.Cases.{outcome, wanted, cases}

pub queried_cases : map outcome cases ≡ map wanted cases
unfolding rank_of parent_of encode access_of advance_of refusal queried
queried_cases = refl
