-- Document 01's starred cases hold of the rules, all by computation.
--
-- Main law: played_cases, what the rules leave of each case of the table is what is expected of it.
use mathlib.Core.Path.{◌≡◌, refl}
use mathlib.Core.List.{map}
use Rattle.word.specs.Word.{encode}
use Rattle.process.specs.Access.{access_of}
use Rattle.process.specs.Advance.{advance_of}
use Rattle.rules.specs.Report.{charge}
use Rattle.rules.specs.State.{seek}
use Rattle.rules.specs.Step.{step}
use Rattle.rules.specs.Cases.{cases, outcome, wanted}

pub played_cases : map outcome cases ≡ map wanted cases
unfolding encode access_of advance_of charge seek step
played_cases = refl
