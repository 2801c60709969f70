-- Document 01's starred cases hold of the definitions, all by computation.
use mathlib.Core.Path.{refl}
use Rattle.word.specs.Word.{rank_of, parent_of, encode}
use Rattle.process.specs.Access.{access_of}
use Rattle.process.specs.Advance.{advance_of}
use Rattle.jobfile.specs.Format.{length_refusal}
use Rattle.jobfile.specs.Meaning.{header_refusal, file_refusal, meaning}
use Rattle.rules.specs.Report.{charge}
use Rattle.rules.specs.State.{seek}
use Rattle.rules.specs.Step.{step}
use Rattle.query.specs.Query.{refusal, queried}
use Rattle.starred.specs.Starred.{Shown}

pub starred_cases : Shown
unfolding rank_of parent_of encode access_of advance_of length_refusal header_refusal file_refusal meaning charge seek step refusal queried
starred_cases = record { holds = refl; whole = refl }
