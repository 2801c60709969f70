-- The tables of sheets and of calls hold of the definitions, all by computation.
--
-- Main laws: sheet_cases and call_cases, what the definitions leave of each case is what is expected.
use mathlib.Core.Path.{◌≡◌, refl}
use mathlib.Core.List.{map}
use Rattle.word.specs.Word.{rank_of, parent_of, encode}
use Rattle.process.specs.Access.{access_of}
use Rattle.process.specs.Advance.{advance_of}
use Rattle.text.specs.Text.{digits_within, decimal, fields, line, each}
use Rattle.jobfile.specs.Format.{first_refusal, sizes_refusal, right_refusal, fields_refusal, kind_refusal, pair_refusal, length_refusal}
use Rattle.jobfile.specs.Meaning.{records_within, records, header_refusal, right_record_refusal, missing_refusal, request_refusal}
use Rattle.jobfile.specs.Meaning.{wait_refusal, run_refusal, close_refusal, balance_refusal, file_refusal, job_in, meaning}
use Rattle.rules.specs.Report.{charge}
use Rattle.rules.specs.State.{seek}
use Rattle.rules.specs.Step.{step}
use Rattle.sheet.specs.Sheet.{sheet_text}
use Rattle.sheet.specs.Call.{sheet_refusal, sheet_of}
use Rattle.sheet.specs.Cases.{cases, outcome, wanted, calls, called}

pub sheet_cases : map outcome cases ≡ map wanted cases
unfolding digits_within decimal fields line each sheet_text
sheet_cases = refl

pub call_cases : map called calls ≡ map (λ c. c.expected) calls
unfolding first_refusal sizes_refusal right_refusal fields_refusal kind_refusal pair_refusal length_refusal records_within records
    header_refusal right_record_refusal missing_refusal request_refusal wait_refusal run_refusal close_refusal balance_refusal
    file_refusal job_in meaning rank_of parent_of encode access_of advance_of charge seek step digits_within decimal fields line each
    sheet_text sheet_refusal sheet_of
call_cases = refl
