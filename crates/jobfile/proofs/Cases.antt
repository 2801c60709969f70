-- The table of files, jobs and drafts holds of the definitions, all by computation.
--
-- Main law: format_cases, what the definitions give for each case of the table is what is expected.
use mathlib.Core.Path.{◌≡◌, refl}
use mathlib.Core.List.{map}
use Rattle.jobfile.specs.Format.{first_refusal, sizes_refusal, right_refusal, fields_refusal, kind_refusal, pair_refusal, length_refusal}
use Rattle.jobfile.specs.Meaning.{records_within, records, header_refusal, right_record_refusal, missing_refusal}
use Rattle.jobfile.specs.Meaning.{request_refusal, wait_refusal, run_refusal, close_refusal, balance_refusal, file_refusal, job_in, meaning}
use Rattle.jobfile.specs.Written.{file_with, written}
use Rattle.jobfile.specs.Draft.{job_of, complete_refusal, count_refusal, grants_refusal, draft_refusal}
use Rattle.jobfile.specs.Cases.{cases, outcome, wanted}

pub format_cases : map outcome cases ≡ map wanted cases
unfolding first_refusal sizes_refusal right_refusal fields_refusal kind_refusal pair_refusal length_refusal records_within records
    header_refusal right_record_refusal missing_refusal request_refusal wait_refusal run_refusal close_refusal balance_refusal file_refusal
    job_in meaning file_with written job_of complete_refusal count_refusal grants_refusal
    draft_refusal
format_cases = refl
