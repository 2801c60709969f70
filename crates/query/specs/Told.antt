-- What a host is told of an enquiry.
--
--   queried_told r   what is told of an enquiry, or of its refusal
use Rattle.std.specs.Prelude.{Result}
use Rattle.std.specs.declared.result.Result.TheVariants.{Ok, Err}
use Rattle.job.specs.declared.refusal.Refusal.{Refusal}
use Rattle.job.specs.Refusal.{number_of}
use Rattle.job.specs.Job.{answer_number}
use Rattle.query.specs.declared.Enquiry.{Enquiry}
use Rattle.query.specs.declared.Queried.{Queried}

-- An enquiry has the number 0, its answer's number in the report and its grants; a refusal its number and zero for every count.
abbrev pub queried_told : Result Enquiry Refusal → Queried
queried_told (Ok enquiry) = record { number = 0; answer = answer_number enquiry.answer; used = enquiry.used }
queried_told (Err refusal) = record { number = number_of refusal; answer = 0; used = 0 }
