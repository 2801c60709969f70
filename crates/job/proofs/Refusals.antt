-- No refusal has the number 0, which is told of an answer that is none.
use Rattle.std.proofs.Common.{◌≡◌, arith}
use Rattle.job.specs.declared.refusal.Refusal.{Refusal}
use Rattle.job.specs.declared.refusal.Refusal.TheVariants.{FileTooLong, FileEndsEarly, Mark, Places, Heads, RequestHead, RequestKind}
use Rattle.job.specs.declared.refusal.Refusal.TheVariants.{RequestPlace, TooManyRequests, Grant, SplitRun, AfterClose, Balance, Buffer}
use Rattle.job.specs.declared.refusal.Refusal.TheVariants.{Enquiry, Word, Page, Wait, Rights, RequestRights}
use Rattle.job.specs.Refusal.{number_of}

pub refuses : (e : Refusal) → number_of e ≡ 0 → ⊥
refuses FileTooLong z = omega arith
refuses FileEndsEarly z = omega arith
refuses Mark z = omega arith
refuses Places z = omega arith
refuses Heads z = omega arith
refuses RequestHead z = omega arith
refuses RequestKind z = omega arith
refuses RequestPlace z = omega arith
refuses TooManyRequests z = omega arith
refuses Grant z = omega arith
refuses SplitRun z = omega arith
refuses AfterClose z = omega arith
refuses Balance z = omega arith
refuses Buffer z = omega arith
refuses Enquiry z = omega arith
refuses Word z = omega arith
refuses Page z = omega arith
refuses Wait z = omega arith
refuses Rights z = omega arith
refuses RequestRights z = omega arith
