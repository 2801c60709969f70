-- What a call is turned down with, and its number in the customer's words.
--
--   number_of e    the number of a refusal
--   told r         what an answer tells: its refusal's number, 0 for none
use Rattle.std.specs.Prelude.{ℕ, Result}
use Rattle.std.specs.declared.result.Result.TheVariants.{Ok, Err}
use Rattle.job.specs.declared.refusal.Refusal.{Refusal}
use Rattle.job.specs.declared.refusal.Refusal.TheVariants.{FileTooLong, FileEndsEarly, Mark, Places, Heads, RequestHead, RequestKind}
use Rattle.job.specs.declared.refusal.Refusal.TheVariants.{RequestPlace, TooManyRequests, Grant, SplitRun, AfterClose, Balance, Buffer}
use Rattle.job.specs.declared.refusal.Refusal.TheVariants.{Enquiry, Word, Page, Wait, Rights, RequestRights}

-- The number of a refusal.
abbrev pub number_of : Refusal → ℕ
number_of FileTooLong = 1
number_of FileEndsEarly = 2
number_of Mark = 3
number_of Places = 4
number_of Heads = 5
number_of RequestHead = 6
number_of RequestKind = 7
number_of RequestPlace = 8
number_of TooManyRequests = 9
number_of Grant = 10
number_of SplitRun = 11
number_of AfterClose = 12
number_of Balance = 13
number_of Buffer = 14
number_of Enquiry = 15
number_of Word = 16
number_of Page = 17
number_of Wait = 18
number_of Rights = 19
number_of RequestRights = 20

-- A refusal has its number, and 0 is none.
abbrev pub told : {A : Type 0} → Result A Refusal → ℕ
told (Ok _) = 0
told (Err refusal) = number_of refusal
