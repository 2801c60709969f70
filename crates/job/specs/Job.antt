-- A job as document 01 has it: a number of nodes, a number of heads, requests, and the schedule of grants; (02, A3) the
-- pairs of requests of which the later one waits for the earlier one; and (02, A5) what each head may ask and see.
--
--   kind_number k     the number that stands for the kind k in a file
--   kind_of n         the kind that the number n stands for
--   answer_number a   the number that stands for the answer a in the report
--   most_nodes, most_heads, most_requests   the sizes of the largest job
--   may_ask r k       the rights r have the kind k among them
--   every_right h     every right, and sight of every head, for head h
--   right_of rs h     the record of head h, or every right where there are no records
--   Job               nodes, heads, rights, requests, waits and schedule
--   rights_of j h, sight_of j h   what head h of the job j may ask, and the mask of the heads that it may see
use Rattle.std.specs.Prelude.{Bool, true, cond, List, ℕ, eqb, get_or}
use Rattle.job.specs.declared.Kind.{Kind}
use Rattle.job.specs.declared.Kind.TheVariants.{Union, SameSet}
use Rattle.job.specs.declared.Answer.{Answer}
use Rattle.job.specs.declared.Answer.TheVariants.{Unfinished, Joined, Together, Yes, No}
use Rattle.job.specs.declared.Request.{Request}
use Rattle.job.specs.declared.Wait.{Wait}
use Rattle.job.specs.declared.Right.{Right}

-- Document 01, "Job file": there are at most 4,096 places,
abbrev pub most_nodes : ℕ
most_nodes = 4096

-- 32 heads (02, A4)
abbrev pub most_heads : ℕ
most_heads = 32

-- and 512 requests.
abbrev pub most_requests : ℕ
most_requests = 512

-- Document 01, "Job file": kind 1 is a union, 2 a same-set.
abbrev pub kind_number : Kind → ℕ
kind_number Union = 1
kind_number SameSet = 2

-- The kind of an admitted number; only 1 and 2 are admitted.
abbrev pub kind_of : ℕ → Kind
kind_of n = cond (eqb n 1) Union SameSet

-- Document 01, "Report and line-up": 0 unfinished, 1 joined, 2 already together, 3 yes, 4 no.
abbrev pub answer_number : Answer → ℕ
answer_number Unfinished = 0
answer_number Joined = 1
answer_number Together = 2
answer_number Yes = 3
answer_number No = 4

-- Document 02, A5: rights, "1 may join, 2 may enquire, 3 both".
abbrev pub may_ask : ℕ → Kind → Bool
may_ask rights Union = cond (eqb rights 1) true (eqb rights 3)
may_ask rights SameSet = cond (eqb rights 2) true (eqb rights 3)

-- "None means every right and sight of every head": both kinds, and all 32 bits of the mask.
abbrev pub every_right : ℕ → Right
every_right head = record { head = head; rights = 3; sight = 4294967295 }

-- "one per head or none at all"
abbrev pub right_of : List Right → ℕ → Right
right_of rights head = get_or rights head (every_right head)

-- What a job file means, and what the writer is given. A request's number is its position in the list, from 0.
-- The rights (02, A5) are none, or one a head, each at its head's position. The waits (02, A3) are pairs of requests, in file
-- order. The schedule (document 01: the grants) is a list of head numbers, one a grant.
pub record Job : Type 0 where
  pub nodes : ℕ
  pub heads : ℕ
  pub rights : List Right
  pub requests : List Request
  pub waits : List Wait
  pub schedule : List ℕ

-- What a head of a job may ask,
abbrev pub rights_of : Job → ℕ → ℕ
rights_of j head = (right_of j.rights head).rights

-- and whose requests it may see: bit k of the mask is head k's.
abbrev pub sight_of : Job → ℕ → ℕ
sight_of j head = (right_of j.rights head).sight
