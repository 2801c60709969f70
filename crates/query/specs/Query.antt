-- Document 01, "Counter enquiry", and refusals 15 and 16: a same-set alone on a lent table, with a budget of grants
-- (document 01: allowance).
--
--   refusal words x y          the refusal's number, 0 for none
--   Result                     what the caller is told, and the words at exit
--   answered a used t          the result of an enquiry that was told a after so many grants
--   steps budget used h t      the steps of head h on the table t, after the grants used so far
--   same_set x y               the request that the enquiry serves
--   queried words x y budget   the enquiry
use Rattle.std.specs.Prelude.{cond, List, map, ℕ, zero, suc, eqb, leb, length}
use Rattle.job.specs.declared.Kind.TheVariants.{SameSet}
use Rattle.job.specs.declared.Answer.{Answer}
use Rattle.job.specs.declared.Answer.TheVariants.{Unfinished}
use Rattle.job.specs.declared.Request.{Request}
use Rattle.job.specs.Job.{answer_number}
use Rattle.word.specs.declared.Node.{Node}
use Rattle.word.specs.Word.{decode, encode}
use Rattle.process.specs.declared.Head.{Head}
use Rattle.process.specs.declared.Advanced.{Advanced}
use Rattle.process.specs.Process.{begin}
use Rattle.process.specs.Access.{access_of}
use Rattle.process.specs.Advance.{advance_of}
use Rattle.rules.specs.Report.{is_final}
use Rattle.rules.specs.Table.{seen, touched}
use Rattle.table.specs.Admitted.{table_refusal}
use Rattle.query.specs.declared.Queried.{Queried}

-- 15: the table is empty or over 4,096, or a place isn't below its length. Checked before 16. (The table's own refusal is 15 or
-- 16; so the places, which give 15 alone, are looked at first.)
unfoldable pub refusal : List ℕ → ℕ → ℕ → ℕ
refusal words x y =
    cond (leb (length words) x) 15
    (cond (leb (length words) y) 15
    (table_refusal words))

pub record Result : Type 0 where
  pub queried : Queried
  pub table : List ℕ

-- Yes and no have the report's numbers, spent is 0: the request is unfinished.
abbrev pub answered : Answer → ℕ → List Node → Result
answered a used t = record { queried = record { number = 0; answer = answer_number a; used = used }; table = map encode t }

-- Where the head's access leads, as the grant after the grants used; grants count from 1.
abbrev pub granted : Head → List Node → ℕ → Advanced
granted h t used = advance_of h (seen t (access_of h)) (suc used)

-- "Spent" means that it needs more than the allowance; the table then shows exactly the allowed steps. A step is one
-- grant of the rules: an access of the head, and where it leads.
abbrev pub steps : ℕ → ℕ → Head → List Node → Result
steps zero used h t = answered Unfinished used t
steps (suc budget) used h t =
    cond (is_final (granted h t used).event.answer)
    (answered (granted h t used).event.answer (suc used) (touched t (access_of h)))
    (steps budget (suc used) (granted h t used).head (touched t (access_of h)))

-- A same-set alone.
abbrev pub same_set : ℕ → ℕ → Request
same_set x y = record { head = 0; kind = SameSet; x = x; y = y }

-- A refusal gives its number and zero for every count, and writes nothing.
abbrev pub refused : ℕ → List ℕ → Result
refused number words = record { queried = record { number = number; answer = 0; used = 0 }; table = words }

unfoldable pub queried : List ℕ → ℕ → ℕ → ℕ → Result
queried words x y budget =
    cond (eqb (refusal words x y) 0)
    (steps budget 0 (begin (same_set x y) 0) (map decode words))
    (refused (refusal words x y) words)
