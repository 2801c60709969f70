-- What a host is told of a page.
--
--   paged_told r                    what is told of what was written, or of a refusal
--   answer_of words rows page       what is told, by the lengths of the lent rows and page
--   room_answer groups rows page    the same of an admitted table, by the number of its groups
use Rattle.std.specs.Prelude.{cond, List, map, ℕ, Result, eqb, ltb}
use Rattle.std.specs.declared.result.Result.TheVariants.{Ok, Err}
use Rattle.job.specs.declared.refusal.Refusal.{Refusal}
use Rattle.job.specs.Refusal.{number_of}
use Rattle.word.specs.Word.{decode}
use Rattle.page.specs.declared.Printed.{Printed}
use Rattle.page.specs.declared.Paged.{Paged}
use Rattle.page.specs.Rows.{group_rows}
use Rattle.page.specs.Page.{page_refusal, written_answer, refused_answer}
use Rattle.page.specs.Written.{page_length}

-- What was written has the number 0; a refusal its number, and zero for both.
abbrev pub paged_told : Result Printed Refusal → Paged
paged_told (Ok printed) = record { number = 0; rows = printed.rows; bytes = printed.bytes }
paged_told (Err refusal) = refused_answer (number_of refusal)

unfoldable pub answer_of : List ℕ → ℕ → ℕ → Paged
answer_of words rows page =
    cond (eqb (page_refusal words rows page) 0)
    (written_answer (group_rows (map decode words)))
    (refused_answer (page_refusal words rows page))

-- 17 when the rows or the page are too short.
abbrev pub room_answer : ℕ → ℕ → ℕ → Paged
room_answer groups rows page =
    cond (ltb rows groups) (refused_answer 17)
    (cond (ltb page (page_length groups)) (refused_answer 17)
    (record { number = 0; rows = groups; bytes = page_length groups }))
