-- The table of cases holds of the definition, by computation.
use mathlib.Core.Path.{◌≡◌, refl}
use mathlib.Core.List.{[], ◌∷◌, ◌++◌, map}
use Rattle.word.specs.Word.{rank_of, parent_of}
use Rattle.forest.specs.Groups.{size}
use Rattle.table.specs.Groups.{root_in}
use Rattle.text.specs.Text.{digits_within, decimal, each}
use Rattle.page.specs.Rows.{group_rows}
use Rattle.page.specs.Page.{heading, row_line, page_of, paged_of}
use Rattle.page.specs.Cases.{played, outcome, wanted, cases, page_text}

pub paged_cases : map outcome cases ≡ map wanted cases
unfolding rank_of parent_of size root_in digits_within decimal each group_rows heading row_line page_of paged_of
paged_cases = refl

-- a byte past the page stays
pub paged_text : (played (0 ∷ 1 ∷ 3 ∷ 65539 ∷ []) 3 133).page ≡ page_text ++ (0 ∷ [])
unfolding rank_of parent_of size root_in digits_within decimal each group_rows heading row_line page_of paged_of
paged_text = refl
