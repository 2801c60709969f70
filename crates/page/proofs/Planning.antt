-- The answer of a call: which refusal its tests tell, and what is written where none does.
--
-- Main laws: table_refused, a refused table's number is the call's; room_told, what the room gives where the table is admitted.
use mathlib.Core.Path.{◌≡◌, refl}
use mathlib.Core.Logic.{◌≢◌}
use mathlib.Core.List.{List, map}
use Prim.Native.Nat.{ℕ, ◌<◌}
use native.Mathlib.Omega.{arith}
use lib.Dec.{ltb}
use lib.ListN.{length, get_or}
use borrow.Author.Tests.{ne_eqb}
use Rattle.basics.proofs.Conditions.{split}
use Rattle.word.specs.declared.Node.{Node}
use Rattle.word.specs.Word.{decode}
use Rattle.forest.specs.Groups.{lowest_places}
use Rattle.forest.proofs.Size.{size_le}
use Rattle.forest.proofs.Groups.{lowest_at}
use Rattle.table.specs.Admitted.{table_refusal, Admitted}
use Rattle.table.specs.Groups.{root_in}
use Rattle.table.proofs.Admitted.{table_admitted}
use Rattle.table.proofs.Groups.{admitted_leading}
use Rattle.page.specs.declared.Row.{Row}
use Rattle.page.specs.declared.groups.Groups.{Groups}
use Rattle.page.specs.Rows.{no_row, group_row, group_rows}
use Rattle.page.specs.Page.{page_of, page_refusal}
use Rattle.page.specs.Written.{page_length}
use Rattle.page.specs.Gathered.{Gathered}
use Rattle.page.specs.Told.{answer_of, room_answer}
use Rattle.page.proofs.Rows.{rows_length, rows_at, groups_count}
use Rattle.page.proofs.Pages.{Fitting, lines_to_length}

-- ---- the rows of an admitted table

module _ {n : ℕ} {t : List Node} (admitted : Admitted n t) where
  row_fitting : (i : ℕ) → i < n → Fitting (group_row t i)
  row_fitting i l =
      let inside = (admitted_leading admitted).inside i l in
      record {
        lowest = omega (arith, l, admitted.few);
        size = omega (arith, size_le (length t) (root_in t) (root_in t i), admitted.nodes, admitted.few);
        root = omega (arith, inside, admitted.few);
        rank = omega (arith, admitted.ranks (root_in t i) inside);
      }

  pub rows_fitting : (k : ℕ) → k < length (group_rows t) → Fitting (get_or (group_rows t) k no_row)
  rows_fitting k l =
      rw (rows_at t k l)
      (row_fitting (get_or (lowest_places (root_in t) (length t)) k 0)
      (omega (arith, (lowest_at (root_in t) (length t) k (omega (arith, rows_length t))).0, admitted.nodes)))

  pub page_bytes : length (page_of (group_rows t)) ≡ page_length (length (group_rows t))
  unfolding page_of
  page_bytes = lines_to_length (group_rows t) (length (group_rows t)) rows_fitting

-- ---- the answer

abbrev found : List ℕ → List Row
found words = group_rows (map decode words)

-- a table that is refused
pub table_refused : (words : List ℕ) (rows page number : ℕ) → number ≢ 0 → number ≡ table_refusal words
    → number ≡ page_refusal words rows page
table_refused words rows page number some e = rw (← e, ne_eqb number 0 some)

-- the table is admitted, and its groups are gathered
module _ (words : List ℕ) (none : table_refusal words ≡ 0) {groups : Groups} (g : Gathered (map decode words) (length words) groups) where
  pub counted : groups.count ≡ length (found words)
  counted = groups_count (table_admitted words none) g

  pub room_told : (rows page : ℕ) → room_answer groups.count rows page ≡ answer_of words rows page
  unfolding answer_of
  room_told rows page =
      rw (none, counted, ← page_bytes (table_admitted words none))
      (split (ltb rows (length (found words)))
      (λ e. rw e refl)
      (λ e. rw e (split (ltb page (length (page_of (found words)))) (λ f. rw f refl) (λ f. rw f refl))))
