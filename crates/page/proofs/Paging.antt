-- A page that is written, and one that is refused: the exit buffers are as the call's outcome says.
--
--   Accepted words rows page   a call that is not refused: its table is admitted, and there is room for its rows and its page
--   PageEnded                  the contract's clauses, of an answer and the exit buffers
--
-- Main laws: page_refused, the outcome of a refused call; call_refused and call_ended, of one whose table is admitted.
use mathlib.Core.Path.{◌≡◌, refl, sym, ap, ◌∙◌}
use mathlib.Core.List.{List, ◌++◌, map}
use Prim.Native.Nat.{ℕ, ◌≤◌, ◌<◌}
use native.Mathlib.Omega.{arith}
use native.Mathlib.Decide.{ℕ_discrete}
use lib.Dec.{eqb, ltb}
use lib.ListN.{length, get_or, drop, length-map, get_or-append}
use lib.Seq.{take-append_seam}
use borrow.Author.Tests.{ltb-false, eqb-true, eq-eqb, ne_eqb}
use Rattle.basics.proofs.Conditions.{split}
use Rattle.job.specs.declared.refusal.Refusal.{Refusal}
use Rattle.job.specs.Refusal.{number_of}
use Rattle.job.proofs.Refusals.{refuses}
use Rattle.word.specs.Word.{decode}
use Rattle.table.specs.Admitted.{table_refusal, Admitted}
use Rattle.table.proofs.Admitted.{passed, table_admitted}
use Rattle.page.specs.declared.Row.{Row}
use Rattle.page.specs.declared.Paged.{Paged}
use Rattle.page.specs.declared.groups.Groups.{Groups}
use Rattle.page.specs.Rows.{no_row, group_rows}
use Rattle.page.specs.Page.{Outcome, lines_to, page_of, page_refusal, written_answer, refused_answer, paged_of}
use Rattle.page.specs.Grouped.{GroupedHere}
use Rattle.page.specs.Gathered.{Gathered}
use Rattle.page.specs.Told.{answer_of, room_answer}
use Rattle.page.specs.Written.{lined}
use Rattle.page.proofs.Pages.{AllFitting, page_done, lines_same, lined_after}
use Rattle.page.proofs.Planning.{rows_fitting, counted, room_told}
use Rattle.page.proofs.Grouping.{grouped}

pub record Accepted (words : List ℕ) (rows page : ℕ) : Type 0 where
  pub table : Admitted (length (map decode words)) (map decode words)
  pub room_rows : length (group_rows (map decode words)) ≤ rows
  pub room_page : length (page_of (group_rows (map decode words))) ≤ page

pub record PageEnded (words : List ℕ) (rows : List Row) (page : List ℕ) (answer : Paged) (rows' : List Row) (page' : List ℕ) : Type 0 where
  pub exact : ◌≡◌ {A = Outcome} (record { answer = answer; rows = rows'; page = page' }) (paged_of words rows page)
  pub grouped : answer.number ≡ 0 → GroupedHere words answer rows' page'

-- ---- a call that is refused

-- no refusal has the number 0, so that the outcome is refused as well
pub page_refused : (words : List ℕ) (rows : List Row) (page : List ℕ) (e : Refusal)
    → number_of e ≡ page_refusal words (length rows) (length page)
    → PageEnded words rows page (refused_answer (number_of e)) rows page
unfolding paged_of
page_refused words rows page e is =
    record {
      exact = rw (← is, ne_eqb (number_of e) 0 (refuses e));
      grouped = λ none. absurd (refuses e none);
    }

-- the room is too little
room_refused : (words : List ℕ) (rows page : ℕ) (e : Refusal) → refused_answer (number_of e) ≡ answer_of words rows page
    → number_of e ≡ page_refusal words rows page
unfolding answer_of
room_refused words rows page e told =
    split (eqb (page_refusal words rows page) 0)
    (λ f. absurd (refuses e (rw f at (ap (λ a. a.number) told))))
    (λ f. rw f at (ap (λ a. a.number) told))

-- ---- a call that is not

module _ (words : List ℕ) where
  abbrev found : List Row
  found = group_rows (map decode words)

  accepted : (rows page : ℕ) → page_refusal words rows page ≡ 0 → Accepted words rows page
  accepted rows page none = go (ℕ_discrete (table_refusal words) 0)
    where
      go : Dec (table_refusal words ≡ 0) → Accepted words rows page
      go (no d) = absurd (d (sym (rw (ne_eqb (table_refusal words) 0 d)) ∙ none))
      go (yes z) =
          let listed = passed (ltb rows (length found)) (λ e. omega arith) (rw (eq-eqb (table_refusal words) 0 z) at none) in
          let written = passed (ltb page (length (page_of found))) (λ e. omega arith) listed.others in
          record {
            table = rw (length-map words decode) (table_admitted words z);
            room_rows = ltb-false rows (length found) listed.first;
            room_page = ltb-false page (length (page_of found)) written.first;
          }

  -- what is told has the number 0, and so there is room
  room_none : (rows page : ℕ) (answer : Paged) → answer.number ≡ 0 → answer ≡ answer_of words rows page → page_refusal words rows page ≡ 0
  unfolding answer_of
  room_none rows page answer none told =
      split (eqb (page_refusal words rows page) 0)
      (λ f. eqb-true _ 0 f)
      (λ f. sym (rw f at (ap (λ a. a.number) told)) ∙ none)

  module _ (rows : List Row) (page : List ℕ) (answer : Paged) (zero : answer.number ≡ 0)
      (told : answer ≡ answer_of words (length rows) (length page)) where
    none : page_refusal words (length rows) (length page) ≡ 0
    none = room_none (length rows) (length page) answer zero told

    room : Accepted words (length rows) (length page)
    room = accepted (length rows) (length page) none

    written_told : answer ≡ written_answer found
    unfolding answer_of
    written_told = told ∙ rw (eq-eqb _ 0 none) refl

    abbrev filled : List Row
    filled = found ++ drop (length found) rows

    filled_at : (k : ℕ) → k < length found → get_or filled k no_row ≡ get_or found k no_row
    filled_at k l = get_or-append found (drop (length found) rows) no_row k l

    fitting : AllFitting filled (length found)
    fitting k l = rw (filled_at k l) (rows_fitting room.table k l)

    lines_told : lines_to filled (length found) ≡ page_of found
    unfolding page_of
    lines_told = lines_same filled found (length found) filled_at

    page_told : lined filled (length found) page ≡ page_of found ++ drop (length (page_of found)) page
    page_told =
        lined_after filled page (length found) fitting
        ∙ page_done filled page (length found) (omega (arith, ap length lines_told, room.room_page))
        ∙ ap (λ (l : List ℕ). l ++ drop (length l) page) lines_told

    written_ended : PageEnded words rows page (written_answer found) filled (page_of found ++ drop (length (page_of found)) page)
    unfolding paged_of
    written_ended =
        record {
          exact = rw (eq-eqb _ 0 none);
          grouped =
              λ accepted-number.
              rw (take-append_seam found (drop (length found) rows), take-append_seam (page_of found) (drop (length (page_of found)) page))
              (grouped (map decode words) room.table);
        }

    page_ended : (count : ℕ) (rows' : List Row) (page' : List ℕ) → count ≡ length found → rows' ≡ filled → page' ≡ lined rows' count page
        → PageEnded words rows page answer rows' page'
    page_ended count rows' page' counted fills lines =
        let printed : page' ≡ page_of found ++ drop (length (page_of found)) page =
        lines ∙ (λ i. lined (fills i) (counted i) page) ∙ page_told in
        rw (written_told, fills, printed) written_ended

-- ---- the call, once the table is admitted and its groups are gathered

module _ (words : List ℕ) (rows : List Row) (page : List ℕ) (none : table_refusal words ≡ 0) {groups : Groups}
    (g : Gathered (map decode words) (length words) groups) where
  pub call_refused : (e : Refusal) → refused_answer (number_of e) ≡ room_answer groups.count (length rows) (length page)
      → PageEnded words rows page (refused_answer (number_of e)) rows page
  call_refused e told =
      page_refused words rows page e
      (room_refused words (length rows) (length page) e (told ∙ room_told words none g (length rows) (length page)))

  pub call_ended : {lines bytes : ℕ} {rows' : List Row} {page' : List ℕ}
      → record { number = 0; rows = lines; bytes = bytes } ≡ room_answer groups.count (length rows) (length page)
      → rows' ≡ found words ++ drop (length (found words)) rows → page' ≡ lined rows' groups.count page
      → PageEnded words rows page (record { number = 0; rows = lines; bytes = bytes }) rows' page'
  call_ended told fills prints =
      page_ended words rows page _ refl (told ∙ room_told words none g (length rows) (length page)) groups.count _ _
      (counted words none g) fills prints
