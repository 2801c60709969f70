-- The texts of a sheet as functions of what two agreeing runs have in common, and against the listing's lines.
--
--   row_lines n rows  the lines of requests with those rows, numbered from n
--   lines_of es       the lines of entries as they stand
--
-- Main laws: request_lines_rows and entry_lines_shown, a sheet's lines by its rows and its entries; request_lines_every,
-- shown_every and lines_of_listing, the listing's lines where every request is seen.
use mathlib.Core.Path.{◌≡◌, refl, sym, ap, ◌∙◌}
use mathlib.Core.Bool.{Bool, true}
use mathlib.Core.List.{List, [], ◌∷◌, ◌++◌, map, map-append, append_assoc, append-nil, Memᴰ}
use Prim.Native.Nat.{ℕ, zero, suc, ◌+◌, ◌<◌}
use native.Mathlib.Numerals.{unary_clauses}
use native.Mathlib.Omega.{arith}
use lib.ListN.{length, length-map}
use Rattle.basics.proofs.Conditions.{split}
use Rattle.basics.proofs.Counts.{count_all}
use Rattle.basics.proofs.Passing.{passing_many}
use Rattle.text.specs.Text.{each}
use Rattle.text.proofs.Text.{each_first, each_same}
use Rattle.listing.specs.Listing.{Requests, Entries, entry_line, row}
use Rattle.linearization.specs.Entry.{Entry, flat}
use Rattle.rules.specs.declared.Row.{Row}
use Rattle.rules.specs.Report.{row_at}
use Rattle.sheet.specs.Sheet.{seen_numbers, number_of, row_line, seen_line, request_lines, entry_lines}
use Rattle.sheet.specs.Agree.{Numbers}
use Rattle.sheet.proofs.Entries.{shown_entries}

-- ---- the lines of requests

abbrev pub row_lines : ℕ → List Row → List ℕ
row_lines n [] = []
row_lines n (row ∷ rows) = row_line n row ++ row_lines (suc n) rows

row_lines_last : (n k : ℕ) (rows : List Row) (row : Row) → k ≡ n + length rows
    → row_lines n (rows ++ (row ∷ [])) ≡ row_lines n rows ++ row_line k row
row_lines_last n k [] row at = let start : k ≡ n = omega arith in rw start (append-nil (row_line n row))
row_lines_last n k (r ∷ rows) row at =
    ap {B = List ℕ} (λ t. row_line n r ++ t) (row_lines_last (suc n) k rows row (omega arith))
    ∙ sym (append_assoc (row_line n r) (row_lines (suc n) rows) (row_line k row))

module _ (seen : ℕ → Bool) (report : List Row) where
  lines_rows : (m : ℕ) → each (seen_line seen report) m ≡ row_lines 0 (map (row_at report) (seen_numbers seen m))
  unfolding each
  lines_rows zero = refl
  lines_rows (suc m) =
      let rows = map (row_at report) (seen_numbers seen m) in
      let more : number_of seen m ≡ 0 + length rows =
      omega (arith, length-map (seen_numbers seen m) (row_at report), passing_many seen m) in
      split (seen m)
      (λ s.
      rw (s, map-append)
      (ap {B = List ℕ} (λ t. t ++ row_line (number_of seen m) (row_at report m)) (lines_rows m)
      ∙ sym (row_lines_last 0 (number_of seen m) rows (row_at report m) more)))
      (λ s. rw s (append-nil _ ∙ lines_rows m))

  pub request_lines_rows : request_lines seen report ≡ row_lines 0 (map (row_at report) (seen_numbers seen (length report)))
  request_lines_rows = lines_rows (length report)

  module _ (all : (q : ℕ) → q < length report → seen q ≡ true) where
    number_every : (q : ℕ) → q < length report → number_of seen q ≡ q
    number_every q l = count_all seen q (λ i h. all i (omega arith))

    pub request_lines_every : (numbers : List ℕ) → Numbers numbers report
        → request_lines seen report ≡ each (row Requests numbers) (length report)
    request_lines_every numbers are =
        each_same (seen_line seen report) (row Requests numbers) (length report)
        (λ q l. rw (all q l, number_every q l, are.answers q l, are.firsts q l, are.lasts q l, are.useds q l))

    pub shown_every : (es : List Entry) → ((e : Entry) → Memᴰ e es → e.request < length report) → shown_entries seen es ≡ es
    shown_every [] inside = refl
    shown_every (e ∷ es) inside =
        let here = inside e (Memᴰ.head refl) in
        let rest = shown_every es (λ f m. inside f (Memᴰ.tail m)) in
        rw (all e.request here, number_every e.request here) (ap {B = List Entry} (λ fs. e ∷ fs) rest)

-- ---- the lines of entries

abbrev pub lines_of : List Entry → List ℕ
lines_of [] = []
lines_of (e ∷ es) = entry_line e.point e.request ++ lines_of es

pub entry_lines_shown : (seen : ℕ → Bool) (es : List Entry) → entry_lines seen es ≡ lines_of (shown_entries seen es)
entry_lines_shown seen [] = refl
entry_lines_shown seen (e ∷ es) =
    split (seen e.request)
    (λ s. rw s (ap {B = List ℕ} (λ t. entry_line e.point (number_of seen e.request) ++ t) (entry_lines_shown seen es)))
    (λ s. rw s (entry_lines_shown seen es))

pub lines_of_listing : (es : List Entry) (past : List ℕ) → lines_of es ≡ each (row Entries (flat es ++ past)) (length es)
unfolding each
lines_of_listing [] past = refl
lines_of_listing (e ∷ es) past =
    let later : (i : ℕ) → row Entries (flat es ++ past) i ≡ row Entries (flat (e ∷ es) ++ past) (suc i) = λ i. simp unary_clauses in
    ap {B = List ℕ} (λ t. entry_line e.point e.request ++ t) (lines_of_listing es past ∙ each_same _ _ (length es) (λ i l. later i))
    ∙ sym (each_first (row Entries (flat (e ∷ es) ++ past)) (length es))
