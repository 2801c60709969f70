-- Laws of the sheet from buffers: it can be counted in 64 bits, and it is the sheet of the rows and entries that they hold.
--
-- Main laws: sheet_in_counted; holding_text, the text of buffers that hold rows and entries; holding_readable, they have what
-- the text shows.
use Rattle.std.specs.Prelude.{Option, Some, None}
use mathlib.Core.Path.{◌≡◌, refl, ap₂, ◌∙◌}
use mathlib.Core.Bool.{Bool, cond}
use mathlib.Core.List.{List, [], ◌∷◌, ◌++◌, Memᴰ}
use Prim.Native.Nat.{ℕ, zero, suc, ◌+◌, ◌*◌, ◌^◌, ◌≤◌, ◌<◌}
use native.Mathlib.Numerals.{unary_clauses}
use native.Mathlib.Omega.{arith}
use lib.ListN.{length, get_or, length-append}
use Rattle.basics.proofs.Conditions.{split}
use Rattle.text.specs.Text.{each}
use Rattle.text.specs.Writing.{last_position}
use Rattle.text.proofs.Text.{each_short, each_same, each_first}
use Rattle.listing.specs.Listing.{report_line, entry_line}
use Rattle.listing.proofs.Listing.{request_short, entry_short}
use Rattle.linearization.specs.Entry.{Entry, flat}
use Rattle.linearization.proofs.Numbers.{length_flat}
use Rattle.rules.specs.declared.Row.{Row}
use Rattle.sheet.specs.Sheet.{number_of, seen_line, request_lines, entry_lines, sheet_text}
use Rattle.sheet.specs.Agree.{Numbers}
use Rattle.sheet.specs.Buffers.{Numbered, Narrow, line_under, request_line_in, entry_line_in, sheet_in, Readable, Holding}

-- ---- its length

module _ (numbers : List (Option ℕ)) (report : List ℕ) (requests : ℕ) (linearization : List ℕ) (entries : ℕ)
    (narrow : Narrow numbers report linearization) where
  under_short : (k : ℕ) (line : ℕ → List ℕ) → ((number : ℕ) → number < 2 ^ 32 → length (line number) ≤ 64)
      → length (line_under (get_or numbers k None) line) ≤ 64
  under_short k line short = go (get_or numbers k None) refl
    where
      go : (number : Option ℕ) → get_or numbers k None ≡ number → length (line_under number line) ≤ 64
      go None e = omega arith
      go (Some number) e = short number (omega (arith, narrow.small k number e))

  request_line_short : (q : ℕ) → length (request_line_in numbers report q) ≤ 64
  request_line_short q = under_short q _ (λ number l. request_short report narrow.rows number q l)

  entry_line_short : (i : ℕ) → length (entry_line_in numbers linearization i) ≤ 64
  entry_line_short i =
      under_short (get_or linearization (2 * i + 1) 0) _
      (λ number l. entry_short (get_or linearization (2 * i) 0) number (narrow.points (2 * i)) l)

  pub sheet_in_counted : requests < 2 ^ 32 → entries < 2 ^ 32
      → length (sheet_in numbers report requests linearization entries) ≤ last_position
  sheet_in_counted h k =
      omega (
        arith,
        length-append (each (request_line_in numbers report) requests) (each (entry_line_in numbers linearization) entries),
        each_short (request_line_in numbers report) 64 requests (λ q l. request_line_short q),
        each_short (entry_line_in numbers linearization) 64 entries (λ i l. entry_line_short i),
      )

-- ---- the text of what they hold

module _ {seen : ℕ → Bool} {n : ℕ} {numbers : List (Option ℕ)} (numbered : Numbered seen n numbers) where
  -- whatever a request's line is, it is there exactly where the request is seen, under its number on the sheet
  line_seen : (q : ℕ) → q < n → (line : ℕ → List ℕ)
      → line_under (get_or numbers q None) line ≡ cond (seen q) (line (number_of seen q)) []
  line_seen q inside line = split (seen q) (λ s. rw (numbered.each q inside, s) refl) (λ s. rw (numbered.each q inside, s) refl)

  lines_requests : (rows : List Row) (report : List ℕ) → Numbers report rows → length rows ≡ n
      → each (request_line_in numbers report) (length rows) ≡ request_lines seen rows
  lines_requests rows report are all =
      each_same (request_line_in numbers report) (seen_line seen rows) (length rows)
      (λ q l.
      line_seen q (omega arith) (λ k. report_line k report q)
      ∙ rw (are.answers q l, are.firsts q l, are.lasts q l, are.useds q l))

  lines_entries : (es : List Entry) (past : List ℕ) → ((e : Entry) → Memᴰ e es → e.request < n)
      → each (entry_line_in numbers (flat es ++ past)) (length es) ≡ entry_lines seen es
  unfolding each
  lines_entries [] past inside = refl
  lines_entries (e ∷ es) past inside =
      let later : (i : ℕ) → entry_line_in numbers (flat (e ∷ es) ++ past) (suc i) ≡ entry_line_in numbers (flat es ++ past) i =
      λ i. simp unary_clauses in
      each_first (entry_line_in numbers (flat (e ∷ es) ++ past)) (length es)
      ∙ ap₂ {C = List ℕ} ◌++◌ (line_seen e.request (inside e (Memᴰ.head refl)) (entry_line e.point))
      (each_same _ _ (length es) (λ i l. later i) ∙ lines_entries es past (λ f m. inside f (Memᴰ.tail m)))

entry_inside : (n : ℕ) (es : List Entry) (past : List ℕ) → ((e : Entry) → Memᴰ e es → e.request < n)
    → (i : ℕ) → i < length es → get_or (flat es ++ past) (2 * i + 1) 0 < n
entry_inside n [] past inside i l = absurd (omega arith)
entry_inside n (e ∷ es) past inside zero l = inside e (Memᴰ.head refl)
entry_inside n (e ∷ es) past inside (suc i) l =
    let along : 2 * suc i + 1 ≡ suc (suc (2 * i + 1)) = omega arith in
    rw along (entry_inside n es past (λ f m. inside f (Memᴰ.tail m)) i (omega arith))

module _ {rows : List Row} {entries : List Entry} {report linearization : List ℕ} {count : ℕ}
    (holding : Holding rows entries report linearization count) where
  pub holding_text : {seen : ℕ → Bool} {numbers : List (Option ℕ)} → Numbered seen (length rows) numbers
      → sheet_in numbers report (length rows) linearization count ≡ sheet_text seen rows entries
  unfolding sheet_text
  holding_text numbered =
      ap₂ {C = List ℕ} ◌++◌ (lines_requests numbered rows report holding.report_rows refl)
      (rw (holding.counted, holding.listed) (lines_entries numbered entries holding.past holding.line_up.requests))

  pub holding_readable : (numbers : List (Option ℕ)) → length rows ≤ length numbers
      → Readable numbers report (length rows) linearization count
  holding_readable numbers enough =
      record {
        numbered = enough;
        rows = holding.report_long;
        points = rw holding.listed
            (omega (arith, holding.counted, length-append (flat entries) holding.past, length_flat entries));
        listed = λ i l.
            rw holding.listed
            (omega (
              arith,
              enough,
              holding.counted,
              entry_inside (length rows) entries holding.past holding.line_up.requests i (omega (arith, holding.counted)),
            ));
      }
