-- Document 01, "Report and line-up": the entries of a linearization, and the buffer of numbers that holds them.
--
--   Entry                        a point and a request's number
--   insert point request es      the entries with one more at its point
--   earlier point es             how many entries stand before that point
--   Rising low es                the points rise strictly from above low
--   occurrences request es       how often a request is listed
--   operations operation es      the operations that the entries list, in their order
--   flat es, entries_of numbers  from entries to numbers, two an entry, and back
--   listed numbers n             the entries that the first numbers hold
--   moved_up part                a part of the numbers, moved up one entry
--   inserted numbers n point request   the buffer of n entries with one more
--   Insertable numbers n         the buffer has room for one more, and its n entries rise
use Rattle.std.specs.Prelude.{cond, List, [], ◌∷◌, ◌++◌, map, ℕ, zero, suc, ◌+◌, ◌*◌, ◌-◌, ◌≤◌, ◌<◌, eqb, ltb, length, take, drop}
use Rattle.linearization.specs.Partition.{Operation}

-- A line-up entry is two numbers: point and request number.
pub record Entry : Type 0 where
  pub point : ℕ
  pub request : ℕ

-- An entry goes in at its point, and later entries move up one place.
abbrev pub insert : ℕ → ℕ → List Entry → List Entry
insert point request [] = record { point = point; request = request } ∷ []
insert point request (e ∷ es) =
    cond (ltb point e.point)
    (record { point = point; request = request } ∷ e ∷ es)
    (e ∷ insert point request es)

-- How many entries it goes in behind.
abbrev pub earlier : ℕ → List Entry → ℕ
earlier point [] = zero
earlier point (e ∷ es) = cond (ltb point e.point) zero (suc (earlier point es))

-- Entries rise by point. Grants count from 1, so the points of a whole line-up rise from above 0.
pub data Rising : ℕ → List Entry → Type 0 where
  empty : {low : ℕ} → Rising low []
  rises : {low : ℕ} {e : Entry} {es : List Entry} → low < e.point → Rising e.point es → Rising low (e ∷ es)

-- How often a request is listed.
abbrev pub occurrences : ℕ → List Entry → ℕ
occurrences request [] = zero
occurrences request (e ∷ es) = cond (eqb e.request request) (suc (occurrences request es)) (occurrences request es)

-- The plain book is handed the line-up's requests in their order.
abbrev pub operations : (ℕ → Operation) → List Entry → List Operation
operations operation es = map (λ e. operation e.request) es

-- The buffer has two numbers an entry.
abbrev pub flat : List Entry → List ℕ
flat [] = []
flat (e ∷ es) = e.point ∷ e.request ∷ flat es

-- The entries that the numbers stand for; a last number without its partner is none.
abbrev pub entries_of : List ℕ → List Entry
entries_of [] = []
entries_of (point ∷ []) = []
entries_of (point ∷ request ∷ numbers) = record { point = point; request = request } ∷ entries_of numbers

-- The entries that the first numbers of a buffer hold.
abbrev pub listed : List ℕ → ℕ → List Entry
listed numbers n = entries_of (take (2 * n) numbers)

-- Later entries move up one place, which is two numbers: the part's first two numbers stay, its last two are given up.
abbrev pub moved_up : List ℕ → List ℕ
moved_up part = take 2 part ++ take (length part - 2) part

-- Numbers past the line-up's entries remain as lent.
unfoldable pub inserted : List ℕ → ℕ → ℕ → ℕ → List ℕ
inserted numbers n point request = flat (insert point request (listed numbers n)) ++ drop (2 * n + 2) numbers

-- What an insertion asks of the buffer.
pub record Insertable (numbers : List ℕ) (n : ℕ) : Type 0 where
  pub room : 2 * (n + 1) ≤ length numbers
  pub rising : Rising 0 (listed numbers n)
