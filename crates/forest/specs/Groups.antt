-- Document 02, A1: the groups of a table. `root` gives the root that each place leads to.
--
--   root_by ends i above on   the root by way of i: i itself where the way ends, or what the parent `above` leads on to
--   root_within fuel p i      the root that following parents p from i leads to, in fewer steps than `fuel`
--   size n root r             how many of the places below n have the root r
--   is_lowest root i          i is the lowest place of its group
--   lowest_places root n      the lowest places of the groups of n places, rising
use Rattle.std.specs.Prelude.{Bool, true, false, List, ℕ, zero, suc, eqb}
use Rattle.basics.specs.Count.{count, passing_below}

-- A place is a root when it is its own parent; from any other the walk goes on from the parent.
abbrev pub root_by : Bool → ℕ → ℕ → (ℕ → ℕ) → ℕ
root_by true i above on = i
root_by false i above on = on above

abbrev pub root_within : ℕ → (ℕ → ℕ) → ℕ → ℕ
root_within zero p i = i
root_within (suc fuel) p i = root_by (eqb (p i) i) i (p i) (root_within fuel p)

-- A group's size: the places that lead to its root. (Sizes of sets by label are counted in the same way.)
unfoldable pub size : ℕ → (ℕ → ℕ) → ℕ → ℕ
size n root r = count (λ i. eqb (root i) r) n

-- No place below i has its root.
abbrev pub is_lowest : (ℕ → ℕ) → ℕ → Bool
is_lowest root i = eqb (size i root (root i)) 0

abbrev pub lowest_places : (ℕ → ℕ) → ℕ → List ℕ
lowest_places root = passing_below (is_lowest root)
