-- Document 01, "One grant, one word": flags kept as a bit mask, and their count.
--
--   bit_of b      a flag as a binary digit
--   mask_of bs    the flags bs as one number: bit h is the h-th flag, the first flag the lowest bit
--   count_of bs   how many of the flags bs are set
use Rattle.std.specs.Prelude.{Bool, cond, List, [], ◌∷◌, ℕ, suc, ◌+◌, ◌*◌}

-- 1 for a flag that is set, 0 for one that is not.
abbrev pub bit_of : Bool → ℕ
bit_of b = cond b 1 0

-- The heads with work left are kept as a bit mask: one flag a head.
unfoldable pub mask_of : List Bool → ℕ
mask_of [] = 0
mask_of (b ∷ bs) = 2 * mask_of bs + bit_of b

-- Their number: the flags that are set.
unfoldable pub count_of : List Bool → ℕ
count_of [] = 0
count_of (b ∷ bs) = cond b (suc (count_of bs)) (count_of bs)
