-- The array of heads in two halves: a grant that frees nobody moves one head, and only its half is taken over.
--
--   half                             the heads of a half
--   AlikeOutside first before after  outside the half that begins at first, the heads are as before
use Rattle.std.specs.Prelude.{◌≡◌, List, ℕ, ◌+◌, ◌≤◌, get_or}
use Rattle.process.specs.declared.Head.{Head}
use Rattle.rules.specs.State.{resting}

abbrev pub half : ℕ
half = 16

pub record AlikeOutside (first : ℕ) (before after : List Head) : Type 0 where
  pub within : first ≤ half
  pub alike : (k : ℕ) → (first ≤ k → first + half ≤ k) → get_or after k (resting 0) ≡ get_or before k (resting 0)
