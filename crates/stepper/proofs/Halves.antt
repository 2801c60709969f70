-- A half of the heads that is taken over, where the other half is as it was.
--
-- Main law: half_end, where the loop ends.
use mathlib.Core.Path.{◌≡◌}
use mathlib.Core.List.{List}
use Prim.Native.Nat.{ℕ, ◌+◌, ◌≤◌}
use native.Mathlib.Omega.{arith}
use lib.ListN.{length}
use Rattle.basics.proofs.Taken.{Taken, taken_end}
use Rattle.process.specs.declared.Head.{Head}
use Rattle.rules.specs.State.{resting}
use Rattle.stepper.specs.Halves.{half, AlikeOutside}

module _ {first : ℕ} {before after : List Head} (outside : AlikeOutside first before after) where
  pub half_end : (k : ℕ) (l : List Head) → length before ≡ length after → first + half ≤ k → Taken (resting 0) before after k l → l ≡ after
  half_end k l size all = taken_end k l size (λ j from until. outside.alike j (λ h. omega arith))
