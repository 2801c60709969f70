-- What walks by hand reckon with: where the locals of a function and the elements of a slice lie, and what a call says at its exit
-- of a slice that it was lent.
--
--   locals_at                      the locals of a function at the blocks L 0, L 1, ..
--   element_offset size offset i   where element i of a slice lies in its block, as the code computes it
--   SliceLast T δ ys zs            what a call says at exit of a slice, under its name δ: the last list, as long as the one passed
use Rattle.std.specs.Prelude.{List, [], ◌∷◌, ℕ, zero, suc, ◌+◌, ◌*◌, length}
use seplogic.Ra.Ura.{Ura}
use mir.Syntax.{Local, local}
use base.Fml.{GName, Fml, fsep, feq}
use prog.Wp.{Heap, Env}
use Rattle.std.specs.Borrow.{RattleType}
use denote.Slice.{finally}

module _ {M : Type 1} (𝓤 : Ura M) (H : Heap 𝓤) where
  abbrev pub locals_at : List Local → (ℕ → ℕ) → Env 𝓤 H
  locals_at [] L = []
  locals_at (local τ h ∷ ls) L = (τ, L zero) ∷ locals_at ls (λ k. L (suc k))

abbrev pub element_offset : ℕ → ℕ → ℕ → ℕ
element_offset size offset i = i * size + offset

abbrev pub SliceLast : (T : RattleType) → GName → List T.Denot → List T.Denot → Fml
SliceLast T δ ys zs = fsep (finally T δ zs) (feq ℕ (length zs) (length ys))
