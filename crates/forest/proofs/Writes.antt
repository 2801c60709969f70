-- A write to one node, and what a new parent does to a table.
--
--   Changed f g v u   g is f but for v, where it is u
--
-- Laws: changed_same, writing what stands there changes nothing; moved_root and moved_formed, a parent that comes
-- after the node makes no root and keeps the table well formed.
use mathlib.Core.Path.{◌≡◌, sym, ap, ◌∙◌}
use mathlib.Core.Logic.{◌≢◌}
use Prim.Native.Nat.{ℕ, ◌<◌}
use native.Mathlib.Omega.{arith}
use native.Mathlib.Decide.{ℕ_discrete}
use Rattle.word.specs.Word.{key}
use Rattle.forest.proofs.Forest.{WellFormed}

pub record Changed (f g : ℕ → ℕ) (v u : ℕ) : Type 0 where
  pub at : g v ≡ u
  pub other : (j : ℕ) → j ≢ v → g j ≡ f j

-- writing what stands there changes nothing
pub changed_same : {f g : ℕ → ℕ} {v u : ℕ} → Changed f g v u → u ≡ f v → (j : ℕ) → g j ≡ f j
changed_same {f} {g} {v} {u} change e j = go (ℕ_discrete j v)
  where
    go : Dec (j ≡ v) → g j ≡ f j
    go (yes d) = ap g d ∙ change.at ∙ e ∙ sym (ap f d)
    go (no d) = change.other j d

-- A new parent u of v that comes after v makes no root and keeps the table well formed.
module _ {n : ℕ} {p r p' : ℕ → ℕ} {v u : ℕ} (formed : WellFormed n p r) (change : Changed p p' v u) (target : u < n)
    (before : key (r v) v < key (r u) u) where
  pub moved_other : (i : ℕ) → p' i ≡ i → i ≢ v
  moved_other i e d =
      let one : u ≡ v = sym change.at ∙ ap p' (sym d) ∙ e ∙ d in
      absurd (omega (arith, ap r one))

  pub moved_root : (i : ℕ) → p' i ≡ i → p i ≡ i
  moved_root i e = sym (change.other i (moved_other i e)) ∙ e

  pub moved_formed : WellFormed n p' r
  moved_formed =
      record {
        limit = formed.limit;
        inside = λ i l. inside i l (ℕ_discrete i v);
        rising = λ i l d. rising i l d (ℕ_discrete i v);
      }
    where
      inside : (i : ℕ) → i < n → Dec (i ≡ v) → p' i < n
      inside i l (yes e) = rw (e, change.at) target
      inside i l (no e) = rw (change.other i e) (formed.inside i l)

      rising : (i : ℕ) → i < n → p' i ≢ i → Dec (i ≡ v) → key (r i) i < key (r (p' i)) (p' i)
      rising i l d (yes e) = rw (e, change.at) before
      rising i l d (no e) = rw (change.other i e) (formed.rising i l (λ f. d (change.other i e ∙ f)))
