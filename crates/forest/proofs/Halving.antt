-- A find's swap: a node gets a parent further up.
--
--   Halving n p r B v k u   node v of rank k may get the parent u
--
-- Main laws: halving_formed and halving_labelled, the table stays well formed and its labels stay; halving_sound, it stays
-- sound.
use mathlib.Core.Path.{◌≡◌, sym, ◌∙◌, subst, fun_ext}
use mathlib.Core.Logic.{◌≢◌}
use Prim.Native.Nat.{ℕ, suc, ◌^◌, ◌≤◌, ◌<◌}
use native.Mathlib.Decide.{ℕ_discrete}
use Rattle.word.specs.Word.{key}
use Rattle.forest.proofs.Forest.{WellFormed, Labelled}
use Rattle.forest.proofs.Size.{size}
use Rattle.forest.proofs.Sound.{Heavy, Sound}
use Rattle.forest.proofs.Writes.{Changed, changed_same, moved_root, moved_formed}

pub record Halving (n : ℕ) (p r B : ℕ → ℕ) (v k u : ℕ) : Type 0 where
  pub node : v < n
  pub target : u < n
  -- v is no root
  pub lower : p v ≢ v
  -- its rank is kept
  pub rank : k ≡ r v
  -- u is in v's set, and v comes before it
  pub same : B u ≡ B v
  pub before : key (r v) v < key (r u) u

-- What the swap keeps of the order and of the labels, whatever the sizes of the sets.
module _ {n : ℕ} {p r B p' r' : ℕ → ℕ} {v k u : ℕ} (formed : WellFormed n p r) (halving : Halving n p r B v k u)
    (parents : Changed p p' v u) (ranks : Changed r r' v k) where
  pub halving_ranks : (i : ℕ) → r' i ≡ r i
  halving_ranks = changed_same ranks halving.rank

  pub halving_root : (i : ℕ) → p' i ≡ i → p i ≡ i
  halving_root = moved_root formed parents halving.target halving.before

  pub halving_formed : WellFormed n p' r'
  halving_formed =
      subst (λ s. WellFormed n p' s) (sym (fun_ext halving_ranks)) (moved_formed formed parents halving.target halving.before)

  pub halving_labelled : Labelled n p B → Labelled n p' B
  halving_labelled labelled =
      record {
        along = λ i l. along i l (ℕ_discrete i v);
        apart = λ i j li lj ri rj. labelled.apart i j li lj (halving_root i ri) (halving_root j rj);
      }
    where
      along : (i : ℕ) → i < n → Dec (i ≡ v) → B (p' i) ≡ B i
      along i l (yes e) = rw (e, parents.at) halving.same
      along i l (no e) = rw (parents.other i e) (labelled.along i l)

  -- where the sizes back the ranks, they still do
  halving_heavy : Heavy n p r B → Heavy n p' r' B
  halving_heavy heavy =
      subst (λ s. Heavy n p' s B) (sym (fun_ext halving_ranks)) (record { all = heavy.all; lower = λ i l d. lower i l d (ℕ_discrete i v) })
    where
      lower : (i : ℕ) → i < n → p' i ≢ i → Dec (i ≡ v) → 2 ^ suc (r i) ≤ size n B (B i)
      lower i l d (yes e) = rw e (heavy.lower v halving.node halving.lower)
      lower i l d (no e) = heavy.lower i l (λ f. d (parents.other i e ∙ f))

pub halving_sound : {n : ℕ} {p r B p' r' : ℕ → ℕ} {v k u : ℕ} → Sound n p r B → Halving n p r B v k u → Changed p p' v u
    → Changed r r' v k → Sound n p' r' B
halving_sound sound halving parents ranks =
    record {
      formed = halving_formed sound.formed halving parents ranks;
      labelled = halving_labelled sound.formed halving parents ranks sound.labelled;
      heavy = halving_heavy sound.formed halving parents ranks sound.heavy;
    }
