-- Two sets become one: what a union does to labels, as an equivalence of label equations.
--
--   Ends B a b x y      x and y are labelled as a and b, straight or crossed
--   Joint B a b i j     why i and j are in one set after the sets of a and b became one
--   Merged B B' a b     from labels B to B' the sets of a and b became one, and nothing else
--
-- Main laws: relabelled_merged, relabelling merges; merged_ends, the nodes named may be exchanged for others of the
-- same sets; merged_size, the set made is as large as the two were together.
use mathlib.Core.Path.{◌≡◌, refl, sym, ap, ◌∙◌}
use mathlib.Core.Logic.{◌≢◌}
use mathlib.Core.Bool.{cond}
use Prim.Native.Nat.{ℕ, ◌+◌, ◌≤◌}
use native.Mathlib.Decide.{ℕ_discrete}
use lib.Dec.{eqb}
use borrow.Author.Tests.{eq-eqb, ne_eqb}
use Rattle.forest.proofs.Size.{size, size_grows, size_sum}

pub data Ends (B : ℕ → ℕ) (a b x y : ℕ) : Type 0 where
  straight : B x ≡ B a → B y ≡ B b → Ends B a b x y
  crossed : B x ≡ B b → B y ≡ B a → Ends B a b x y

pub data Joint (B : ℕ → ℕ) (a b i j : ℕ) : Type 0 where
  -- they were in one set before
  already : B i ≡ B j → Joint B a b i j
  -- one was with a and the other with b
  across : Ends B a b i j → Joint B a b i j

pub record Merged (B B' : ℕ → ℕ) (a b : ℕ) : Type 0 where
  -- nodes of one set stay in one set
  pub kept : (i j : ℕ) → B i ≡ B j → B' i ≡ B' j
  -- a and b are in one set
  pub joined : B' a ≡ B' b
  -- no other sets became one
  pub only : (i j : ℕ) → B' i ≡ B' j → Joint B a b i j

-- nodes that both pairs tell apart in the same way
ends_change : {B : ℕ → ℕ} {a b x y i j : ℕ} → Ends B a b x y → Ends B a b i j → Ends B x y i j
ends_change (straight e f) (straight g h) = straight (g ∙ sym e) (h ∙ sym f)
ends_change (straight e f) (crossed g h) = crossed (g ∙ sym f) (h ∙ sym e)
ends_change (crossed e f) (straight g h) = crossed (g ∙ sym f) (h ∙ sym e)
ends_change (crossed e f) (crossed g h) = straight (g ∙ sym e) (h ∙ sym f)

joint_change : {B : ℕ → ℕ} {a b x y i j : ℕ} → Ends B a b x y → Joint B a b i j → Joint B x y i j
joint_change ends (already e) = already e
joint_change ends (across other) = across (ends_change ends other)

module _ {B B' : ℕ → ℕ} {a b : ℕ} (merged : Merged B B' a b) where
  merged_joined : (x y : ℕ) → Ends B a b x y → B' x ≡ B' y
  merged_joined x y (straight e f) = merged.kept x a e ∙ merged.joined ∙ sym (merged.kept y b f)
  merged_joined x y (crossed e f) = merged.kept x b e ∙ sym merged.joined ∙ sym (merged.kept y a f)

  pub merged_ends : (x y : ℕ) → Ends B a b x y → Merged B B' x y
  merged_ends x y ends =
      record { kept = merged.kept; joined = merged_joined x y ends; only = λ i j e. joint_change ends (merged.only i j e) }

  pub merged_grows : (n i : ℕ) → size n B (B i) ≤ size n B' (B' i)
  merged_grows n i = size_grows n B B' (B i) (B' i) (λ j l e. merged.kept j i e)

  pub merged_size : (n : ℕ) → B a ≢ B b → size n B (B a) + size n B (B b) ≤ size n B' (B' b)
  merged_size n apart =
      size_sum n B B' (B a) (B b) (B' b) apart (λ i l e. merged.kept i a e ∙ merged.joined) (λ i l e. merged.kept i b e)

-- Relabelling: every node labelled as a gets the label of b, the others keep theirs.
module _ (B B' : ℕ → ℕ) (a b : ℕ) (relabelled : (i : ℕ) → B' i ≡ cond (eqb (B i) (B a)) (B b) (B i)) where
  moved : (i : ℕ) → B i ≡ B a → B' i ≡ B b
  moved i e = relabelled i ∙ rw (eq-eqb (B i) (B a) e)

  stayed : (i : ℕ) → B i ≢ B a → B' i ≡ B i
  stayed i d = relabelled i ∙ rw (ne_eqb (B i) (B a) d)

  relabelled_kept : (i j : ℕ) → B i ≡ B j → B' i ≡ B' j
  relabelled_kept i j e = relabelled i ∙ ap (λ l. cond (eqb l (B a)) (B b) l) e ∙ sym (relabelled j)

  relabelled_joined : Dec (B b ≡ B a) → B' a ≡ B' b
  relabelled_joined (yes e) = relabelled_kept a b (sym e)
  relabelled_joined (no d) = moved a refl ∙ sym (stayed b d)

  relabelled_only : (i j : ℕ) → Dec (B i ≡ B a) → Dec (B j ≡ B a) → B' i ≡ B' j → Joint B a b i j
  relabelled_only i j (yes e) (yes f) s = already (e ∙ sym f)
  relabelled_only i j (yes e) (no f) s = across (straight e (sym (stayed j f) ∙ sym s ∙ moved i e))
  relabelled_only i j (no e) (yes f) s = across (crossed (sym (stayed i e) ∙ s ∙ moved j f) f)
  relabelled_only i j (no e) (no f) s = already (sym (stayed i e) ∙ s ∙ stayed j f)

  pub relabelled_merged : Merged B B' a b
  relabelled_merged =
      record {
        kept = relabelled_kept;
        joined = relabelled_joined (ℕ_discrete (B b) (B a));
        only = λ i j. relabelled_only i j (ℕ_discrete (B i) (B a)) (ℕ_discrete (B j) (B a));
      }
