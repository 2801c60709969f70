-- A union's swap: a root gets a parent that comes after it, and two sets become one.
--
--   Linking n p r B B' x k y   root x of rank k may get the parent y, as labels go from B to B'
--
-- Main laws: linking_apart, the sets were two; linking_sound, the table stays sound with the merged labels;
-- linking_weight, the set made has the nodes that a rank of k + 1 asks for.
use mathlib.Core.Path.{◌≡◌, sym, ap, ◌∙◌, subst, fun_ext}
use mathlib.Core.Logic.{◌≢◌}
use Prim.Native.Nat.{ℕ, suc, ◌^◌, ◌≤◌, ◌<◌}
use native.Mathlib.Omega.{arith}
use native.Mathlib.Decide.{ℕ_discrete}
use lib.Pow.{pow_mono}
use Rattle.word.specs.Word.{key}
use Rattle.forest.proofs.Forest.{Labelled, before_apart}
use Rattle.forest.proofs.Size.{size}
use Rattle.forest.proofs.Merge.{Merged, Joint, already, across, straight, crossed, merged_grows, merged_size}
use Rattle.forest.proofs.Sound.{Heavy, Sound}
use Rattle.forest.proofs.Writes.{Changed, changed_same, moved_other, moved_root, moved_formed}

pub record Linking (n : ℕ) (p r B B' : ℕ → ℕ) (x k y : ℕ) : Type 0 where
  pub node : x < n
  pub target : y < n
  -- x is a root; y need not be one
  pub root : p x ≡ x
  -- its rank is kept
  pub rank : k ≡ r x
  -- x comes before y
  pub before : key (r x) x < key (r y) y
  -- their two sets become one
  pub labels : Merged B B' x y

module _ {n : ℕ} {p r B B' : ℕ → ℕ} {x k y : ℕ} (sound : Sound n p r B) (linking : Linking n p r B B' x k y) where
  -- the two nodes were in different sets
  pub linking_apart : B x ≢ B y
  linking_apart =
      before_apart sound.formed sound.labelled x y linking.node linking.target linking.root linking.before

  -- x's rank is at most y's, so each of the two sets had 2 ^ k nodes
  pub linking_weight : 2 ^ suc k ≤ size n B' (B' y)
  linking_weight =
      let low : r x ≤ r y = omega (arith, linking.node, linking.target, linking.before, sound.formed.limit) in
      let both = merged_size linking.labels n linking_apart in
      let left = sound.heavy.all x linking.node in
      let right = sound.heavy.all y linking.target in
      omega (arith, ap (λ m. 2 ^ m) linking.rank, pow_mono low, left, right, both)

  module _ {p' r' : ℕ → ℕ} (parents : Changed p p' x y) (ranks : Changed r r' x k) where
    pub linking_ranks : (i : ℕ) → r' i ≡ r i
    linking_ranks = changed_same ranks linking.rank

    pub linking_other : (i : ℕ) → p' i ≡ i → i ≢ x
    linking_other = moved_other sound.formed parents linking.target linking.before

    pub linking_root : (i : ℕ) → p' i ≡ i → p i ≡ i
    linking_root = moved_root sound.formed parents linking.target linking.before

    -- a root of x's set would be x, which is a root no more
    linking_not_x : (i : ℕ) → i < n → p' i ≡ i → B i ≢ B x
    linking_not_x i l e same =
        linking_other i e (sound.labelled.apart i x l linking.node (linking_root i e) linking.root same)

    linking_labelled : Labelled n p' B'
    linking_labelled =
        record {
          along = λ i l. along i l (ℕ_discrete i x);
          apart = λ i j li lj ri rj e. apart i j li lj ri rj (linking.labels.only i j e);
        }
      where
        along : (i : ℕ) → i < n → Dec (i ≡ x) → B' (p' i) ≡ B' i
        along i l (yes e) = rw (e, parents.at) (sym linking.labels.joined)
        along i l (no e) = rw (parents.other i e) (linking.labels.kept (p i) i (sound.labelled.along i l))

        apart : (i j : ℕ) → i < n → j < n → p' i ≡ i → p' j ≡ j → Joint B x y i j → i ≡ j
        apart i j li lj ri rj (already e) = sound.labelled.apart i j li lj (linking_root i ri) (linking_root j rj) e
        apart i j li lj ri rj (across (straight e f)) = absurd (linking_not_x i li ri e)
        apart i j li lj ri rj (across (crossed e f)) = absurd (linking_not_x j lj rj f)

    linking_heavy : Heavy n p' r B'
    linking_heavy =
        record {
          all = λ i l. omega (arith, sound.heavy.all i l, merged_grows linking.labels n i);
          lower = λ i l d. lower i l d (ℕ_discrete i x);
        }
      where
        lower : (i : ℕ) → i < n → p' i ≢ i → Dec (i ≡ x) → 2 ^ suc (r i) ≤ size n B' (B' i)
        lower i l d (yes e) = rw (e, ← linking.rank, linking.labels.joined) linking_weight
        lower i l d (no e) =
            omega (arith, sound.heavy.lower i l (λ f. d (parents.other i e ∙ f)), merged_grows linking.labels n i)

    pub linking_sound : Sound n p' r' B'
    linking_sound =
        subst (λ s. Sound n p' s B') (sym (fun_ext linking_ranks))
        (record {
          formed = moved_formed sound.formed parents linking.target linking.before;
          labelled = linking_labelled;
          heavy = linking_heavy;
        })
