-- What every write leaves alone: the one relation between a state and a later one that a process may rely on.
--
--   Later n p r B p' r' B'   the table of parents p, ranks r and labels B has become the one of p', r' and B'
--
-- Laws: it is reflexive and transitive, and each write makes a later state; later_before and later_ends, what was
-- known of the order and of the sets of nodes is still so.
use mathlib.Core.Path.{◌≡◌, refl, ◌∙◌, sym}
use mathlib.Core.Logic.{◌≢◌}
use Prim.Native.Nat.{ℕ, suc, ◌≤◌, ◌<◌}
use native.Mathlib.Omega.{arith}
use native.Mathlib.Decide.{ℕ_discrete}
use Rattle.word.specs.Word.{key}
use Rattle.forest.proofs.Forest.{WellFormed}
use Rattle.forest.proofs.Size.{size}
use Rattle.forest.proofs.Merge.{Ends, straight, crossed, merged_grows}
use Rattle.forest.proofs.Sound.{Sound}
use Rattle.forest.proofs.Writes.{Changed}
use Rattle.forest.proofs.Halving.{Halving, halving_root, halving_ranks}
use Rattle.forest.proofs.Linking.{Linking, linking_root, linking_ranks}
use Rattle.forest.proofs.Raising.{Raising, raising_parents, raising_frozen}

pub record Later (n : ℕ) (p r B p' r' B' : ℕ → ℕ) : Type 0 where
  -- a node that is no root stays none
  pub root : (i : ℕ) → i < n → p' i ≡ i → p i ≡ i
  -- and its rank is frozen
  pub frozen : (i : ℕ) → i < n → p i ≢ i → r' i ≡ r i
  -- ranks never fall
  pub grows : (i : ℕ) → i < n → r i ≤ r' i
  -- sets only merge
  pub merges : (i j : ℕ) → i < n → j < n → B i ≡ B j → B' i ≡ B' j
  -- and only grow
  pub larger : (i : ℕ) → i < n → size n B (B i) ≤ size n B' (B' i)

pub later_refl : (n : ℕ) (p r B : ℕ → ℕ) → Later n p r B p r B
later_refl n p r B =
    record {
      root = λ i l e. e;
      frozen = λ i l d. refl;
      grows = λ i l. omega arith;
      merges = λ i j li lj e. e;
      larger = λ i l. omega arith;
    }

pub later_trans : {n : ℕ} {p r B p' r' B' p'' r'' B'' : ℕ → ℕ} → Later n p r B p' r' B' → Later n p' r' B' p'' r'' B''
    → Later n p r B p'' r'' B''
later_trans first second =
    record {
      root = λ i l e. first.root i l (second.root i l e);
      frozen = λ i l d. second.frozen i l (λ e. d (first.root i l e)) ∙ first.frozen i l d;
      grows = λ i l. omega (arith, first.grows i l, second.grows i l);
      merges = λ i j li lj e. second.merges i j li lj (first.merges i j li lj e);
      larger = λ i l. omega (arith, first.larger i l, second.larger i l);
    }

module _ {n : ℕ} {p r B p' r' B' : ℕ → ℕ} (later : Later n p r B p' r' B') where
  -- a node that is no root still comes before what it came before
  pub later_before : (v u : ℕ) → v < n → u < n → p v ≢ v → key (r v) v < key (r u) u → key (r' v) v < key (r' u) u
  later_before v u lv lu d before = omega (arith, later.frozen v lv d, later.grows u lu)

  pub later_ends : (a b x y : ℕ) → a < n → b < n → x < n → y < n → Ends B a b x y → Ends B' a b x y
  later_ends a b x y la lb lx ly (straight e f) = straight (later.merges x a lx la e) (later.merges y b ly lb f)
  later_ends a b x y la lb lx ly (crossed e f) = crossed (later.merges x b lx lb e) (later.merges y a ly la f)

pub halving_later : {n : ℕ} {p r B p' r' : ℕ → ℕ} {v k u : ℕ} → WellFormed n p r → Halving n p r B v k u → Changed p p' v u
    → Changed r r' v k → Later n p r B p' r' B
halving_later formed halving parents ranks =
    record {
      root = λ i l. halving_root formed halving parents ranks i;
      frozen = λ i l d. halving_ranks formed halving parents ranks i;
      grows = λ i l. omega (arith, halving_ranks formed halving parents ranks i);
      merges = λ i j li lj e. e;
      larger = λ i l. omega arith;
    }

pub linking_later : {n : ℕ} {p r B B' p' r' : ℕ → ℕ} {x k y : ℕ} → Sound n p r B → Linking n p r B B' x k y
    → Changed p p' x y → Changed r r' x k → Later n p r B p' r' B'
linking_later {n} sound linking parents ranks =
    record {
      root = λ i l. linking_root sound linking parents ranks i;
      frozen = λ i l d. linking_ranks sound linking parents ranks i;
      grows = λ i l. omega (arith, linking_ranks sound linking parents ranks i);
      merges = λ i j li lj. linking.labels.kept i j;
      larger = λ i l. merged_grows linking.labels n i;
    }

pub raising_later : {n : ℕ} {p r B p' r' : ℕ → ℕ} {y k : ℕ} → Sound n p r B → Raising n p r B y k → Changed p p' y y
    → Changed r r' y (suc k) → Later n p r B p' r' B
raising_later {n} {p} {r} {B} {p'} {r'} {y} {k} sound raising parents ranks =
    record {
      root = λ i l e. sym (raising_parents sound raising parents ranks i) ∙ e;
      frozen = λ i l. raising_frozen sound raising parents ranks i;
      grows = λ i l. grows i (ℕ_discrete i y);
      merges = λ i j li lj e. e;
      larger = λ i l. omega arith;
    }
  where
    grows : (i : ℕ) → Dec (i ≡ y) → r i ≤ r' i
    grows i (yes e) = rw (e, ranks.at) (omega (arith, raising.rank))
    grows i (no e) = omega (arith, ranks.other i e)
