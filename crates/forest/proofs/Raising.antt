-- A union's last swap: a root gets the next higher rank.
--
--   Raising n p r B y k   root y of rank k may get the rank k + 1
--
-- Main law: raising_sound, the table stays sound.
use mathlib.Core.Path.{◌≡◌, sym, ap, ◌∙◌, subst, fun_ext}
use mathlib.Core.Logic.{◌≢◌}
use Prim.Native.Nat.{ℕ, suc, ◌^◌, ◌≤◌, ◌<◌}
use native.Mathlib.Omega.{arith}
use native.Mathlib.Decide.{ℕ_discrete}
use Rattle.word.specs.Word.{key}
use Rattle.forest.proofs.Forest.{WellFormed}
use Rattle.forest.proofs.Size.{size}
use Rattle.forest.proofs.Sound.{Heavy, Sound}
use Rattle.forest.proofs.Writes.{Changed, changed_same}

pub record Raising (n : ℕ) (p r B : ℕ → ℕ) (y k : ℕ) : Type 0 where
  pub node : y < n
  pub root : p y ≡ y
  pub rank : k ≡ r y
  -- y's set has the nodes that the new rank asks for
  pub weight : 2 ^ suc k ≤ size n B (B y)

module _ {n : ℕ} {p r B p' r' : ℕ → ℕ} {y k : ℕ} (sound : Sound n p r B) (raising : Raising n p r B y k)
    (parents : Changed p p' y y) (ranks : Changed r r' y (suc k)) where
  pub raising_parents : (i : ℕ) → p' i ≡ p i
  raising_parents = changed_same parents (sym raising.root)

  -- y is a root
  raising_other : (i : ℕ) → p i ≢ i → i ≢ y
  raising_other i d e = d (ap p e ∙ raising.root ∙ sym e)

  pub raising_frozen : (i : ℕ) → p i ≢ i → r' i ≡ r i
  raising_frozen i d = ranks.other i (raising_other i d)

  raising_formed : WellFormed n p r'
  raising_formed =
      record {
        limit = sound.formed.limit;
        inside = sound.formed.inside;
        rising = λ i l d. rising i l d (ℕ_discrete (p i) y);
      }
    where
      rising : (i : ℕ) → i < n → p i ≢ i → Dec (p i ≡ y) → key (r' i) i < key (r' (p i)) (p i)
      rising i l d (yes e) =
          omega (arith, sound.formed.rising i l d, raising_frozen i d, ap r e, ap r' e, ranks.at, raising.rank)
      rising i l d (no e) = rw (raising_frozen i d, ranks.other (p i) e) (sound.formed.rising i l d)

  raising_heavy : Heavy n p r' B
  raising_heavy =
      record {
        all = λ i l. all i l (ℕ_discrete i y);
        lower = λ i l d. rw (raising_frozen i d) (sound.heavy.lower i l d);
      }
    where
      all : (i : ℕ) → i < n → Dec (i ≡ y) → 2 ^ r' i ≤ size n B (B i)
      all i l (yes e) = rw (e, ranks.at) raising.weight
      all i l (no e) = rw (ranks.other i e) (sound.heavy.all i l)

  pub raising_sound : Sound n p' r' B
  raising_sound =
      subst (λ q. Sound n q r' B) (sym (fun_ext raising_parents))
      (record { formed = raising_formed; labelled = sound.labelled; heavy = raising_heavy })
