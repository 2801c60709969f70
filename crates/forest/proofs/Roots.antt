-- How many roots a table has: all nodes where each is alone, one less with each link, the same after the other writes.
--
--   is_root p i   the test that counts: node i is its own parent
use mathlib.Core.Path.{◌≡◌, refl, sym, ap, ◌∙◌}
use mathlib.Core.Logic.{◌≢◌}
use mathlib.Core.Bool.{Bool}
use Prim.Native.Nat.{ℕ, suc}
use native.Mathlib.Decide.{ℕ_discrete}
use lib.Dec.{eqb}
use borrow.Author.Tests.{eq-eqb, ne_eqb}
use Rattle.basics.proofs.Counts.{count_all, count_same, count_less}
use Rattle.forest.specs.Forest.{root_count}
use Rattle.forest.proofs.Forest.{WellFormed}
use Rattle.forest.proofs.Sound.{Sound, Singletons}
use Rattle.forest.proofs.Writes.{Changed}
use Rattle.forest.proofs.Halving.{Halving, halving_root}
use Rattle.forest.proofs.Linking.{Linking, linking_other}
use Rattle.forest.proofs.Raising.{Raising, raising_parents}

abbrev is_root : (ℕ → ℕ) → ℕ → Bool
is_root p i = eqb (p i) i

pub singletons_roots : {n : ℕ} {p r B : ℕ → ℕ} → Singletons n p r B → root_count p n ≡ n
singletons_roots {n} {p} single = count_all (is_root p) n (λ i l. eq-eqb (p i) i (single.roots i l))

pub halving_roots : {n : ℕ} {p r B p' r' : ℕ → ℕ} {v k u : ℕ} → WellFormed n p r → Halving n p r B v k u → Changed p p' v u
    → Changed r r' v k → root_count p' n ≡ root_count p n
halving_roots {n} {p} {r} {B} {p'} {r'} {v} formed halving parents ranks =
    count_same (is_root p') (is_root p) n (λ i l. same i (ℕ_discrete i v))
  where
    no_root : p' v ≢ v
    no_root e = halving.lower (halving_root formed halving parents ranks v e)

    same : (i : ℕ) → Dec (i ≡ v) → is_root p' i ≡ is_root p i
    same i (yes e) = rw e (ne_eqb (p' v) v no_root ∙ sym (ne_eqb (p v) v halving.lower))
    same i (no e) = ap (λ q. eqb q i) (parents.other i e)

pub linking_roots : {n : ℕ} {p r B B' p' r' : ℕ → ℕ} {x k y : ℕ} → Sound n p r B → Linking n p r B B' x k y
    → Changed p p' x y → Changed r r' x k → suc (root_count p' n) ≡ root_count p n
linking_roots {n} {p} {r} {B} {B'} {p'} {r'} {x} sound linking parents ranks =
    count_less (is_root p) (is_root p') n x linking.node
    (eq-eqb (p x) x linking.root)
    (ne_eqb (p' x) x (λ e. linking_other sound linking parents ranks x e refl))
    (λ i d. ap (λ q. eqb q i) (sym (parents.other i d)))

pub raising_roots : {n : ℕ} {p r B p' r' : ℕ → ℕ} {y k : ℕ} → Sound n p r B → Raising n p r B y k → Changed p p' y y
    → Changed r r' y (suc k) → root_count p' n ≡ root_count p n
raising_roots {n} {p} {r} {B} {p'} sound raising parents ranks =
    count_same (is_root p') (is_root p) n (λ i l. ap (λ q. eqb q i) (raising_parents sound raising parents ranks i))
