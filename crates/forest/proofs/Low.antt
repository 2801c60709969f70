-- How far up a node stands: the nodes that are no roots and come before it. A node that is no root stays so with its rank, so
-- that they only become more, and there are always fewer than nodes. Everywhere p gives each node's parent and r its rank.
--
--   is_low p r b i     node i is no root, and its key is below b
--   low n p r b        how many of n nodes are so
--   beneath n p r v    how many of n nodes are no roots and come before v
--   reached n p r v    the same, and v itself where it is none
--
-- Main laws: low_few, they are fewer than the nodes; beneath_later and reached_later, they only become more;
-- reached_root, reached_lower and reached_before, what v itself adds, and where a node after v stands.
use mathlib.Core.Path.{◌≡◌, refl, ap, sym, ◌∙◌}
use mathlib.Core.Logic.{◌≢◌}
use mathlib.Core.Bool.{Bool, true, false, cond, true≢false}
use Prim.Native.Nat.{ℕ, suc, ◌≤◌, ◌<◌}
use native.Mathlib.Omega.{arith}
use lib.Dec.{eqb, ltb}
use borrow.Author.Tests.{eqb-false, eq-eqb, ne_eqb, ltb-true, lt-ltb, le-ltb}
use Rattle.basics.specs.Count.{count}
use Rattle.basics.proofs.Conditions.{split}
use Rattle.basics.proofs.Counts.{count_all, count_mono, count_strict}
use Rattle.word.specs.Word.{key}
use Rattle.forest.proofs.Forest.{WellFormed, leads_exists, leads_inside, leads_root}
use Rattle.forest.proofs.Later.{Later}

abbrev pub is_low : (ℕ → ℕ) → (ℕ → ℕ) → ℕ → ℕ → Bool
is_low p r b i = cond (eqb (p i) i) false (ltb (key (r i) i) b)

unfoldable pub low : ℕ → (ℕ → ℕ) → (ℕ → ℕ) → ℕ → ℕ
low n p r b = count (is_low p r b) n

abbrev pub beneath : ℕ → (ℕ → ℕ) → (ℕ → ℕ) → ℕ → ℕ
beneath n p r v = low n p r (key (r v) v)

abbrev pub reached : ℕ → (ℕ → ℕ) → (ℕ → ℕ) → ℕ → ℕ
reached n p r v = low n p r (suc (key (r v) v))

-- ---- one node

record Low (p r : ℕ → ℕ) (b i : ℕ) : Type 0 where
  lower : p i ≢ i
  before : key (r i) i < b

module _ (p r : ℕ → ℕ) (b i : ℕ) where
  low_test : Low p r b i → is_low p r b i ≡ true
  low_test is = rw (ne_eqb (p i) i is.lower) (lt-ltb (key (r i) i) b is.before)

  test_low : is_low p r b i ≡ true → Low p r b i
  test_low t =
      split (eqb (p i) i)
      (λ e. absurd (true≢false (sym t ∙ rw e)))
      (λ e. record { lower = eqb-false (p i) i e; before = ltb-true (key (r i) i) b (rw e at t) })

  root_test : p i ≡ i → is_low p r b i ≡ false
  root_test e = rw (eq-eqb (p i) i e)

-- ---- a later state, and a higher bound

pub low_later : {n : ℕ} {p r B p' r' B' : ℕ → ℕ} → Later n p r B p' r' B' → (b b' : ℕ) → b ≤ b' → low n p r b ≤ low n p' r' b'
unfolding low
low_later {n} {p} {r} {B} {p'} {r'} later b b' l =
    count_mono (is_low p r b) (is_low p' r' b') n
    (λ i k t.
    let is = test_low p r b i t in
    low_test p' r' b' i (record {
      lower = λ root. is.lower (later.root i k root);
      before = omega (arith, later.frozen i k is.lower, is.before);
    }))

module _ {n : ℕ} {p r B p' r' B' : ℕ → ℕ} (later : Later n p r B p' r' B') (v : ℕ) (node : v < n) where
  pub beneath_later : beneath n p r v ≤ beneath n p' r' v
  beneath_later = low_later later (key (r v) v) (key (r' v) v) (omega (arith, later.grows v node))

  pub reached_later : reached n p r v ≤ reached n p' r' v
  reached_later = low_later later (suc (key (r v) v)) (suc (key (r' v) v)) (omega (arith, later.grows v node))

-- ---- at one moment

module _ (n : ℕ) (p r : ℕ → ℕ) where
  low_grows : (b b' : ℕ) → b ≤ b' → low n p r b ≤ low n p r b'
  unfolding low
  low_grows b b' l =
      count_mono (is_low p r b) (is_low p r b') n
      (λ i k t.
      let is = test_low p r b i t in
      low_test p r b' i (record { lower = is.lower; before = omega (arith, is.before) }))

  pub beneath_reached : (v : ℕ) → beneath n p r v ≤ reached n p r v
  beneath_reached v = low_grows (key (r v) v) (suc (key (r v) v)) (omega arith)

  -- a node that comes after v has v and all before it beneath it
  pub reached_before : (v u : ℕ) → key (r v) v < key (r u) u → reached n p r v ≤ beneath n p r u
  reached_before v u before = low_grows (suc (key (r v) v)) (key (r u) u) before

  -- v itself counts where it is no root
  pub reached_lower : (v : ℕ) → v < n → p v ≢ v → beneath n p r v < reached n p r v
  unfolding low
  reached_lower v node lower =
      let own = key (r v) v in
      count_strict (is_low p r own) (is_low p r (suc own)) n v node
      (rw (ne_eqb (p v) v lower) (le-ltb own own (omega arith)))
      (low_test p r (suc own) v (record { lower = lower; before = omega arith }))
      (λ i l t.
      let is = test_low p r own i t in
      low_test p r (suc own) i (record { lower = is.lower; before = omega (arith, is.before) }))

module _ {n : ℕ} {p r : ℕ → ℕ} (formed : WellFormed n p r) where
  -- and not where it is one
  pub reached_root : (v : ℕ) → v < n → p v ≡ v → reached n p r v ≤ beneath n p r v
  unfolding low
  reached_root v node root =
      let own = key (r v) v in
      count_mono (is_low p r (suc own)) (is_low p r own) n
      (λ i l t.
      let is = test_low p r (suc own) i t in
      let other : i ≢ v = λ e. is.lower (ap p e ∙ root ∙ sym e) in
      low_test p r own i (record { lower = is.lower; before = omega (arith, is.before, other, formed.limit) }))

  -- there is a root, so that fewer than all are none
  pub low_few : (x : ℕ) → x < n → (b : ℕ) → low n p r b < n
  unfolding low
  low_few x node b =
      let top = leads_exists formed x node in
      let all : ℕ → Bool = λ i. true in
      omega (
        arith,
        count_strict (is_low p r b) all n top.end (leads_inside formed top.path node)
            (root_test p r b top.end (leads_root top.path)) refl (λ i l t. refl),
        count_all all n (λ i l. refl),
      )
