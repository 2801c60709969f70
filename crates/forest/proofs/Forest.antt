-- Labelled forests: how the parents of a table and the labels of the sequential specification belong together.
-- Everywhere p gives each node's parent, r its rank, B its label, and n is the number of nodes.
--
--   WellFormed n p r   parents are nodes, and a parent other than the node itself comes after it
--   Labelled n p B     labels agree along parents and tell roots apart
--   Rooted p x         x leads to some root
--
-- Main law: together_iff_label, two nodes share a set in the table exactly when their labels are equal.
use mathlib.Core.Path.{◌≡◌, refl, sym, ap, ◌∙◌}
use mathlib.Core.Logic.{◌≢◌, ◌↔◌}
use Prim.Native.Nat.{ℕ, zero, suc, ◌+◌, ◌*◌, ◌≤◌, ◌<◌}
use native.Mathlib.Omega.{arith}
use native.Mathlib.Decide.{ℕ_discrete}
use Rattle.basics.specs.Sum.{sum_to}
use Rattle.basics.proofs.Sums.{sum_to_le}
use Rattle.word.specs.Word.{key, node_limit}
use Rattle.forest.specs.Forest.{Leads, root, up, Together}

pub record WellFormed (n : ℕ) (p r : ℕ → ℕ) : Type 0 where
  -- every node number has a word
  pub limit : n ≤ node_limit
  -- a node's parent is a node
  pub inside : (i : ℕ) → i < n → p i < n
  -- every parent that isn't the node itself comes after it
  pub rising : (i : ℕ) → i < n → p i ≢ i → key (r i) i < key (r (p i)) (p i)

pub record Labelled (n : ℕ) (p B : ℕ → ℕ) : Type 0 where
  -- a node has its parent's label
  pub along : (i : ℕ) → i < n → B (p i) ≡ B i
  -- two roots with one label are one
  pub apart : (i j : ℕ) → i < n → j < n → p i ≡ i → p j ≡ j → B i ≡ B j → i ≡ j

pub record Rooted (p : ℕ → ℕ) (x : ℕ) : Type 0 where
  pub end : ℕ
  pub path : Leads p x end

-- The way to a root, whatever the order and the labels.

pub leads_root : {p : ℕ → ℕ} {x z : ℕ} → Leads p x z → p z ≡ z
leads_root (root x e) = e
leads_root (up x z d way) = leads_root way

pub leads_unique : {p : ℕ → ℕ} {x y z : ℕ} → Leads p x y → Leads p x z → y ≡ z
leads_unique (root _ e) (root _ f) = refl
leads_unique (root _ e) (up _ _ d way) = absurd (d e)
leads_unique (up _ _ d way) (root _ e) = absurd (d e)
leads_unique (up _ _ d way) (up _ _ c other) = leads_unique way other

-- Keys rise along parents and are bounded, so that every way ends.

module _ {n : ℕ} {p r : ℕ → ℕ} (formed : WellFormed n p r) where
  pub leads_inside : {x z : ℕ} → Leads p x z → x < n → z < n
  leads_inside (root x e) l = l
  leads_inside (up x z d way) l = leads_inside way (formed.inside x l)

  pub leads_key : {x z : ℕ} → Leads p x z → x < n → key (r x) x ≤ key (r z) z
  leads_key (root x e) l = omega arith
  leads_key (up x z d way) l = omega (arith, formed.rising x l d, leads_key way (formed.inside x l))

  leads_within : (fuel x : ℕ) → x < n → suc (sum_to r n) * node_limit ≤ key (r x) x + fuel → Rooted p x
  leads_within zero x l b = absurd (omega (arith, sum_to_le r n x l, formed.limit))
  leads_within (suc fuel) x l b = go (ℕ_discrete (p x) x) (λ y k. leads_within fuel y k)
    where
      go : Dec (p x ≡ x) → ((y : ℕ) → y < n → suc (sum_to r n) * node_limit ≤ key (r y) y + fuel → Rooted p y)
          → Rooted p x
      go (yes e) on = record { end = x; path = root x e }
      go (no d) on =
          let rest = on (p x) (formed.inside x l) (omega (arith, formed.rising x l d)) in
          record { end = rest.end; path = up x rest.end d rest.path }

  pub leads_exists : (x : ℕ) → x < n → Rooted p x
  leads_exists x l = leads_within (suc (sum_to r n) * node_limit) x l (omega arith)

  module _ {B : ℕ → ℕ} (labelled : Labelled n p B) where
    pub leads_label : {x z : ℕ} → Leads p x z → x < n → B z ≡ B x
    leads_label (root x e) l = refl
    leads_label (up x z d way) l = leads_label way (formed.inside x l) ∙ labelled.along x l

    pub together_label : (x y : ℕ) → x < n → y < n → Together p x y → B x ≡ B y
    together_label x y lx ly t = sym (leads_label t.left lx) ∙ leads_label t.right ly

    -- nodes with one label lead to one root
    pub leads_one : {x y a b : ℕ} → x < n → y < n → Leads p x a → Leads p y b → B x ≡ B y → a ≡ b
    leads_one {x} {y} {a} {b} lx ly left right e =
        labelled.apart a b (leads_inside left lx) (leads_inside right ly) (leads_root left) (leads_root right)
        (leads_label left lx ∙ e ∙ sym (leads_label right ly))

    pub label_together : (x y : ℕ) → x < n → y < n → B x ≡ B y → Together p x y
    label_together x y lx ly e =
        let from-x = leads_exists x lx in
        let from-y = leads_exists y ly in
        let one : from-y.end ≡ from-x.end = leads_one ly lx from-y.path from-x.path (sym e) in
        record { root = from-x.end; left = from-x.path; right = rw one at from-y.path }

    pub together_iff_label : (x y : ℕ) → x < n → y < n → Together p x y ↔ (B x ≡ B y)
    together_iff_label x y lx ly = (together_label x y lx ly, label_together x y lx ly)

    -- a root that comes before another node is in another set: keys rise from that node to its root
    pub before_apart : (x y : ℕ) → x < n → y < n → p x ≡ x → key (r x) x < key (r y) y → B x ≢ B y
    before_apart x y lx ly e before same =
        let from-y = leads_exists y ly in
        let one : from-y.end ≡ x = leads_one ly lx from-y.path (root x e) (sym same) in
        absurd (omega (arith, leads_key from-y.path ly, ap r one))
