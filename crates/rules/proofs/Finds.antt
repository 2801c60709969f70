-- A find by halving, whatever it is made for: what it knows at each step and what each of its grants does, over the order
-- of nodes and the labels alone. Everywhere p gives each node's parent, r its rank, B its label; the find is on node v.
--
--   Above v u            u is above v: in the same set, and v, no root, comes before it
--   Reading v k t        v's word, as read, has rank k and parent t
--   Swapping v k t u     and u was t's parent
--   FindKnows v s        what the find knows at step s
--   Moved v u            u is a node of v's set
--   Walks t' v w         what holds where the find goes the way w, on the table t'
--   Halved t t' v        the table is as it was, or v's word was swapped for one with a parent further up
--
-- Main laws: find_walks, where each grant of a find leads; find_halved, what it writes; find_later, what a find knows
-- survives any later state.
use mathlib.Core.Path.{◌≡◌, refl, sym, ◌∙◌}
use mathlib.Core.Logic.{◌≢◌}
use mathlib.Core.List.{List}
use Prim.Native.Nat.{ℕ, ◌<◌}
use native.Mathlib.Omega.{arith}
use native.Mathlib.Decide.{ℕ_discrete}
use lib.Dec.{eqb}
use lib.ListN.{length, set}
use borrow.Author.Tests.{eqb-true, eqb-false}
use Rattle.basics.proofs.Conditions.{split}
use Rattle.word.specs.declared.Node.{Node}
use Rattle.word.specs.Word.{key, same}
use Rattle.process.specs.declared.Step.{Step}
use Rattle.process.specs.declared.Step.TheVariants.{ReadNode, ReadParent, Halve, ReadAgain}
use Rattle.process.specs.Find.{Walked}
use Rattle.process.specs.Find.Walked.{On, Failed, Up, Ended}
use Rattle.process.specs.Find.{find_access, walked}
use Rattle.forest.proofs.Forest.{WellFormed, Labelled}
use Rattle.forest.proofs.Halving.{Halving}
use Rattle.forest.proofs.Later.{Later, later_before, halving_later}
use Rattle.rules.specs.Table.{at, parent, rank, seen, touched}
use Rattle.rules.proofs.Table.{parent_changed, rank_changed}

pub record Above (n : ℕ) (p r B : ℕ → ℕ) (v u : ℕ) : Type 0 where
  pub node : u < n
  pub lower : p v ≢ v
  pub same : B u ≡ B v
  pub before : key (r v) v < key (r u) u

-- About to read t's word.
pub record Reading (n : ℕ) (p r B : ℕ → ℕ) (v k t : ℕ) : Type 0 where
  pub parent : Above n p r B v t
  pub rank : r v ≡ k

-- About to swap v's parent from t to u.
pub record Swapping (n : ℕ) (p r B : ℕ → ℕ) (v k t u : ℕ) : Type 0 where
  pub parent : Above n p r B v t
  pub grandparent : Above n p r B v u
  pub rank : r v ≡ k

abbrev pub FindKnows : (n : ℕ) (p r B : ℕ → ℕ) (v : ℕ) → Step → Type 0
FindKnows n p r B v ReadNode = Unit {0}
FindKnows n p r B v (ReadParent k t) = Reading n p r B v k t
FindKnows n p r B v (Halve k t u) = Swapping n p r B v k t u
FindKnows n p r B v (ReadAgain t) = Above n p r B v t

pub record Moved (n : ℕ) (B : ℕ → ℕ) (v u : ℕ) : Type 0 where
  pub node : u < n
  pub same : B u ≡ B v

abbrev pub Walks : (n : ℕ) (t' : List Node) (B : ℕ → ℕ) (v : ℕ) → Walked → Type 0
Walks n t' B v (On s) = FindKnows n (parent t') (rank t') B v s
Walks n t' B v (Failed s) = FindKnows n (parent t') (rank t') B v s
Walks n t' B v (Up u) = Moved n B v u
Walks n t' B v Ended = parent t' v ≡ v

-- The table t with rank k and parent u in the word of node v.
abbrev pub stored : List Node → ℕ → ℕ → ℕ → List Node
stored t v k u = set t v (record { rank = k; parent = u })

pub data Halved (n : ℕ) (t t' : List Node) (B : ℕ → ℕ) (v : ℕ) : Type 0 where
  kept : t' ≡ t → Halved n t t' B v
  written : (k u : ℕ) → Halving n (parent t) (rank t) B v k u → t' ≡ stored t v k u → Halved n t t' B v

-- ---- nodes above a node

module _ {n : ℕ} {p r B : ℕ → ℕ} (formed : WellFormed n p r) (labelled : Labelled n p B) where
  pub own_parent : (v : ℕ) → v < n → p v ≢ v → Above n p r B v (p v)
  own_parent v node d = record { node = formed.inside v node; lower = d; same = labelled.along v node; before = formed.rising v node d }

  -- the parent of a node above v is above v, too
  pub above_parent : {v u : ℕ} → Above n p r B v u → Above n p r B v (p u)
  above_parent {v} {u} a = go (ℕ_discrete (p u) u)
    where
      go : Dec (p u ≡ u) → Above n p r B v (p u)
      go (yes e) = rw e a
      go (no d) =
          let on = own_parent u a.node d in
          record { node = on.node; lower = a.lower; same = on.same ∙ a.same; before = omega (arith, a.before, on.before) }

-- ---- what survives a later state

module _ {n : ℕ} {p r B p' r' B' : ℕ → ℕ} (later : Later n p r B p' r' B') {v : ℕ} (node : v < n) where
  above_later : {u : ℕ} → Above n p r B v u → Above n p' r' B' v u
  above_later {u} a =
      record {
        node = a.node;
        lower = λ e. a.lower (later.root v node e);
        same = later.merges u v a.node node a.same;
        before = later_before later v u node a.node a.lower a.before;
      }

  pub find_later : (s : Step) → FindKnows n p r B v s → FindKnows n p' r' B' v s
  find_later ReadNode a = a
  find_later (ReadParent k t) a =
      record { parent = above_later a.parent; rank = later.frozen v node a.parent.lower ∙ a.rank }
  find_later (Halve k t u) a =
      record {
        parent = above_later a.parent;
        grandparent = above_later a.grandparent;
        rank = later.frozen v node a.parent.lower ∙ a.rank;
      }
  find_later (ReadAgain t) a = above_later a

-- ---- one grant

module _ {n : ℕ} (t : List Node) {B : ℕ → ℕ} (nodes : length t ≡ n) (formed : WellFormed n (parent t) (rank t))
    (labelled : Labelled n (parent t) B) {v : ℕ} (node : v < n) where
  -- ---- the swap

  module _ (k u w : ℕ) (a : Swapping n (parent t) (rank t) B v k u w) where
    pub may_halve : Halving n (parent t) (rank t) B v k w
    may_halve =
        record {
          node = node;
          target = a.grandparent.node;
          lower = a.parent.lower;
          rank = sym a.rank;
          same = a.grandparent.same;
          before = a.grandparent.before;
        }

    -- written or not, t's word is read again
    swap_walks : Walks n (touched t (find_access v (Halve k u w))) B v (walked v (at t v) (Halve k u w))
    swap_walks =
        let parents = parent_changed t v (record { rank = k; parent = w }) (omega (arith, nodes, node)) in
        let ranks = rank_changed t v (record { rank = k; parent = w }) (omega (arith, nodes, node)) in
        split (same (at t v) (record { rank = k; parent = u }))
        (λ e. rw e (find_later (halving_later formed may_halve parents ranks) node (ReadAgain u) a.parent))
        (λ e. rw e a.parent)

    swap_halved : Halved n t (touched t (find_access v (Halve k u w))) B v
    swap_halved =
        split (same (at t v) (record { rank = k; parent = u }))
        (λ e. rw e (written k w may_halve refl))
        (λ e. rw e (kept refl))

  -- ---- every step

  node_walks : Walks n t B v (walked v (at t v) ReadNode)
  node_walks =
      split (eqb (parent t v) v)
      (λ e. rw e (eqb-true (parent t v) v e))
      (λ e. rw e (record { parent = own_parent formed labelled v node (eqb-false (parent t v) v e); rank = refl }))

  pub find_walks : (s : Step) → FindKnows n (parent t) (rank t) B v s
      → Walks n (touched t (find_access v s)) B v (walked v (seen t (find_access v s)) s)
  find_walks ReadNode a = node_walks
  find_walks (ReadParent k u) a =
      record { parent = a.parent; grandparent = above_parent formed labelled a.parent; rank = a.rank }
  find_walks (Halve k u w) a = swap_walks k u w a
  find_walks (ReadAgain u) a = record { node = formed.inside u a.node; same = labelled.along u a.node ∙ a.same }

  pub find_halved : (s : Step) → FindKnows n (parent t) (rank t) B v s → Halved n t (touched t (find_access v s)) B v
  find_halved ReadNode a = kept refl
  find_halved (ReadParent k u) a = kept refl
  find_halved (Halve k u w) a = swap_halved k u w a
  find_halved (ReadAgain u) a = kept refl
