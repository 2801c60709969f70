-- Document 01, "Places, words, order" and "Whole runs and the plain book": roots and groups of a table, told by its
-- parents alone: p i is the parent of node i.
--
--   root_count p n  how many nodes below n are roots
--   Leads p x r     following parents from x ends at the root r
--   Together p x y  x and y share a set
use Rattle.std.specs.Prelude.{◌≡◌, ◌≢◌, ℕ, eqb}
use Rattle.basics.specs.Count.{count}

-- A place is a root when it is its own parent. Roots plus successful links equal the place count.
abbrev pub root_count : (ℕ → ℕ) → ℕ → ℕ
root_count p n = count (λ i. eqb (p i) i) n

-- Following parents from x leads to the root r.
pub data Leads (p : ℕ → ℕ) : ℕ → ℕ → Type 0 where
  -- x is a root: the way ends with it
  root : (x : ℕ) → p x ≡ x → Leads p x x
  -- x is none: the way goes on from its parent
  up : (x r : ℕ) → p x ≢ x → Leads p (p x) r → Leads p x r

-- Two places share a group in the table when following parents leads from both to the same root.
pub record Together (p : ℕ → ℕ) (x y : ℕ) : Type 0 where
  pub root : ℕ
  pub left : Leads p x root
  pub right : Leads p y root
