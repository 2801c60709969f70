-- A table that is one chain: each node's parent is the next node, and the last node is the root; all ranks are 0.
--
--   below k ws    the words ws with each of the first k nodes below the next
--   linked n ws   a chain of n nodes in place of the first n words
use Rattle.std.specs.Prelude.{List, ℕ, zero, suc, ◌-◌, set}

abbrev pub below : ℕ → List ℕ → List ℕ
below zero ws = ws
below (suc k) ws = below k (set ws k (suc k))

abbrev pub linked : ℕ → List ℕ → List ℕ
linked n ws = below (n - 1) (set ws (n - 1) (n - 1))
