-- What an access asks of the table, over the nodes that its words stand for.
--
--   Within n access       the access is to one of n nodes
--   Worded t              every node of the table t has a word
--   Touchable t access    the access may be made on the table t
use Rattle.std.specs.Prelude.{List, ℕ, ◌<◌, length}
use Rattle.word.specs.declared.Node.{Node}
use Rattle.word.specs.Word.{rank_limit, node_limit}
use Rattle.process.specs.declared.Access.{Access}
use Rattle.process.specs.declared.Access.TheVariants.{Idle, Load, Cas}
use Rattle.rules.specs.Table.{parent, rank}

abbrev pub Within : ℕ → Access → Type 0
Within n Idle = Unit {0}
Within n (Load i) = i < n
Within n (Cas i expected new) = i < n

pub record Worded (t : List Node) : Type 0 where
  pub rank : (i : ℕ) → i < length t → rank t i < rank_limit
  pub parent : (i : ℕ) → i < length t → parent t i < node_limit

pub record Touchable (t : List Node) (access : Access) : Type 0 where
  pub node : Within (length t) access
  pub worded : Worded t
