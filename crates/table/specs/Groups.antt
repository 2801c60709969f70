-- Document 02, A1: the groups of a table of nodes.
--
--   root_in t i   the root that place i of the table t leads to
use Rattle.std.specs.Prelude.{List, ℕ, suc, ◌*◌}
use Rattle.word.specs.declared.Node.{Node}
use Rattle.word.specs.Word.{node_limit, most_rank}
use Rattle.forest.specs.Groups.{root_within}
use Rattle.rules.specs.Table.{parent}

-- Rank and number rise along the parents of an admitted table, and there are no more of them than the walk has steps.
unfoldable pub root_in : List Node → ℕ → ℕ
root_in t i = root_within (suc most_rank * node_limit) (parent t) i
