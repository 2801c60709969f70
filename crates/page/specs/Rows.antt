-- Document 02, A1: each row has a group's lowest place, size, root and root's rank, rising by lowest place.
--
--   no_row                    what stands past the rows
--   group_row t i             the row of the group whose lowest place is i
--   group_rows t              the rows of the groups of the table t
use Rattle.std.specs.Prelude.{List, map, ℕ, length}
use Rattle.word.specs.declared.Node.{Node}
use Rattle.forest.specs.Groups.{size, lowest_places}
use Rattle.rules.specs.Table.{rank}
use Rattle.table.specs.Groups.{root_in}
use Rattle.page.specs.declared.Row.{Row}

abbrev pub no_row : Row
no_row = record { lowest = 0; size = 0; root = 0; rank = 0 }

abbrev pub group_row : List Node → ℕ → Row
group_row t i =
    record { lowest = i; size = size (length t) (root_in t) (root_in t i); root = root_in t i; rank = rank t (root_in t i) }

unfoldable pub group_rows : List Node → List Row
group_rows t = map (group_row t) (lowest_places (root_in t) (length t))
