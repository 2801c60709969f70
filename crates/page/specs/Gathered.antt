-- What the code gathers of a table: the groups that its first places make.
--
--   no_group           what stands past the groups
--   group_of t i       the group whose lowest place is i
--   Gathered t n found   the groups of the first n places of the table t
use Rattle.std.specs.Prelude.{◌≡◌, List, map, ℕ, ◌<◌, length, get_or, take}
use Rattle.word.specs.declared.Node.{Node}
use Rattle.job.specs.Job.{most_nodes}
use Rattle.forest.specs.Groups.{size, lowest_places}
use Rattle.table.specs.Groups.{root_in}
use Rattle.page.specs.declared.groups.Group.{Group}
use Rattle.page.specs.declared.groups.Groups.{Groups}

abbrev pub no_group : Group
no_group = record { lowest = 0; root = 0 }

abbrev pub group_of : List Node → ℕ → Group
group_of t i = record { lowest = i; root = root_in t i }

pub record Gathered (t : List Node) (n : ℕ) (found : Groups) : Type 0 where
  -- a group for each lowest place
  pub groups : take found.count found.groups ≡ map (group_of t) (lowest_places (root_in t) n)
  pub count : found.count ≡ length (lowest_places (root_in t) n)
  -- and for each node how many places lead to it
  pub size : (r : ℕ) → r < most_nodes → get_or found.size r 0 ≡ size n (root_in t) r
