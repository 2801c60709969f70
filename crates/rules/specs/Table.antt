-- Document 01, "Places, words, order" and "One grant, one word": the table as a list of nodes, and one access to it.
--
--   at t i, parent t i, rank t i   the node i of the table t, its parent and its rank
--   no_node                        what stands past the table's end
--   fresh_from i n                 n places from number i on, each its own parent
--   fresh n                        the table at the start
--   seen t a                       the word that the access a sees
--   touched t a                    the table after the access a
use Rattle.std.specs.Prelude.{cond, List, [], ◌∷◌, ℕ, zero, suc, get_or, set}
use Rattle.word.specs.declared.Node.{Node}
use Rattle.word.specs.Word.{same}
use Rattle.process.specs.declared.Access.{Access}
use Rattle.process.specs.declared.Access.TheVariants.{Idle, Load, Cas}

-- What stands past the table's end.
abbrev pub no_node : Node
no_node = record { rank = 0; parent = 0 }

-- The node of a place: its rank and its parent.
abbrev pub at : List Node → ℕ → Node
at t i = get_or t i no_node

-- A place is a root when it is its own parent.
abbrev pub parent : List Node → ℕ → ℕ
parent t i = (at t i).parent

-- The rank in its word.
abbrev pub rank : List Node → ℕ → ℕ
rank t i = (at t i).rank

-- At the start each place is its own parent, rank 0.
abbrev pub fresh_from : ℕ → ℕ → List Node
fresh_from i zero = []
fresh_from i (suc n) = record { rank = 0; parent = i } ∷ fresh_from (suc i) n

-- The table of n places at the start.
abbrev pub fresh : ℕ → List Node
fresh n = fresh_from 0 n

-- A grant lets one head read one word or make one swap; a swap, too, sees the word that stands there.
abbrev pub seen : List Node → Access → Node
seen t Idle = no_node
seen t (Load i) = at t i
seen t (Cas i expected new) = at t i

-- A swap writes only if the word equals the expected one.
abbrev pub touched : List Node → Access → List Node
touched t Idle = t
touched t (Load i) = t
touched t (Cas i expected new) = cond (same (at t i) expected) (set t i new) t
