-- Document 01, "Places, words, order": what a word says of its node, and which node comes before which.
--
--   rank_of w, parent_of w   the rank and the parent in the word w
--   decode w, encode n       from a word to its node and back
--   same a b                 the nodes a and b have the same rank and the same parent
--   before ra a rb b         node a of rank ra comes before node b of rank rb
--   key r i                  rank r and number i of a node as one number, in that order
--   rank_limit, node_limit   ranks and node numbers below these have a word
--   most_rank                the highest rank that a node of a table can have
use Rattle.std.specs.Prelude.{Bool, cond, false, ℕ, ◌+◌, ◌*◌, ◌/◌, ◌%◌, eqb, ltb}
use Rattle.word.specs.declared.Node.{Node}

-- The rank's byte of a word ends here; no rank of 4,096 places comes near.
abbrev pub rank_limit : ℕ
rank_limit = 256

-- The parent of a word is 16 bits.
abbrev pub node_limit : ℕ
node_limit = 65536

-- Ranks never exceed the whole part of the base-2 logarithm of the place count, which is at most 4,096.
abbrev pub most_rank : ℕ
most_rank = 12

-- A word is 32 bits: rank × 65,536 + parent.
unfoldable pub rank_of : ℕ → ℕ
rank_of w = w / 65536

-- The parent is the rest.
unfoldable pub parent_of : ℕ → ℕ
parent_of w = w % 65536

-- The word of a node.
unfoldable pub encode : Node → ℕ
encode n = n.rank * 65536 + n.parent

-- The node of a word.
abbrev pub decode : ℕ → Node
decode w = record { rank = rank_of w; parent = parent_of w }

-- A swap writes only if the word equals the expected one.
abbrev pub same : Node → Node → Bool
same a b = cond (eqb a.rank b.rank) (eqb a.parent b.parent) false

-- Place a comes before b when a's rank is lower, or the ranks are equal and a is the lower number.
abbrev pub before : ℕ → ℕ → ℕ → ℕ → Bool
before ra a rb b = cond (eqb ra rb) (ltb a b) (ltb ra rb)

-- The same order as one number: a comes before b when the key of a is less than the key of b.
abbrev pub key : ℕ → ℕ → ℕ
key r i = r * node_limit + i
