-- Document 01, "Places, words, order" and "Whole runs and the plain book": what a run starts from.
--
--   Start          a table, the groups that it shows, as labels, and how many they are
--   fresh_start n  the start of n places, each alone
--   Initial n s    a run over n places may start from s
use Rattle.std.specs.Prelude.{List, ℕ}
use Rattle.word.specs.declared.Node.{Node}
use Rattle.linearization.specs.Partition.{Labels, apart}
use Rattle.rules.specs.Table.{fresh}

-- The book starts with the groups that the table shows.
pub record Start : Type 0 where
  pub table : List Node
  pub labels : Labels
  pub groups : ℕ

-- At the start each place is its own parent, rank 0, and each place is alone.
abbrev pub fresh_start : ℕ → Start
fresh_start n = record { table = fresh n; labels = apart; groups = n }

-- Every start that a run may have.
pub data Initial (n : ℕ) : Start → Type 0 where
  alone : Initial n (fresh_start n)
