-- A table that a host lends: its refusals, which are 15 and 16 of document 01, and what they leave.
--
--   word_at words i      the word of node i
--   is_faulty words i    the word of node i cannot stand in a table
--   any_faulty words k   one of the first k words cannot
--   table_refusal words  the refusal's number, 0 for none
--   Admitted n t         a table t of n nodes that is not refused
use Rattle.std.specs.Prelude.{◌≡◌, ◌≢◌, Bool, true, false, cond, List, ℕ, zero, suc, ◌≤◌, ◌<◌, eqb, ltb, leb, length, get_or}
use Rattle.word.specs.declared.Node.{Node}
use Rattle.word.specs.Word.{rank_of, parent_of, before, key, most_rank}
use Rattle.job.specs.Job.{most_nodes}
use Rattle.rules.specs.Table.{parent, rank}

abbrev pub word_at : List ℕ → ℕ → ℕ
word_at words i = get_or words i 0

-- 16: a word has a parent not below the length, a rank above 12, or a parent other than itself that comes before it
-- (no node comes before itself).
abbrev pub is_faulty : List ℕ → ℕ → Bool
is_faulty words i =
    cond (leb (length words) (parent_of (word_at words i))) true
    (cond (ltb most_rank (rank_of (word_at words i))) true
    (before (rank_of (word_at words (parent_of (word_at words i)))) (parent_of (word_at words i)) (rank_of (word_at words i)) i))

abbrev pub any_faulty : List ℕ → ℕ → Bool
any_faulty words zero = false
any_faulty words (suc k) = cond (is_faulty words k) true (any_faulty words k)

-- 15: the table is empty or over 4,096. Checked before 16.
abbrev pub table_refusal : List ℕ → ℕ
table_refusal words =
    cond (eqb (length words) 0) 15
    (cond (ltb most_nodes (length words)) 15
    (cond (any_faulty words (length words)) 16 0))

pub record Admitted (n : ℕ) (t : List Node) : Type 0 where
  pub nodes : length t ≡ n
  pub few : n ≤ most_nodes
  -- every parent is below the length
  pub inside : (i : ℕ) → i < n → parent t i < n
  -- no rank is above 12
  pub ranks : (i : ℕ) → i < n → rank t i ≤ most_rank
  -- every parent that isn't the node itself comes after it
  pub rising : (i : ℕ) → i < n → parent t i ≢ i → key (rank t i) i < key (rank t (parent t i)) (parent t i)
