-- What an enquiry that is not refused promises beyond its steps: the sets stay, the answer is right, the budget is kept.
--
--   parents_of words             each node's parent, by its word
--   Faithful words x y budget    what holds of the result and of the words at exit
use Rattle.std.specs.Prelude.{◌≡◌, ◌≢◌, ◌↔◌, List, map, ℕ, ◌+◌, ◌*◌, ◌≤◌, ◌<◌, length}
use Rattle.word.specs.Word.{decode}
use Rattle.forest.specs.Forest.{Together}
use Rattle.rules.specs.Table.{parent}
use Rattle.query.specs.Query.{Result}

abbrev pub parents_of : List ℕ → ℕ → ℕ
parents_of words = parent (map decode words)

pub record Faithful (words : List ℕ) (x y budget : ℕ) (result : Result) : Type 0 where
  pub nodes : length result.table ≡ length words
  -- whatever the budget, two nodes share a set at exit exactly when they did
  pub sets : (i j : ℕ) → i < length words → j < length words → Together (parents_of words) i j ↔ Together (parents_of result.table) i j
  -- yes and no are right
  pub yes : result.queried.answer ≡ 3 → Together (parents_of words) x y
  pub no : result.queried.answer ≡ 4 → Together (parents_of words) x y → ⊥
  -- no more grants than the budget, and all of them when it is spent
  pub within : result.queried.used ≤ budget
  pub spent : result.queried.answer ≡ 0 → result.queried.used ≡ budget
  -- four grants a node, and three, are always enough
  pub enough : 4 * length words + 3 ≤ budget → result.queried.answer ≢ 0
