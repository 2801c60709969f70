-- The enquiry on plain numbers: what the numbers and the array of its inner functions stand for. A find stands at `node`;
-- `other` is the enquiry's other node; `from_y` tells the find from y.
--
--   errand_of from_y               what the find is made for
--   head_at node other from_y s    the head of these numbers at stage s
--   looking node other from_y      the head that looks at the node
--   moving node other from_y w     the head that moves on from the node, whose word says w
--   Ready words node other used left   what looking at a node, and moving on from it, relies on
--   Lower words node word         what moving on relies on besides: the word was read of a node that is no root
--   packed answer used            the answer's number and the grants used as one number
--   told end                      what the caller is told of that number
--   ended end words               the result: that number, and the words of the array
use Rattle.std.specs.Prelude.{◌≡◌, ◌≢◌, Bool, true, false, List, map, ℕ, ◌+◌, ◌*◌, ◌/◌, ◌%◌, ◌≤◌, ◌<◌}
use Rattle.job.specs.declared.Answer.{Answer}
use Rattle.job.specs.Job.{answer_number, most_nodes}
use Rattle.word.specs.declared.Node.{Node}
use Rattle.word.specs.Word.{parent_of, decode}
use Rattle.process.specs.declared.Step.TheVariants.{ReadNode, ReadParent}
use Rattle.process.specs.declared.Errand.{Errand}
use Rattle.process.specs.declared.Errand.TheVariants.{SameX, SameY}
use Rattle.process.specs.declared.Stage.{Stage}
use Rattle.process.specs.declared.Stage.TheVariants.{Find}
use Rattle.process.specs.declared.Head.{Head}
use Rattle.process.specs.Process.{no_wait}
use Rattle.table.specs.Admitted.{word_at, Admitted}
use Rattle.query.specs.declared.Queried.{Queried}
use Rattle.query.specs.Query.{Result}

-- A find serves x or y.
abbrev pub errand_of : Bool → Errand
errand_of false = SameX
errand_of true = SameY

-- In the find from x, x is the node that it has come to; in the find from y, y is.
abbrev pub head_at : ℕ → ℕ → Bool → Stage → Head
head_at node other false s = record { stage = s; task = record { x = node; y = other; request = 0; waits = no_wait } }
head_at node other true s = record { stage = s; task = record { x = other; y = node; request = 0; waits = no_wait } }

-- Looking at a place: its word is read next.
abbrev pub looking : ℕ → ℕ → Bool → Head
looking node other from_y = head_at node other from_y (Find (errand_of from_y) ReadNode)

-- Moving on from it: its word was read, and its parent's word is read next.
abbrev pub moving : ℕ → ℕ → Bool → Node → Head
moving node other from_y w = head_at node other from_y (Find (errand_of from_y) (ReadParent w.rank w.parent))

-- The array has 4,096 words, all admitted.
pub record Ready (words : List ℕ) (node other used left : ℕ) : Type 0 where
  pub admitted : Admitted most_nodes (map decode words)
  pub inside : node < most_nodes
  pub within : other < most_nodes
  -- no more grants than the largest budget
  pub room : used + left ≤ 65535

pub record Lower (words : List ℕ) (node word : ℕ) : Type 0 where
  -- nobody else writes, so it is still the node's word
  pub read : word ≡ word_at words node
  pub lower : parent_of word ≢ node

-- Grants used are at most 65,535.
abbrev pub packed : Answer → ℕ → ℕ
packed answer used = answer_number answer * 65536 + used

-- Both are read of it again.
abbrev pub told : ℕ → Queried
told end = record { number = 0; answer = end / 65536; used = end % 65536 }

abbrev pub ended : ℕ → List ℕ → Result
ended end words = record { queried = told end; table = words }
