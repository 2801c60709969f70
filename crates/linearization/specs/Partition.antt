-- Document 01, "Whole runs and the plain book": the sequential specification. It keeps the nodes in sets, as labels.
--
--   Labels             a label for each node; two nodes are in one set when their labels are equal
--   Operation          a request as the specification sees it: its kind and its two nodes
--   apart              each node alone
--   join B a b         the sets of a and b become one
--   reply_to k one     what it answers to an operation of kind k, by whether the two nodes are in one set
--   reply B o          what the specification answers to o
--   next_of k B a b    the labels after an operation of kind k on the nodes a and b
--   next B o           the labels after o
--   replay B os        the labels after the operations os, in their order
--   replies B os       what it answers to them
use Rattle.std.specs.Prelude.{Bool, true, false, cond, List, [], ◌∷◌, ℕ, eqb}
use Rattle.job.specs.declared.Kind.{Kind}
use Rattle.job.specs.declared.Kind.TheVariants.{Union, SameSet}
use Rattle.job.specs.declared.Answer.{Answer}
use Rattle.job.specs.declared.Answer.TheVariants.{Joined, Together, Yes, No}

-- A node is always in one set with itself, since it has one label.
abbrev pub Labels : Type 0
Labels = ℕ → ℕ

-- The specification is handed of each request only its kind and two nodes. It sees no answer, grant number or word.
pub record Operation : Type 0 where
  pub kind : Kind
  pub x : ℕ
  pub y : ℕ

-- At the start each node is alone.
abbrev pub apart : Labels
apart i = i

-- The two sets become one: what has a's label gets b's. Where a and b are in one set, nothing changes.
unfoldable pub join : Labels → ℕ → ℕ → Labels
join B a b i = cond (eqb (B i) (B a)) (B b) (B i)

-- Union, both nodes in one set: already together; otherwise joined. Same-set: yes if both are in one set, else no.
abbrev pub reply_to : Kind → Bool → Answer
reply_to Union true = Together
reply_to Union false = Joined
reply_to SameSet true = Yes
reply_to SameSet false = No

-- The answer to an operation: by its kind and by whether its two nodes are in one set.
unfoldable pub reply : Labels → Operation → Answer
reply B o = reply_to o.kind (eqb (B o.x) (B o.y))

-- A union makes the two sets one; a same-set changes nothing.
abbrev pub next_of : Kind → Labels → ℕ → ℕ → Labels
next_of Union B a b = join B a b
next_of SameSet B a b = B

-- The sets after an operation.
unfoldable pub next : Labels → Operation → Labels
next B o = next_of o.kind B o.x o.y

-- The specification is handed the operations in their order.
abbrev pub replay : Labels → List Operation → Labels
replay B [] = B
replay B (o ∷ os) = replay (next B o) os

-- Its answers, in the same order.
abbrev pub replies : Labels → List Operation → List Answer
replies B [] = []
replies B (o ∷ os) = reply B o ∷ replies (next B o) os
