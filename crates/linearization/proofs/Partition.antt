-- Laws of the sequential specification: what it answers, and when an operation changes no label.
--
--   Joining B o    the operation o is a union of two sets of B
--   Unjoined B o   the operation o leaves the labels B as they are
--
-- Main laws: reply_together and reply_apart, the answer by whether the two nodes share a set; reply_joined, joined is told
-- to a union of two sets and to nothing else; next_union, next_same_set and next_together, the labels after an operation.
use mathlib.Core.Path.{◌≡◌, refl, sym, ap, ◌∙◌, fun_ext}
use mathlib.Core.Logic.{◌≢◌}
use mathlib.Core.Bool.{Bool, true, false}
use Prim.Native.Nat.{ℕ}
use native.Mathlib.Omega.{arith}
use lib.Dec.{eqb}
use borrow.Author.Tests.{eqb-true, eqb-false, eq-eqb, ne_eqb}
use Rattle.basics.proofs.Conditions.{split}
use Rattle.job.specs.declared.Kind.{Kind}
use Rattle.job.specs.declared.Kind.TheVariants.{Union, SameSet}
use Rattle.job.specs.declared.Answer.TheVariants.{Joined}
use Rattle.linearization.specs.Partition.{Labels, Operation, join, reply_to, reply, next_of, next}

pub reply_together : (B : Labels) (o : Operation) → B o.x ≡ B o.y → reply B o ≡ reply_to o.kind true
unfolding reply
reply_together B o e = ap (reply_to o.kind) (eq-eqb (B o.x) (B o.y) e)

pub reply_apart : (B : Labels) (o : Operation) → B o.x ≢ B o.y → reply B o ≡ reply_to o.kind false
unfolding reply
reply_apart B o d = ap (reply_to o.kind) (ne_eqb (B o.x) (B o.y) d)

pub record Joining (B : Labels) (o : Operation) : Type 0 where
  pub union : o.kind ≡ Union
  pub distinct : B o.x ≢ B o.y

pub reply_joined : (B : Labels) (o : Operation) → reply B o ≡ Joined → Joining B o
unfolding reply
reply_joined B o told = go o.kind refl (eqb (B o.x) (B o.y)) refl told
  where
    go : (k : Kind) → o.kind ≡ k → (t : Bool) → eqb (B o.x) (B o.y) ≡ t → reply_to k t ≡ Joined → Joining B o
    go Union k false t told = record { union = k; distinct = eqb-false (B o.x) (B o.y) t }
    go Union k true t told = let never : ◌≡◌ {A = ℕ} 0 1 = cc in absurd (omega arith)
    go SameSet k true t told = let never : ◌≡◌ {A = ℕ} 0 1 = cc in absurd (omega arith)
    go SameSet k false t told = let never : ◌≡◌ {A = ℕ} 0 1 = cc in absurd (omega arith)

module _ (B : Labels) (a b : ℕ) where
  -- what shared a's set gets b's label
  pub join_moved : (i : ℕ) → B i ≡ B a → join B a b i ≡ B b
  unfolding join
  join_moved i e = rw (eq-eqb (B i) (B a) e)

  -- and nothing else changes
  pub join_other : (i : ℕ) → B i ≢ B a → join B a b i ≡ B i
  unfolding join
  join_other i d = rw (ne_eqb (B i) (B a) d)

  -- a join of two nodes that share a set changes nothing
  pub join_together : B a ≡ B b → join B a b ≡ B
  join_together e =
      fun_ext
      (λ i.
      split (eqb (B i) (B a)) (λ t. join_moved i (eqb-true (B i) (B a) t) ∙ sym (eqb-true (B i) (B a) t ∙ e))
      (λ t. join_other i (eqb-false (B i) (B a) t)))

abbrev pub Unjoined : Labels → Operation → Type 0
Unjoined B o = next B o ≡ B

pub next_same_set : (B : Labels) (o : Operation) → o.kind ≡ SameSet → next B o ≡ B
unfolding next
next_same_set B o k = ap (λ kind. next_of kind B o.x o.y) k

pub next_union : (B : Labels) (o : Operation) → o.kind ≡ Union → next B o ≡ join B o.x o.y
unfolding next
next_union B o k = ap (λ kind. next_of kind B o.x o.y) k

-- an operation on two nodes that share a set changes nothing
pub next_together : (B : Labels) (o : Operation) → B o.x ≡ B o.y → Unjoined B o
next_together B o e = go o.kind refl
  where
    go : (k : Kind) → o.kind ≡ k → Unjoined B o
    go Union k = next_union B o k ∙ join_together B o.x o.y e
    go SameSet k = next_same_set B o k
