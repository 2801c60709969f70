-- Laws of words: the two round trips, what equal nodes are, and the order as one comparison of numbers.
--
--   rank_encode, parent_encode, decode_encode   what is read of a node's word is the node
--   encode_decode   what is encoded of a decoded word is the word
--   same_true       nodes that the test finds the same are equal
--   before_key      "comes before" is the order of keys
use mathlib.Core.Path.{◌≡◌, refl, ◌∙◌, sym}
use mathlib.Core.Bool.{Bool, true, false, cond}
use Prim.Native.Nat.{ℕ, ◌<◌}
use native.Mathlib.Omega.{arith}
use lib.Dec.{eqb, ltb}
use borrow.Author.Tests.{eqb-true, eqb-false, ltb-true, ltb-false, lt-ltb, le-ltb}
use Rattle.word.specs.declared.Node.{Node}
use Rattle.word.specs.Word.{rank_of, parent_of, decode, encode, same, before, key, rank_limit, node_limit}

module _ (n : Node) (r : n.rank < rank_limit) (p : n.parent < node_limit) where
  pub rank_encode : rank_of (encode n) ≡ n.rank
  unfolding rank_of encode
  rank_encode = omega arith

  pub parent_encode : parent_of (encode n) ≡ n.parent
  unfolding parent_of encode
  parent_encode = omega arith

  -- what is decoded of an encoded node is the node
  pub decode_encode : decode (encode n) ≡ n
  decode_encode = λ i. record { rank = rank_encode i; parent = parent_encode i }

-- what is encoded of a decoded word is the word
pub encode_decode : (w : ℕ) → rank_of w < rank_limit → parent_of w < node_limit → encode (decode w) ≡ w
unfolding rank_of parent_of encode
encode_decode w r p = omega arith

pub same_true : (a b : Node) → same a b ≡ true → a ≡ b
same_true a b e = go (eqb a.rank b.rank) refl e
  where
    go : (t : Bool) → eqb a.rank b.rank ≡ t → cond t (eqb a.parent b.parent) false ≡ true → a ≡ b
    go true r p = λ i. record { rank = eqb-true a.rank b.rank r i; parent = eqb-true a.parent b.parent p i }
    go false r p = let z : false ≡ true = p in let y : ◌≡◌ {A = ℕ} 0 1 = cc in absurd (omega arith)

-- the order of document 01 is the order of keys
pub before_key : (ra a rb b : ℕ) → a < node_limit → b < node_limit → before ra a rb b ≡ ltb (key ra a) (key rb b)
before_key ra a rb b ha hb = go (eqb ra rb) refl
  where
    by_number : ra ≡ rb → (t : Bool) → ltb a b ≡ t → ltb a b ≡ ltb (key ra a) (key rb b)
    by_number e true l = l ∙ sym (lt-ltb (key ra a) (key rb b) (omega (arith, ltb-true a b l)))
    by_number e false l = l ∙ sym (le-ltb (key ra a) (key rb b) (omega (arith, ltb-false a b l)))

    by_rank : (ra ≡ rb → ⊥) → (t : Bool) → ltb ra rb ≡ t → ltb ra rb ≡ ltb (key ra a) (key rb b)
    by_rank e true l = l ∙ sym (lt-ltb (key ra a) (key rb b) (omega (arith, ltb-true ra rb l)))
    by_rank e false l = l ∙ sym (le-ltb (key ra a) (key rb b) (omega (arith, ltb-false ra rb l)))

    go : (t : Bool) → eqb ra rb ≡ t → before ra a rb b ≡ ltb (key ra a) (key rb b)
    go true e = rw e (by_number (eqb-true ra rb e) (ltb a b) refl)
    go false e = rw e (by_rank (eqb-false ra rb e) (ltb ra rb) refl)
