-- A table as words and as nodes: from one to the other and back, and one word read or written.
--
-- Main laws: decode_words and encode_words, the two round trips.
use mathlib.Core.Path.{◌≡◌, refl, ap}
use mathlib.Core.List.{List, [], ◌∷◌, map}
use Prim.Native.Nat.{ℕ, suc, ◌<◌}
use native.Mathlib.Omega.{arith}
use lib.ListN.{length}
use Rattle.basics.proofs.Lists.{get_or_mapped}
use Rattle.word.specs.declared.Node.{Node}
use Rattle.word.specs.Word.{rank_of, parent_of, decode, encode}
use Rattle.word.proofs.Laws.{decode_encode, encode_decode}
use Rattle.rules.specs.Table.{no_node, at, parent, rank}
use Rattle.table.specs.Admitted.{word_at}
use Rattle.table.specs.Touch.{Worded}

-- the node of a word that is read
module _ (words : List ℕ) (i : ℕ) (inside : i < length words) where
  pub at_decoded : at (map decode words) i ≡ decode (word_at words i)
  at_decoded = get_or_mapped decode words i 0 no_node inside

  pub parent_decoded : parent (map decode words) i ≡ parent_of (word_at words i)
  parent_decoded = ap (λ v. v.parent) at_decoded

  pub rank_decoded : rank (map decode words) i ≡ rank_of (word_at words i)
  rank_decoded = ap (λ v. v.rank) at_decoded

worded_tail : (v : Node) (t : List Node) → Worded (v ∷ t) → Worded t
worded_tail v t w = record { rank = λ i l. w.rank (suc i) (omega arith); parent = λ i l. w.parent (suc i) (omega arith) }

pub decode_words : (t : List Node) → Worded t → map decode (map encode t) ≡ t
decode_words [] w = refl
decode_words (v ∷ t) w =
    let first : decode (encode v) ≡ v = decode_encode v (w.rank 0 (omega arith)) (w.parent 0 (omega arith)) in
    let others : map decode (map encode t) ≡ t = decode_words t (worded_tail v t w) in
    λ i. first i ∷ others i

pub encode_words : (words : List ℕ) → Worded (map decode words) → map encode (map decode words) ≡ words
encode_words [] w = refl
encode_words (word ∷ words) w =
    let first : encode (decode word) ≡ word = encode_decode word (w.rank 0 (omega arith)) (w.parent 0 (omega arith)) in
    let others : map encode (map decode words) ≡ words = encode_words words (worded_tail (decode word) (map decode words) w) in
    λ i. first i ∷ others i

-- What `stepped` is shown by.
pub ruleset round_trip = (encode_words)
