-- One access to a table of words: it is inside, it sees the rules' node, and leaves the words of the rules' table.
--
--   Sees words access found words'   the access sees the node found in the words, and leaves the words words'
--
-- Main laws: node_rank, a node that is read has a rank; swap_wrote and swap_failed, what a swap does.
use mathlib.Core.Path.{◌≡◌, sym, ap, ◌∙◌}
use mathlib.Core.Bool.{true, false}
use mathlib.Core.List.{List, map}
use Prim.Native.Nat.{ℕ, ◌<◌}
use native.Mathlib.Omega.{arith}
use lib.ListN.{length, get_or, set, length-map}
use Rattle.basics.proofs.Lists.{set_mapped}
use Rattle.word.specs.declared.Node.{Node}
use Rattle.word.specs.Word.{decode, encode, same, rank_of, rank_limit}
use Rattle.process.specs.declared.Access.{Access}
use Rattle.process.specs.declared.Access.TheVariants.{Cas}
use Rattle.rules.specs.Table.{at, seen, touched}
use Rattle.table.specs.Touch.{Worded, Touchable}
use Rattle.table.proofs.Words.{at_decoded, encode_words}

-- both clauses of the code's contracts
abbrev pub Sees : List ℕ → Access → Node → List ℕ → Type 0
Sees words access found words' = (found ≡ seen (map decode words) access) × (words' ≡ map encode (touched (map decode words) access))

module _ (words : List ℕ) (worded : Worded (map decode words)) (i : ℕ) (node : i < length (map decode words)) where
  pub node_inside : i < length words
  node_inside = omega (arith, node, length-map words decode)

  pub node_rank : rank_of (get_or words i 0) < rank_limit
  node_rank = omega (arith, ap (λ v. v.rank) (at_decoded words i node_inside), worded.rank i node)

  node_found : (found : Node) → found ≡ decode (get_or words i 0) → found ≡ at (map decode words) i
  node_found found read = read ∙ sym (at_decoded words i node_inside)

module _ (words : List ℕ) (i : ℕ) (expected new : Node) (able : Touchable (map decode words) (Cas i expected new))
    (found : Node) (read : found ≡ decode (get_or words i 0)) where
  swap_sees : found ≡ at (map decode words) i
  swap_sees = node_found words able.worded i able.node found read

  pub swap_wrote : same found expected ≡ true → (w : ℕ) → w ≡ encode new → Sees words (Cas i expected new) found (set words i w)
  swap_wrote e w written =
      let test : same (at (map decode words) i) expected ≡ true = ap (λ v. same v expected) (sym swap_sees) ∙ e in (
        swap_sees,
        rw (test, written)
            (ap (λ l. set l i (encode new)) (sym (encode_words words able.worded)) ∙ set_mapped encode (map decode words) i new),
      )

  pub swap_failed : same found expected ≡ false → Sees words (Cas i expected new) found words
  swap_failed e =
      let test : same (at (map decode words) i) expected ≡ false = ap (λ v. same v expected) (sym swap_sees) ∙ e in
      (swap_sees, rw test (sym (encode_words words able.worded)))
