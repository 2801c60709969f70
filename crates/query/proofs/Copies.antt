-- The enquiry's own array: what fills it.
--
--   roots i                      the words of the array from place i on, each a root's
--   padded words                 the array at the start: the table's words, and past them roots
--
-- Main laws: padding_on and padding_done, one root more, and all of them; filled, what a copy and the roots make of the array.
use mathlib.Core.Path.{◌≡◌, sym, ap, ◌∙◌}
use mathlib.Core.List.{List, [], ◌∷◌, ◌++◌, map, append-nil}
use Prim.Native.Nat.{ℕ, suc, ◌+◌, ◌-◌, ◌≤◌, ◌<◌}
use native.Mathlib.Nat.{zero-add}
use native.Mathlib.Omega.{arith}
use lib.ListN.{length, set, drop, length-map, length-append}
use lib.Seq.{sets, sets-eq, drop-length}
use Rattle.word.specs.Word.{encode}
use Rattle.job.specs.Job.{most_nodes}
use Rattle.rules.specs.Table.{fresh_from}
use Rattle.rules.proofs.Table.{length_fresh}

abbrev pub roots : ℕ → List ℕ
roots i = map encode (fresh_from i (most_nodes - i))

-- The array has room for the longest table. No step from a node of the table leads to one past it.
abbrev pub padded : List ℕ → List ℕ
padded words = words ++ roots (length words)

-- ---- the loops

-- the word of a root is its number
root_word : (i : ℕ) → encode (record { rank = 0; parent = i }) ≡ i
unfolding encode
root_word i = omega arith

-- one root more: what is left to write of the loop leaves what the whole of it does
pub padding_on : (now : List ℕ) (i : ℕ) → i < most_nodes → sets now i (roots i) ≡ sets (set now i i) (i + 1) (roots (i + 1))
padding_on now i l =
    let more : most_nodes - i ≡ suc (most_nodes - (i + 1)) = omega arith in
    let next : suc i ≡ i + 1 = omega arith in
    ap (sets now i)
    (ap (λ k. map encode (fresh_from i k)) more
    ∙ ap (λ k. encode (record { rank = 0; parent = i }) ∷ map encode (fresh_from k (most_nodes - (i + 1)))) next
    ∙ ap (λ w. w ∷ roots (i + 1)) (root_word i))
    ∙ ap (λ k. sets (set now i i) k (roots (i + 1))) next

-- no root is left to write
pub padding_done : (now : List ℕ) (i : ℕ) → most_nodes ≤ i → now ≡ sets now i (roots i)
padding_done now i l =
    let none : most_nodes - i ≡ 0 = omega arith in
    ap (λ k. sets now i (map encode (fresh_from i k))) (sym none)

-- ---- whole lists

-- words written over the front of others are set there
pub copied : (others words written : List ℕ) → written ≡ words → length words ≤ length others
    → written ++ drop (length words) others ≡ sets others 0 words
copied others words written e l =
    ap (λ (front : List ℕ). front ++ drop (length words) others) e
    ∙ sym (sets-eq words others 0 (omega arith) ∙ ap (λ k. words ++ drop k others) (zero-add (length words)))

-- as many words as there are take the place of all
pub sets_all : (words others : List ℕ) → length others ≡ length words → sets words 0 others ≡ others
sets_all words others e =
    sets-eq others words 0 (omega (arith, e))
    ∙ ap (λ k. others ++ drop k words) (zero-add (length others) ∙ e)
    ∙ ap (λ l. others ++ l) (drop-length words)
    ∙ append-nil others

sets_after : (words front back : List ℕ) (i k : ℕ) → k ≡ i + length front → sets (sets words i front) k back ≡ sets words i (front ++ back)
sets_after words [] back i k e =
    let same : k ≡ i = omega (arith, e) in
    ap (λ j. sets words j back) same
sets_after words (w ∷ front) back i k e = sets_after (set words i w) front back (suc i) k (omega (arith, e))

-- a copy of the words and the roots past them fill the array
pub filled : (start words : List ℕ) → length start ≡ most_nodes → length words ≤ most_nodes
    → sets (sets start 0 words) (length words) (roots (length words)) ≡ padded words
filled start words size few =
    sets_after start words (roots (length words)) 0 (length words) (omega arith)
    ∙ sets_all start (padded words) (omega (arith, size, few, padded_length))
  where
    padded_length : length (padded words) ≡ length words + (most_nodes - length words)
    padded_length =
        length-append words (roots (length words))
        ∙ ap (λ k. length words + k)
        (length-map (fresh_from (length words) (most_nodes - length words)) encode
        ∙ length_fresh (length words) (most_nodes - length words))
