-- One move from a node that is no root, on words: its swap leaves an admitted table, and each of its three grants leads on.
--
-- Main laws: swap_wrote and swap_failed, what the swap leaves; moved_once, moved_twice and moved, after one grant, two and three.
use mathlib.Core.Path.{◌≡◌, refl, sym, ap, ◌∙◌, subst}
use mathlib.Core.Logic.{◌≢◌}
use mathlib.Core.Bool.{Bool}
use mathlib.Core.List.{List, map}
use Prim.Native.Nat.{ℕ, ◌+◌, ◌-◌, ◌≤◌, ◌<◌}
use native.Mathlib.Omega.{arith}
use lib.ListN.{set}
use borrow.Author.Tests.{eq-eqb}
use Rattle.basics.proofs.Conditions.{split}
use Rattle.basics.proofs.Lists.{set_mapped}
use Rattle.job.specs.declared.Answer.TheVariants.{Unfinished}
use Rattle.word.specs.declared.Node.{Node}
use Rattle.word.specs.Word.{rank_of, parent_of, decode, encode, same, most_rank}
use Rattle.job.specs.Job.{most_nodes}
use Rattle.word.proofs.Laws.{same_true, encode_decode}
use Rattle.process.specs.declared.Access.TheVariants.{Cas}
use Rattle.forest.proofs.Halving.{Halving}
use Rattle.rules.specs.Table.{at, parent, rank, touched}
use Rattle.rules.proofs.Finds.{Above, own_parent, above_parent}
use Rattle.table.specs.Admitted.{word_at, Admitted}
use Rattle.table.proofs.Admitted.{admitted_formed, admitted_worded, admitted_at, words_kept}
use Rattle.table.proofs.Words.{decode_words}
use Rattle.query.specs.Query.{steps}
use Rattle.query.specs.Numbers.{looking, moving, Ready, Lower, packed, ended}
use Rattle.query.proofs.Labels.{root_label, root_labelled}
use Rattle.query.proofs.Halving.{halved_admitted}
use Rattle.query.proofs.Grants.{swapping, again, move_reads, move_swaps, move_ends, spent}

-- ---- the swap

-- the swap leaves an admitted table
swap_admitted : {n : ℕ} {t : List Node} → Admitted n t → (v : ℕ) → v < n → parent t v ≢ v
    → Admitted n (touched t (Cas v (at t v) (record { rank = rank t v; parent = parent t (parent t v) })))
swap_admitted {n} {t} admitted v node lower =
    split (same (at t v) (at t v)) (λ e. rw e (halved_admitted admitted may)) (λ e. rw e admitted)
  where
    above : Above n (parent t) (rank t) (root_label (admitted_formed admitted)) v (parent t (parent t v))
    above =
        above_parent (admitted_formed admitted) (root_labelled (admitted_formed admitted))
        (own_parent (admitted_formed admitted) (root_labelled (admitted_formed admitted)) v node lower)

    may : Halving n (parent t) (rank t) (root_label (admitted_formed admitted)) v (rank t v) (parent t (parent t v))
    may = record { node = node; target = above.node; lower = lower; rank = refl; same = above.same; before = above.before }

-- a swap that compares words compares their nodes
module _ (words : List ℕ) (node word above : ℕ) (admitted : Admitted most_nodes (map decode words)) (inside : node < most_nodes)
    (low : rank_of word ≤ most_rank) where
  abbrev new : Node
  new = record { rank = rank_of word; parent = above }

  found : at (map decode words) node ≡ decode (word_at words node)
  found = admitted_at words admitted node inside

  pub swap_wrote : word_at words node ≡ word → (stored : ℕ) → stored ≡ encode new
      → set words node stored ≡ map encode (touched (map decode words) (Cas node (decode word) new))
  swap_wrote e stored written =
      rw (found, e, eq-eqb (rank_of word) (rank_of word) refl, eq-eqb (parent_of word) (parent_of word) refl)
      (ap (set words node) written
      ∙ ap (λ l. set l node (encode new)) (words_kept words admitted)
      ∙ set_mapped encode (map decode words) node new)

  pub swap_failed : word_at words node ≢ word → words ≡ map encode (touched (map decode words) (Cas node (decode word) new))
  unfolding parent_of
  swap_failed d =
      split (same (at (map decode words) node) (decode word))
      (λ e. absurd (d (same_word (sym found ∙ same_true (at (map decode words) node) (decode word) e))))
      (λ e. rw e (words_kept words admitted))
    where
      same_word : decode (word_at words node) ≡ decode word → word_at words node ≡ word
      same_word e =
          sym (encode_decode (word_at words node) (omega (arith, admitted.ranks node inside, ap (λ v. v.rank) found)) (omega arith))
          ∙ ap encode e
          ∙ encode_decode word (omega (arith, low)) (omega arith)

-- ---- the three grants

module _ {words : List ℕ} {node other used left : ℕ} (ready : Ready words node other used left) {word : ℕ}
    (lower : Lower words node word) {up : ℕ} (its : up ≡ parent_of word) where
  abbrev t : List Node
  t = map decode words

  -- the word read is the node's own
  own : at t node ≡ decode word
  own = admitted_at words ready.admitted node ready.inside ∙ ap decode (sym lower.read)

  own_parent_up : parent t node ≡ up
  own_parent_up = ap (λ v. v.parent) own ∙ sym its

  pub own_rank : rank_of word ≤ most_rank
  own_rank = omega (arith, ready.admitted.ranks node ready.inside, ap (λ v. v.rank) own)

  pub up_inside : up < most_nodes
  up_inside = omega (arith, ready.admitted.inside node ready.inside, own_parent_up)

  module _ {above : ℕ} (seen : above ≡ parent_of (word_at words up)) where
    grandparent : parent t up ≡ above
    grandparent = ap (λ v. v.parent) (admitted_at words ready.admitted up up_inside) ∙ sym seen

    pub above_inside : above < most_nodes
    above_inside = omega (arith, ready.admitted.inside up up_inside, grandparent)

    abbrev swapped : List Node
    swapped = touched t (Cas node (decode word) (record { rank = rank_of word; parent = above }))

    pub moved_once : (from_y : Bool) → 1 ≤ left
        → steps left used (moving node other from_y (decode word)) t
        ≡ steps (left - 1) (used + 1) (swapping node other from_y (decode word) above) t
    moved_once from_y l =
        move_reads t node other left used (left - 1) (used + 1) (omega arith) (omega arith) from_y (decode word)
        ∙ ap (λ u. steps (left - 1) (used + 1) (swapping node other from_y (decode word) (parent t u)) t) (sym its)
        ∙ ap (λ u. steps (left - 1) (used + 1) (swapping node other from_y (decode word) u) t) grandparent

    pub once_spent : {end : ℕ} (from_y : Bool) → left ≡ 1 → end ≡ packed Unfinished (used + 1)
        → ended end words ≡ steps left used (moving node other from_y (decode word)) t
    once_spent {end} from_y one told =
        spent words ready.admitted (left - 1) (used + 1) (swapping node other from_y (decode word) above) end (omega (arith, one))
        (omega (arith, one, ready.room)) told
        ∙ sym (moved_once from_y (omega (arith, one)))

    swapped_admitted : Admitted most_nodes swapped
    swapped_admitted =
        let to_above : parent t (parent t node) ≡ above = ap (parent t) own_parent_up ∙ grandparent in
        subst
        (λ w. Admitted most_nodes (touched t (Cas node w (record { rank = w.rank; parent = above }))))
        own
        (subst
        (λ u. Admitted most_nodes (touched t (Cas node (at t node) (record { rank = rank t node; parent = u }))))
        to_above
        (swap_admitted ready.admitted node ready.inside (λ e. lower.lower (sym its ∙ sym own_parent_up ∙ e))))

    module _ {words' : List ℕ} (leaves : words' ≡ map encode swapped) where
      nodes' : map decode words' ≡ swapped
      nodes' = ap (map decode) leaves ∙ decode_words swapped (admitted_worded swapped_admitted)

      admitted' : Admitted most_nodes (map decode words')
      admitted' = subst (Admitted most_nodes) (sym nodes') swapped_admitted

      moved_twice : (from_y : Bool) → 2 ≤ left
          → steps left used (moving node other from_y (decode word)) t
          ≡ steps (left - 2) (used + 2) (again node other from_y up) (map decode words')
      moved_twice from_y l =
          moved_once from_y (omega arith)
          ∙ move_swaps t node other (left - 1) (used + 1) (left - 2) (used + 2) (omega arith) (omega arith) from_y (decode word) above
          ∙ ap (λ u. steps (left - 2) (used + 2) (again node other from_y u) swapped) (sym its)
          ∙ ap (steps (left - 2) (used + 2) (again node other from_y up)) (sym nodes')

      pub twice_spent : {end : ℕ} (from_y : Bool) → left ≡ 2 → end ≡ packed Unfinished (used + 2)
          → ended end words' ≡ steps left used (moving node other from_y (decode word)) t
      twice_spent {end} from_y two told =
          spent words' admitted' (left - 2) (used + 2) (again node other from_y up) end (omega (arith, two))
          (omega (arith, two, ready.room)) told
          ∙ sym (moved_twice from_y (omega (arith, two)))

      module _ {next : ℕ} (seen-again : next ≡ parent_of (word_at words' up)) (three : 3 ≤ left) where
        next_parent : parent (map decode words') up ≡ next
        next_parent =
            ap (λ v. v.parent) (admitted_at words' admitted' up up_inside) ∙ sym seen-again

        pub moved_ready : Ready words' next other (used + 3) (left - 3)
        moved_ready =
            record {
              admitted = admitted';
              inside = omega (arith, admitted'.inside up up_inside, next_parent);
              within = ready.within;
              room = omega (arith, ready.room, three);
            }

        pub moved : (from_y : Bool)
            → steps left used (moving node other from_y (decode word)) t
            ≡ steps (left - 3) (used + 3) (looking next other from_y) (map decode words')
        moved from_y =
            moved_twice from_y (omega (arith, three))
            ∙ move_ends (map decode words') node other (left - 2) (used + 2) (left - 3) (used + 3) (omega (arith, three)) (omega arith)
            from_y up
            ∙ ap (λ v. steps (left - 3) (used + 3) (looking v other from_y) (map decode words')) next_parent
