-- What a find writes, on an admitted table: the table stays admitted, its labels and its ranks stay.
--
--   Kept n t t' B   the table t' is as admitted, labelled and ranked as t
--
-- Main law: halved_keeps; halved_admitted, the same of a table that is halved.
use mathlib.Core.Path.{◌≡◌, refl, sym, ◌∙◌, subst}
use mathlib.Core.List.{List}
use Prim.Native.Nat.{ℕ}
use native.Mathlib.Omega.{arith}
use lib.ListN.{length-set}
use Rattle.word.specs.declared.Node.{Node}
use Rattle.forest.proofs.Forest.{Labelled}
use Rattle.forest.proofs.Writes.{Changed}
use Rattle.forest.proofs.Halving.{Halving, halving_ranks, halving_formed, halving_labelled}
use Rattle.rules.specs.Table.{parent, rank}
use Rattle.rules.proofs.Table.{parent_changed, rank_changed}
use Rattle.rules.proofs.Finds.{stored, Halved}
use Rattle.rules.proofs.Finds.Halved.{kept, written}
use Rattle.table.specs.Admitted.{Admitted}
use Rattle.table.proofs.Admitted.{admitted_formed}

pub record Kept (n : ℕ) (t t' : List Node) (B : ℕ → ℕ) : Type 0 where
  pub admitted : Admitted n t'
  pub labelled : Labelled n (parent t') B
  pub ranks : (i : ℕ) → rank t' i ≡ rank t i

module _ {n : ℕ} {t : List Node} {B : ℕ → ℕ} (admitted : Admitted n t) where
  module _ {v k u : ℕ} (halving : Halving n (parent t) (rank t) B v k u) where
    parents : Changed (parent t) (parent (stored t v k u)) v u
    parents = parent_changed t v (record { rank = k; parent = u }) (omega (arith, halving.node, admitted.nodes))

    each_rank : Changed (rank t) (rank (stored t v k u)) v k
    each_rank = rank_changed t v (record { rank = k; parent = u }) (omega (arith, halving.node, admitted.nodes))

    same_ranks : (i : ℕ) → rank (stored t v k u) i ≡ rank t i
    same_ranks = halving_ranks (admitted_formed admitted) halving parents each_rank

    pub halved_admitted : Admitted n (stored t v k u)
    halved_admitted =
        let stays = halving_formed (admitted_formed admitted) halving parents each_rank in
        record {
          nodes = length-set t v (record { rank = k; parent = u }) ∙ admitted.nodes;
          few = admitted.few;
          inside = stays.inside;
          ranks = λ i l. omega (arith, admitted.ranks i l, same_ranks i);
          rising = stays.rising;
        }

  pub unwritten : Labelled n (parent t) B → Kept n t t B
  unwritten labelled = record { admitted = admitted; labelled = labelled; ranks = λ i. refl }

  pub halved_keeps : {t' : List Node} {v : ℕ} → Labelled n (parent t) B → Halved n t t' B v → Kept n t t' B
  halved_keeps labelled (kept e) = subst (λ t'. Kept n t t' B) (sym e) (unwritten labelled)
  halved_keeps labelled (written k u halving e) =
      subst (λ t'. Kept n t t' B) (sym e)
      (record {
        admitted = halved_admitted halving;
        labelled = halving_labelled (admitted_formed admitted) halving (parents halving) (each_rank halving) labelled;
        ranks = same_ranks halving;
      })
