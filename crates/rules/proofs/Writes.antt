-- The three writes of the table, on its words: what the forest says of parents and ranks, said of a word that is stored.
--
-- Laws: find_unlinked and raising_unlinked, the sets stay and no root is lost; linking_kept and linking_takes, two sets become
-- one, and one root is lost; linking_below and linking_lower, the node linked has its new parent, and is no root.
use mathlib.Core.Path.{◌≡◌, refl, sym, ◌∙◌, subst}
use mathlib.Core.Logic.{◌≢◌}
use mathlib.Core.List.{List}
use Prim.Native.Nat.{ℕ, suc, ◌+◌}
use native.Mathlib.Omega.{arith}
use lib.ListN.{length}
use Rattle.word.specs.declared.Node.{Node}
use Rattle.forest.specs.Forest.{root_count}
use Rattle.forest.proofs.Sound.{Sound}
use Rattle.forest.proofs.Writes.{Changed}
use Rattle.forest.proofs.Halving.{Halving, halving_sound}
use Rattle.forest.proofs.Linking.{Linking, linking_sound, linking_other}
use Rattle.forest.proofs.Raising.{Raising, raising_sound}
use Rattle.forest.proofs.Later.{halving_later, linking_later, raising_later}
use Rattle.forest.proofs.Roots.{halving_roots, linking_roots, raising_roots}
use Rattle.linearization.specs.Partition.{Labels}
use Rattle.rules.specs.Table.{parent, rank}
use Rattle.rules.proofs.Table.{parent_changed, rank_changed}
use Rattle.rules.proofs.Finds.{stored, Halved}
use Rattle.rules.proofs.Finds.Halved.{kept, written}
use Rattle.rules.proofs.Stages.{Moment}
use Rattle.rules.proofs.Outcomes.{Kept, Unlinked, unwritten}

module _ {n : ℕ} (m : Moment n) (nodes : length m.table ≡ n)
    (sound : Sound n (parent m.table) (rank m.table) m.labels) where
  abbrev t : List Node
  t = m.table

  halving_unlinked : {v k u : ℕ} → Halving n (parent t) (rank t) m.labels v k u → Unlinked m (stored t v k u)
  halving_unlinked {v} {k} {u} halving =
      let parents = parent_changed t v (record { rank = k; parent = u }) (omega (arith, halving.node)) in
      let ranks = rank_changed t v (record { rank = k; parent = u }) (omega (arith, halving.node)) in
      record {
        kept = record { sound = halving_sound sound halving parents ranks; later = halving_later sound.formed halving parents ranks };
        roots = halving_roots sound.formed halving parents ranks;
      }

  -- what a find writes
  pub find_unlinked : {t' : List Node} {v : ℕ} → Halved n t t' m.labels v → Unlinked m t'
  find_unlinked (kept e) = subst (λ t'. Unlinked m t') (sym e) (unwritten m sound)
  find_unlinked (written k u halving e) = subst (λ t'. Unlinked m t') (sym e) (halving_unlinked halving)

  pub raising_unlinked : {y k : ℕ} → Raising n (parent t) (rank t) m.labels y k → Unlinked m (stored t y (k + 1) y)
  raising_unlinked {y} {k} raising =
      let parents = parent_changed t y (record { rank = k + 1; parent = y }) (omega (arith, raising.node)) in
      let changed = rank_changed t y (record { rank = k + 1; parent = y }) (omega (arith, raising.node)) in
      let ranks : Changed (rank t) (rank (stored t y (k + 1) y)) y (suc k) =
      record { at = changed.at ∙ omega arith; other = changed.other } in
      record {
        kept = record { sound = raising_sound sound raising parents ranks; later = raising_later sound raising parents ranks };
        roots = raising_roots sound raising parents ranks;
      }

  module _ {B' : Labels} {x k y : ℕ} (linking : Linking n (parent t) (rank t) m.labels B' x k y) where
    parents : Changed (parent t) (parent (stored t x k y)) x y
    parents = parent_changed t x (record { rank = k; parent = y }) (omega (arith, linking.node))

    ranks : Changed (rank t) (rank (stored t x k y)) x k
    ranks = rank_changed t x (record { rank = k; parent = y }) (omega (arith, linking.node))

    pub linking_kept : Kept m (stored t x k y) B'
    linking_kept = record { sound = linking_sound sound linking parents ranks; later = linking_later sound linking parents ranks }

    pub linking_takes : suc (root_count (parent (stored t x k y)) n) ≡ root_count (parent t) n
    linking_takes = linking_roots sound linking parents ranks

    pub linking_below : parent (stored t x k y) x ≡ y
    linking_below = parents.at

    pub linking_lower : parent (stored t x k y) x ≢ x
    linking_lower root = linking_other sound linking parents ranks x root refl
