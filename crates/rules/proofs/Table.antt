-- The table as functions: what a store changes in parents and ranks, what a swap that writes has seen, and the start.
--
-- Laws: parent_changed and rank_changed, a store changes its own node alone; length_touched, an access leaves the number of
-- nodes; found_parent and found_rank, a swap that writes saw what it expected; fresh_at and fresh_singletons, the
-- table at the start.
use mathlib.Core.Path.{◌≡◌, refl, ap, ◌∙◌}
use mathlib.Core.Bool.{true}
use mathlib.Core.List.{List}
use Prim.Native.Nat.{ℕ, zero, suc, ◌+◌, ◌≤◌, ◌<◌}
use native.Mathlib.Omega.{arith}
use lib.ListN.{length, set, length-set}
use lib.Seq.{get_or-set_same, get_or-set_other}
use Rattle.basics.proofs.Conditions.{cond_both}
use Rattle.word.specs.declared.Node.{Node}
use Rattle.word.specs.Word.{same, node_limit}
use Rattle.word.proofs.Laws.{same_true}
use Rattle.forest.proofs.Sound.{Singletons}
use Rattle.forest.proofs.Writes.{Changed}
use Rattle.process.specs.declared.Access.{Access}
use Rattle.process.specs.declared.Access.TheVariants.{Idle, Load, Cas}
use Rattle.rules.specs.Table.{no_node, at, parent, rank, fresh_from, fresh, touched}

module _ (t : List Node) (i : ℕ) (w : Node) (inside : i < length t) where
  pub parent_changed : Changed (parent t) (parent (set t i w)) i w.parent
  parent_changed =
      record {
        at = ap (λ v. v.parent) (get_or-set_same t i w no_node inside);
        other = λ j d. ap (λ v. v.parent) (get_or-set_other t i j w no_node d);
      }

  pub rank_changed : Changed (rank t) (rank (set t i w)) i w.rank
  rank_changed =
      record {
        at = ap (λ v. v.rank) (get_or-set_same t i w no_node inside);
        other = λ j d. ap (λ v. v.rank) (get_or-set_other t i j w no_node d);
      }

-- an access leaves the number of nodes
pub length_touched : (t : List Node) (a : Access) → length (touched t a) ≡ length t
length_touched t Idle = refl
length_touched t (Load i) = refl
length_touched t (Cas i expected new) = cond_both (λ l. length l ≡ length t) (same (at t i) expected) (length-set t i new) refl

-- a swap that writes saw what it expected
module _ (t : List Node) (i : ℕ) (expected : Node) (found : same (at t i) expected ≡ true) where
  pub found_parent : parent t i ≡ expected.parent
  found_parent = ap (λ v. v.parent) (same_true (at t i) expected found)

  pub found_rank : rank t i ≡ expected.rank
  found_rank = ap (λ v. v.rank) (same_true (at t i) expected found)

-- ---- the start

pub length_fresh : (i n : ℕ) → length (fresh_from i n) ≡ n
length_fresh i zero = refl
length_fresh i (suc n) = ap suc (length_fresh (suc i) n)

-- the words at the start count the nodes
pub fresh_at : (i n j : ℕ) → j < n → at (fresh_from i n) j ≡ record { rank = 0; parent = i + j }
fresh_at i zero j h = absurd (omega arith)
fresh_at i (suc n) zero h = let same : i ≡ i + 0 = omega arith in ap (λ k. record { rank = 0; parent = k }) same
fresh_at i (suc n) (suc j) h =
    let same : suc i + j ≡ i + suc j = omega arith in
    fresh_at (suc i) n j (omega arith) ∙ ap (λ k. record { rank = 0; parent = k }) same

pub fresh_singletons : (n : ℕ) → n ≤ node_limit → Singletons n (parent (fresh n)) (rank (fresh n)) (λ i. i)
fresh_singletons n limit =
    record {
      limit = limit;
      roots = λ i h. omega (arith, ap (λ w. w.parent) (fresh_at 0 n i h));
      ranks = λ i h. ap (λ w. w.rank) (fresh_at 0 n i h);
      alone = λ i h. refl;
    }
