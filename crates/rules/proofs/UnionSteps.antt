-- A union's grants once its finds have ended, stage by stage: each leads to one of the five outcomes.
--
--   Gives t' st a   the step a at stage st, which leaves the table t', is one of the outcomes
--
-- Laws, one a stage: read_rank_x, read_rank_y, link_x, raise_y, read_rank_linked, raise_found_y.
use mathlib.Core.Path.{◌≡◌, refl, sym, ap, ◌∙◌}
use mathlib.Core.Bool.{Bool, true, false}
use mathlib.Core.List.{List}
use Prim.Native.Nat.{ℕ, suc, ◌≤◌, ◌<◌}
use native.Mathlib.Omega.{arith}
use lib.Dec.{eqb, ltb}
use borrow.Author.Tests.{ltb-true, ltb-false}
use Rattle.basics.proofs.Conditions.{split}
use Rattle.job.specs.declared.Kind.TheVariants.{Union}
use Rattle.job.specs.declared.Request.{Request}
use Rattle.word.specs.declared.Node.{Node}
use Rattle.word.specs.Word.{key, same, before}
use Rattle.word.proofs.Laws.{before_key}
use Rattle.process.specs.declared.Step.TheVariants.{ReadNode}
use Rattle.process.specs.declared.Errand.TheVariants.{Tidy}
use Rattle.process.specs.declared.Stage.{Stage}
use Rattle.process.specs.declared.Stage.TheVariants.{Find, ReadRankX, ReadRankY, Link, Raise, ReadRankLinked, RaiseFound}
use Rattle.process.specs.declared.Task.{Task}
use Rattle.process.specs.declared.Advanced.{Advanced}
use Rattle.process.specs.declared.Access.TheVariants.{Cas}
use Rattle.process.specs.Process.{restart, tidy_up}
use Rattle.process.specs.Access.{raising}
use Rattle.process.specs.Advance.{go_on, rank_both, linked, link, raise, raise_found}
use Rattle.forest.proofs.Merge.{merged_ends}
use Rattle.forest.proofs.Linking as linking
use Rattle.forest.proofs.Raising as forest
use Rattle.rules.specs.Table.{at, parent, rank, touched}
use Rattle.rules.proofs.Table.{found_parent, found_rank}
use Rattle.rules.proofs.Finds.{stored}
use Rattle.rules.proofs.Stages.{Moment, Finding, Linked, Searching, ReadingRanks, Linking, Raising}
use Rattle.rules.proofs.Stages.{restart_knows, linked_later}
use Rattle.rules.proofs.Outcomes.{after_grant, united, united_merged, Unlinked, Afterwards, Outcome, Present}
use Rattle.rules.proofs.Outcomes.{unchanged, grant_onward, goes_on, tidies_on}
use Rattle.rules.proofs.Outcomes.Afterwards.{finished, continuing}
use Rattle.rules.proofs.Outcomes.Outcome.{joining, tidying}
use Rattle.rules.proofs.Writes.{linking_kept, linking_takes, linking_below, linking_lower, raising_unlinked}
use Rattle.rules.proofs.Steps.{ends_two, finding_exchange}

module _ {n : ℕ} {m : Moment n} {q : Request} (present : Present m q) (k : Task) where
  abbrev t : List Node
  t = m.table

  abbrev Gives : List Node → Stage → Advanced → Type 0
  Gives t' st a = Outcome m t' q st a

  -- the find after the link starts at x
  tidying_knows : {m' : Moment n} → Linked n m'.table m'.labels q k.x k.y → Searching m' q (tidy_up k).task Tidy ReadNode
  tidying_knows a =
      record { pair = record { left = a.left; right = a.left; kind = a.kind; lower = a.lower; same = refl }; find = tt }

  -- ---- the two ranks

  pub read_rank_x : ReadingRanks m q k.x k.y 0 → Gives t ReadRankX (go_on k (ReadRankY (rank t k.x)))
  read_rank_x a =
      goes_on ReadRankX k (ReadRankY (rank t k.x)) false false refl refl (unchanged present)
      (record { finding = a.finding; distinct = a.distinct; rank = omega arith })

  -- the order of the ranks read is the order of keys
  ranks_order : (r : ℕ) → Finding n m.labels q Union k.x k.y
      → before (rank t k.y) k.y r k.x ≡ ltb (key (rank t k.y) k.y) (key r k.x)
  ranks_order r f =
      let few = present.sound.formed.limit in
      before_key (rank t k.y) k.y r k.x (omega (arith, f.right)) (omega (arith, f.left))

  module _ (r : ℕ) (a : ReadingRanks m q k.x k.y r) where
    -- y comes before x: they are exchanged
    exchanged : key (rank t k.y) k.y < key r k.x → Linking (after_grant m t m.labels) q k.y k.x (rank t k.y)
    exchanged order = record { finding = finding_exchange a.finding; rank = omega arith; before = omega (arith, a.rank) }

    straight : key r k.x ≤ key (rank t k.y) k.y → Linking (after_grant m t m.labels) q k.x k.y r
    straight order =
        record {
          finding = a.finding;
          rank = a.rank;
          before = omega (arith, a.distinct, a.finding.left, a.finding.right, present.sound.formed.limit);
        }

    pub read_rank_y : Gives t (ReadRankY r) (rank_both k r (rank t k.y))
    read_rank_y =
        split (before (rank t k.y) k.y r k.x)
        (λ e. rw e
        (goes_on (ReadRankY r) (record { x = k.y; y = k.x; request = k.request; waits = k.waits })
        (Link (rank t k.y) (eqb r (rank t k.y))) false false refl refl (unchanged present)
        (exchanged (ltb-true (key (rank t k.y) k.y) (key r k.x) (sym (ranks_order r a.finding) ∙ e)))))
        (λ e. rw e
        (goes_on (ReadRankY r) k (Link r (eqb r (rank t k.y))) false false refl refl (unchanged present)
        (straight (ltb-false (key (rank t k.y) k.y) (key r k.x) (sym (ranks_order r a.finding) ∙ e)))))

  -- ---- the link

  module _ (r : ℕ) (a : Linking m q k.x k.y r) where
    module _ (found : same (at t k.x) (record { rank = r; parent = k.x }) ≡ true) where
      may_link : linking.Linking n (parent t) (rank t) m.labels (united m q) k.x r k.y
      may_link =
          let rank_is = found_rank t k.x (record { rank = r; parent = k.x }) found in
          record {
            node = a.finding.left;
            target = a.finding.right;
            root = found_parent t k.x (record { rank = r; parent = k.x }) found;
            rank = sym rank_is;
            before = omega (arith, a.before, rank_is);
            labels = merged_ends (united_merged m q) k.x k.y a.finding.ends;
          }

      -- x is no root any more, and in y's set
      has_linked : Linked n (stored t k.x r k.y) (united m q) q k.x k.y
      has_linked =
          let below = linking_below m present.nodes present.sound may_link in
          let kept = linking_kept m present.nodes present.sound may_link in
          record {
            left = a.finding.left;
            right = a.finding.right;
            kind = a.finding.kind;
            lower = linking_lower m present.nodes present.sound may_link;
            same = sym (ap (united m q) below) ∙ kept.sound.labelled.along k.x a.finding.left;
          }

      -- where the ranks read were equal, y's rank may be raised; else the find from x starts
      after : (e : Bool) → Afterwards m (stored t k.x r k.y) (united m q) q (linked k r e (suc m.now))
      after true =
          continuing refl (record { busy = refl; linked = refl; unpending = refl })
          (λ at. record { linked = has_linked; weight = linking.linking_weight present.sound may_link })
      after false = continuing refl (record { busy = refl; linked = refl; unpending = refl }) (λ at. tidying_knows has_linked)

      link_written : (e : Bool) → Gives (stored t k.x r k.y) (Link r e) (linked k r e (suc m.now))
      link_written e =
          joining (record {
            kept = linking_kept m present.nodes present.sound may_link;
            roots = linking_takes m present.nodes present.sound may_link;
            unraised = refl;
            kind = a.finding.kind;
            linked = refl;
            point = refl;
            two_sets = ends_two a.finding.ends (linking.linking_apart present.sound may_link);
            after = after e;
          })

    pub link_x : (e : Bool) → Gives (touched t (Cas k.x (record { rank = r; parent = k.x }) (record { rank = r; parent = k.y })))
        (Link r e) (link k r e (at t k.x) (suc m.now))
    link_x e =
        split (same (at t k.x) (record { rank = r; parent = k.x }))
        (λ s. rw s (link_written s e))
        (λ s. rw s (goes_on (Link r e) k (restart Union) true false refl refl (unchanged present) (restart_knows Union k a.finding)))

  -- ---- the raises

  module _ (r : ℕ) (a : Raising m q k.x k.y r) where
    may_raise : same (at t k.y) (record { rank = r; parent = k.y }) ≡ true → forest.Raising n (parent t) (rank t) m.labels k.y r
    may_raise found =
        record {
          node = a.linked.right;
          root = found_parent t k.y (record { rank = r; parent = k.y }) found;
          rank = sym (found_rank t k.y (record { rank = r; parent = k.y }) found);
          weight = a.weight;
        }

    -- whether the swap wrote or not, the sets stay
    raise_unlinked : Unlinked m (touched t (raising k.y r))
    raise_unlinked =
        split (same (at t k.y) (record { rank = r; parent = k.y }))
        (λ s. rw s (raising_unlinked m present.nodes present.sound (may_raise s)))
        (λ s. rw s (unchanged present))

    -- the find from x follows,
    pub raise_y : (w : Node) → Gives (touched t (raising k.y r)) (Raise r) (raise k r w)
    raise_y w =
        tidies_on (Raise r) (tidy_up k).task (Find Tidy ReadNode) _ refl (record { busy = refl; linked = refl; unpending = refl })
        raise_unlinked a.linked.kind
        (λ at. tidying_knows (linked_later (grant_onward raise_unlinked) present.inside a.linked))

    -- or the union is finished
    pub raise_found_y : (w : Node) → Gives (touched t (raising k.y r)) (RaiseFound r) (raise_found k r w)
    raise_found_y w =
        tidying (record {
          table = raise_unlinked;
          raised = refl;
          kind = a.linked.kind;
          unlinked = refl;
          unplaced = refl;
          after = finished refl refl;
        })

  -- ---- the rank of the x that was linked

  -- no root, it is in a set of the nodes that one rank more asks for, and so is y
  pub read_rank_linked : Linked n t m.labels q k.x k.y → Gives t ReadRankLinked (go_on k (RaiseFound (rank t k.x)))
  read_rank_linked a =
      tidies_on ReadRankLinked k (RaiseFound (rank t k.x)) false refl (record { busy = refl; linked = refl; unpending = refl })
      (unchanged present) a.kind
      (λ at. record {
        linked = a;
        weight = rw a.same (present.sound.heavy.lower k.x a.left a.lower);
      })
