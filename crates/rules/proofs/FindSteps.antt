-- A find's grants and a same-set's last read: each leads to one of the five outcomes.
--
--   Gives t' st a   the step a at stage st, which leaves the table t', is one of the outcomes
--   Here kind       x and y stand for the request's two nodes, and the request is of that kind
--
-- Laws: find_step, whatever the errand and the step; reread_x.
use mathlib.Core.Path.{◌≡◌, refl, sym, ap, subst}
use mathlib.Core.Logic.{◌≢◌}
use mathlib.Core.Bool.{Bool, true, false}
use mathlib.Core.List.{List}
use Prim.Native.Nat.{ℕ, suc}
use native.Mathlib.Omega.{arith}
use lib.Dec.{eqb}
use borrow.Author.Tests.{eqb-true, eqb-false}
use Rattle.basics.proofs.Conditions.{split}
use Rattle.job.specs.declared.Kind.{Kind}
use Rattle.job.specs.declared.Kind.TheVariants.{Union, SameSet}
use Rattle.job.specs.declared.Answer.TheVariants.{Unfinished}
use Rattle.job.specs.declared.Request.{Request}
use Rattle.word.specs.declared.Node.{Node}
use Rattle.process.specs.declared.Step.{Step}
use Rattle.process.specs.declared.Step.TheVariants.{ReadNode}
use Rattle.process.specs.Find.{Walked}
use Rattle.process.specs.Find.Walked.{On, Failed, Up, Ended}
use Rattle.process.specs.declared.Errand.{Errand}
use Rattle.process.specs.declared.Errand.TheVariants.{UnionX, UnionY, SameX, SameY, Tidy}
use Rattle.process.specs.declared.Stage.{Stage}
use Rattle.process.specs.declared.Stage.TheVariants.{Find, RereadX, ReadRankX, ReadRankLinked}
use Rattle.process.specs.declared.Task.{Task}
use Rattle.process.specs.declared.Advanced.{Advanced}
use Rattle.process.specs.Process.{traits, traits_of, tidies, kind_of, node_at, moved_to, restart}
use Rattle.process.specs.Find.{find_access, walked}
use Rattle.process.specs.Advance.{together, compared, ended, followed, reread}
use Rattle.rules.specs.Table.{at, parent, seen, touched}
use Rattle.rules.proofs.Finds.{Walks, find_walks, find_halved}
use Rattle.rules.proofs.Stages.{Moment, Apart, Finding, Linked, Pair, Searching, Rereading}
use Rattle.rules.proofs.Stages.{find_node, restart_knows, searching_later}
use Rattle.rules.proofs.Outcomes.{after_grant, Unlinked, Outcome, Present, unchanged, grant_onward, goes_on, tidies_on}
use Rattle.rules.proofs.Outcomes.Outcome.{going, closing, denying}
use Rattle.rules.proofs.Writes.{find_unlinked}
use Rattle.rules.proofs.Steps.{ends_one, ends_two, searching_moved}

module _ {n : ℕ} {m : Moment n} {q : Request} (present : Present m q) (k : Task) where
  abbrev t : List Node
  t = m.table

  abbrev Gives : List Node → Stage → Advanced → Type 0
  Gives t' st a = Outcome m t' q st a

  abbrev Here : Kind → Type 0
  Here kind = Finding n m.labels q kind k.x k.y

  module _ (st : Stage) (unraised : (traits_of st).linked ≡ false) {t' : List Node} (table : Unlinked m t') where
    -- ---- both finds have ended

    -- at one root: already together, or yes
    one_root : (kind : Kind) → Here kind → eqb k.x k.y ≡ true → Gives t' st (compared k kind (suc m.now))
    one_root kind f one =
        rw one
        (closing (record {
          table = table;
          unraised = unraised;
          unlinked = refl;
          found = refl;
          answer = ap together (sym f.kind);
          point = refl;
          rests = refl;
          one_set = ends_one f.ends (eqb-true k.x k.y one);
        }))

    -- y is a root, so that if x is one, too, the two are in two sets
    roots_apart : {kind : Kind} → Here kind → parent t' k.y ≡ k.y → k.x ≢ k.y → parent t' k.x ≡ k.x
        → Apart m q (suc m.now)
    roots_apart f root d r =
        subst (λ C. C q.x ≢ C q.y) (sym present.latest)
        (ends_two f.ends (λ s. d (table.kept.sound.labelled.apart k.x k.y f.left f.right r root s)))

    -- at two: a union reads x's rank, a same-set reads x again, with this grant as its point
    two_roots : (kind : Kind) → Here kind → parent t' k.y ≡ k.y → eqb k.x k.y ≡ false
        → Gives t' st (compared k kind (suc m.now))
    two_roots Union f root two =
        rw two
        (goes_on st k ReadRankX false true unraised refl table
        (record { finding = f; distinct = eqb-false k.x k.y two; rank = omega arith }))
    two_roots SameSet f root two =
        rw two
        (going (record {
          table = table;
          unraised = unraised;
          unlinked = refl;
          unfinished = refl;
          unplaced = refl;
          busy = refl;
          still = refl;
          proposed = λ z. refl;
          found = λ z. refl;
          knows = record {
            finding = f;
            positive = omega arith;
            until = omega arith;
            apart = roots_apart f root (eqb-false k.x k.y two);
          };
        }))

    both_ended : (kind : Kind) → Here kind → parent t' k.y ≡ k.y → Gives t' st (compared k kind (suc m.now))
    both_ended kind f root = split (eqb k.x k.y) (λ one. one_root kind f one) (λ two. two_roots kind f root two)

  module _ (s : Step) {t' : List Node} (table : Unlinked m t') where
    -- ---- a find has ended

    find_ended : (e : Errand) → Searching (after_grant m t' m.labels) q k e s → parent t' (node_at k e) ≡ node_at k e
        → Gives t' (Find e s) (ended k e (suc m.now))
    find_ended UnionX a root =
        goes_on (Find UnionX s) k (Find UnionY ReadNode) false false refl refl table (record { pair = a.pair; find = tt })
    find_ended UnionY a root = both_ended (Find UnionY s) refl table Union a.pair root
    find_ended SameX a root =
        goes_on (Find SameX s) k (Find SameY ReadNode) false false refl refl table (record { pair = a.pair; find = tt })
    find_ended SameY a root = both_ended (Find SameY s) refl table SameSet a.pair root
    find_ended Tidy a root =
        tidies_on (Find Tidy s) k ReadRankLinked false refl (record { busy = refl; linked = refl; unpending = refl }) table
        a.pair.kind (λ at. a.pair)

  module _ (e : Errand) (s : Step) {t' : List Node} (table : Unlinked m t') where
    -- ---- where the find goes

    -- on, before the link or after it
    finds_on : (b : Bool) → tidies e ≡ b → (k' : Task) (next : Step) (failed : Bool)
        → Searching (after_grant m t' m.labels) q k' e next
        → Gives t' (Find e s)
        (record {
          head = record { stage = Find e next; task = k' };
          event = record { failed = failed; found = false; linked = false; answer = Unfinished; point = 0 };
        })
    finds_on false is k' next failed a =
        goes_on (Find e s) k' (Find e next) failed false is (ap (λ b. traits false b 0 0) is) table a
    finds_on true is k' next failed a =
        let pair : Linked n t' m.labels q k'.x k'.y =
        subst (λ b. Pair n t' m.labels q (kind_of e) k'.x k'.y b) is a.pair in
        tidies_on (Find e s) k' (Find e next) failed is (record { busy = refl; linked = is; unpending = refl }) table pair.kind
        (λ at. record { pair = a.pair; find = a.find })

    follows : (w : Walked) → Searching (after_grant m t' m.labels) q k e s → Walks n t' m.labels (node_at k e) w
        → Gives t' (Find e s) (followed k e (suc m.now) w)
    follows (On next) f a = finds_on (tidies e) refl k next false (record { pair = f.pair; find = a })
    follows (Failed next) f a = finds_on (tidies e) refl k next true (record { pair = f.pair; find = a })
    follows (Up v) f a = finds_on (tidies e) refl (moved_to k e v) ReadNode false (searching_moved k e v f a)
    follows Ended f a = find_ended s table e f a

  pub find_step : (e : Errand) (s : Step) → Searching m q k e s
      → Gives (touched t (find_access (node_at k e) s)) (Find e s)
      (followed k e (suc m.now) (walked (node_at k e) (seen t (find_access (node_at k e) s)) s))
  find_step e s a =
      let node = find_node a in
      let sound = present.sound in
      let table = find_unlinked m present.nodes sound
      (find_halved t present.nodes sound.formed sound.labelled node s a.find) in
      follows e s table (walked (node_at k e) (seen t (find_access (node_at k e) s)) s)
      (searching_later (grant_onward table) present.inside k e s a)
      (find_walks t present.nodes sound.formed sound.labelled node s a.find)

  -- ---- a same-set's last read

  pub reread_x : (point : ℕ) → Rereading m q k.x k.y point → Gives t (RereadX point) (reread k point (at t k.x))
  reread_x point a =
      split (eqb (parent t k.x) k.x)
      (λ e. rw e
      (denying (record {
        table = unchanged present;
        unraised = refl;
        kind = a.finding.kind;
        unlinked = refl;
        unfound = refl;
        answer = refl;
        point = refl;
        rests = refl;
        positive = a.positive;
        until = a.until;
        two_sets = a.apart (eqb-true (parent t k.x) k.x e);
      })))
      (λ e. rw e
      (goes_on (RereadX point) k (restart SameSet) false false refl refl (unchanged present) (restart_knows SameSet k a.finding)))
