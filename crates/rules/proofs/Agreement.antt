-- What the steps say of a grant is what its access and the word seen tell: a failed swap, and a link.
--
--   Tells access seen event   the event's two flags are those of the access
--   Quiet w i a               the step a, which read the word w of node i, tells of no failed swap and no link
--
-- Main law: stage_agrees, whatever the stage; so a find's swaps link nothing, and a link that wrote has linked.
use mathlib.Core.Path.{◌≡◌, refl, ap}
use mathlib.Core.Logic.{◌≢◌}
use mathlib.Core.Bool.{Bool, true, false, cond, not}
use mathlib.Core.List.{List}
use Prim.Native.Nat.{ℕ, suc}
use native.Mathlib.Omega.{arith}
use lib.Dec.{eqb}
use borrow.Author.Tests.{eq-eqb, ne_eqb}
use Rattle.basics.proofs.Conditions.{split, cond_both}
use Rattle.job.specs.declared.Kind.{Kind}
use Rattle.job.specs.declared.Kind.TheVariants.{Union, SameSet}
use Rattle.job.specs.declared.Request.{Request}
use Rattle.word.specs.declared.Node.{Node}
use Rattle.word.specs.Word.{same, before}
use Rattle.process.specs.declared.Access.{Access}
use Rattle.process.specs.declared.Access.TheVariants.{Load}
use Rattle.process.specs.declared.Event.{Event}
use Rattle.process.specs.declared.Step.{Step}
use Rattle.process.specs.declared.Step.TheVariants.{ReadNode, ReadParent, Halve, ReadAgain}
use Rattle.process.specs.declared.Errand.{Errand}
use Rattle.process.specs.declared.Errand.TheVariants.{UnionX, UnionY, SameX, SameY, Tidy}
use Rattle.process.specs.declared.Stage.{Stage}
use Rattle.process.specs.declared.Stage.TheVariants.{Resting, Find, RereadX, ReadRankX, ReadRankY, Link, Raise, ReadRankLinked, RaiseFound}
use Rattle.process.specs.declared.Task.{Task}
use Rattle.process.specs.declared.Advanced.{Advanced}
use Rattle.process.specs.Process.{node_at}
use Rattle.process.specs.Access.{raising, access_at}
use Rattle.process.specs.Advance.{compared, ended, advance_at}
use Rattle.rules.specs.Table.{at, parent, rank, seen}
use Rattle.rules.specs.Action.{links, Agrees}
use Rattle.rules.proofs.Table.{found_parent, found_rank}
use Rattle.rules.proofs.Finds.{FindKnows}
use Rattle.rules.proofs.Stages.{Moment, Linking, Knows}

abbrev Tells : Access → Node → Event → Type 0
Tells access seen event = Agrees (record { access = access; seen = seen; event = event })

-- a read fails nothing and links nothing, wherever it leads
abbrev Quiet : Node → ℕ → Advanced → Type 0
Quiet w i a = Tells (Load i) w a.event

compared_quiet : (k : Task) (kind : Kind) (now : ℕ) (w : Node) (i : ℕ) → Quiet w i (compared k kind now)
compared_quiet k kind now w i =
    cond_both (Quiet w i) (eqb k.x k.y) (record { failed = refl; linked = refl }) (record { failed = refl; linked = refl })

ended_quiet : (k : Task) (e : Errand) (now : ℕ) (w : Node) (i : ℕ) → Quiet w i (ended k e now)
ended_quiet k UnionX now w i = record { failed = refl; linked = refl }
ended_quiet k UnionY now w i = compared_quiet k Union now w i
ended_quiet k SameX now w i = record { failed = refl; linked = refl }
ended_quiet k SameY now w i = compared_quiet k SameSet now w i
ended_quiet k Tidy now w i = record { failed = refl; linked = refl }

module _ {n : ℕ} (m : Moment n) (k : Task) where
  abbrev t : List Node
  t = m.table

  abbrev Told : Stage → Type 0
  Told st = Tells (access_at k st) (seen t (access_at k st)) (advance_at k (seen t (access_at k st)) (suc m.now) st).event

  module _ (e : Errand) where
    -- the node's word was read: the find ends, or goes on
    node_tells : Told (Find e ReadNode)
    node_tells =
        split (eqb (parent t (node_at k e)) (node_at k e))
        (λ root. rw root (ended_quiet k e (suc m.now) (at t (node_at k e)) (node_at k e)))
        (λ none. rw none (record { failed = refl; linked = refl }))

    -- a find swaps the word of a node that is no root
    halve_tells : (r u w : ℕ) → parent t (node_at k e) ≢ node_at k e → Told (Find e (Halve r u w))
    halve_tells r u w lower =
        let none = ne_eqb (parent t (node_at k e)) (node_at k e) lower in
        split (same (at t (node_at k e)) (record { rank = r; parent = u }))
        (λ found. record { failed = rw found refl; linked = rw (found, none) refl })
        (λ failed. record { failed = rw failed refl; linked = rw failed refl })

    find_tells : (s : Step) → FindKnows n (parent t) (rank t) m.labels (node_at k e) s → Told (Find e s)
    find_tells ReadNode a = node_tells
    find_tells (ReadParent r u) a = record { failed = refl; linked = refl }
    find_tells (Halve r u w) a = halve_tells r u w a.parent.lower
    find_tells (ReadAgain u) a = record { failed = refl; linked = refl }

  module _ (r : ℕ) (e : Bool) where
    -- a link that writes has seen a root, and y is another node
    link_tells : {q : Request} → Linking m q k.x k.y r → Told (Link r e)
    link_tells a =
        split (same (at t k.x) (record { rank = r; parent = k.x }))
        (λ found.
        let rank_is = found_rank t k.x (record { rank = r; parent = k.x }) found in
        let root = eq-eqb (parent t k.x) k.x (found_parent t k.x (record { rank = r; parent = k.x }) found) in
        let other = ne_eqb k.y k.x (λ one. omega (arith, a.before, rank_is, ap (rank t) one)) in
        record { failed = rw found refl; linked = rw (found, root, other) refl })
        (λ failed. record { failed = rw failed refl; linked = rw failed refl })

  -- a raise keeps its node a root
  raise_links : (r : ℕ) → false ≡ links (raising k.y r) (at t k.y)
  raise_links r =
      rw (eq-eqb k.y k.y refl) (stays (same (at t k.y) (record { rank = r; parent = k.y })) (eqb (parent t k.y) k.y))
    where
      stays : (b c : Bool) → false ≡ cond b (cond c (not true) false) false
      stays true true = refl
      stays true false = refl
      stays false c = refl

  pub stage_agrees : (q : Request) (st : Stage) → Knows m q k st → Told st
  stage_agrees q Resting a = record { failed = refl; linked = refl }
  stage_agrees q (Find e s) a = find_tells e s a.find
  stage_agrees q (RereadX point) a =
      cond_both (Quiet (at t k.x) k.x) (eqb (parent t k.x) k.x)
      (record { failed = refl; linked = refl }) (record { failed = refl; linked = refl })
  stage_agrees q ReadRankX a = record { failed = refl; linked = refl }
  stage_agrees q (ReadRankY r) a =
      cond_both (Quiet (at t k.y) k.y) (before (rank t k.y) k.y r k.x)
      (record { failed = refl; linked = refl }) (record { failed = refl; linked = refl })
  stage_agrees q (Link r e) a = link_tells r e a
  stage_agrees q (Raise r) a = record { failed = refl; linked = raise_links r }
  stage_agrees q ReadRankLinked a = record { failed = refl; linked = refl }
  stage_agrees q (RaiseFound r) a = record { failed = refl; linked = raise_links r }
