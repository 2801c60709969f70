-- What every step of a head keeps: the request that it serves, and what its x and y say of the request's two nodes.
--
--   Keeps k h         the head h has the request of the task k, and waits for what it waits for
--
-- Main laws: advance_keeps, no step changes the request served or what the head waits for; ends_one and ends_two, from x and y to
-- the request's two nodes; searching_moved and finding_exchange, x or y moves within its set, or the two are exchanged.
use mathlib.Core.Path.{◌≡◌, refl, sym, ap, ◌∙◌}
use mathlib.Core.Logic.{◌≢◌}
use mathlib.Core.Bool.{Bool, true, false, cond}
use Prim.Native.Nat.{ℕ}
use lib.Dec.{eqb}
use Rattle.basics.proofs.Conditions.{cond_both}
use Rattle.job.specs.declared.Kind.{Kind}
use Rattle.job.specs.declared.Request.{Request}
use Rattle.word.specs.declared.Node.{Node}
use Rattle.word.specs.Word.{same, before}
use Rattle.process.specs.declared.Step.{Step}
use Rattle.process.specs.declared.Step.TheVariants.{ReadNode}
use Rattle.process.specs.Find.{Walked}
use Rattle.process.specs.Find.Walked.{On, Failed, Up, Ended}
use Rattle.process.specs.declared.Errand.{Errand}
use Rattle.process.specs.declared.Errand.TheVariants.{UnionX, UnionY, SameX, SameY, Tidy}
use Rattle.process.specs.declared.Stage.{Stage}
use Rattle.process.specs.declared.Stage.TheVariants.{Resting, Find, RereadX, ReadRankX, ReadRankY, Link, Raise, ReadRankLinked, RaiseFound}
use Rattle.process.specs.declared.Task.{Task}
use Rattle.process.specs.declared.Head.{Head}
use Rattle.process.specs.declared.Advanced.{Advanced}
use Rattle.process.specs.Process.{serves_x, node_at, moved_to}
use Rattle.process.specs.Find.{walked}
use Rattle.process.specs.Advance.{ended, followed, advance_at}
use Rattle.forest.proofs.Merge.{Ends}
use Rattle.forest.proofs.Merge.Ends.{straight, crossed}
use Rattle.rules.proofs.Finds.{Moved}
use Rattle.rules.proofs.Stages.{Moment, Finding, Searching}

-- ---- a head keeps its request

pub record Keeps (k : Task) (h : Head) : Type 0 where
  pub request : h.task.request ≡ k.request
  pub waits : h.task.waits ≡ k.waits

module _ (k : Task) where
  kept : {st : Stage} {x y : ℕ} → Keeps k (record { stage = st; task = record { x = x; y = y; request = k.request; waits = k.waits } })
  kept = record { request = refl; waits = refl }

  abbrev AllKept : Advanced → Type 0
  AllKept a = Keeps k a.head

  ended_keeps : (e : Errand) (now : ℕ) → Keeps k (ended k e now).head
  ended_keeps UnionX now = kept
  ended_keeps UnionY now = cond_both AllKept (eqb k.x k.y) kept kept
  ended_keeps SameX now = kept
  ended_keeps SameY now = cond_both AllKept (eqb k.x k.y) kept kept
  ended_keeps Tidy now = kept

  followed_keeps : (e : Errand) (now : ℕ) (w : Walked) → Keeps k (followed k e now w).head
  followed_keeps e now (On s) = kept
  followed_keeps e now (Failed s) = kept
  followed_keeps e now (Up v) = kept
  followed_keeps e now Ended = ended_keeps e now

  pub advance_keeps : (w : Node) (now : ℕ) (st : Stage) → Keeps k (advance_at k w now st).head
  advance_keeps w now Resting = kept
  advance_keeps w now (Find e s) = followed_keeps e now (walked (node_at k e) w s)
  advance_keeps w now (RereadX p) = cond_both AllKept (eqb w.parent k.x) kept kept
  advance_keeps w now ReadRankX = kept
  advance_keeps w now (ReadRankY r) = cond_both AllKept (before w.rank k.y r k.x) kept kept
  advance_keeps w now (Link r e) = cond_both AllKept (same w (record { rank = r; parent = k.x }))
      (cond_both (Keeps k) e kept kept) kept
  advance_keeps w now (Raise r) = kept
  advance_keeps w now ReadRankLinked = kept
  advance_keeps w now (RaiseFound r) = kept

-- ---- what x and y say of the request's nodes

pub ends_one : {B : ℕ → ℕ} {a b x y : ℕ} → Ends B a b x y → x ≡ y → B a ≡ B b
ends_one {B} (straight e f) d = sym e ∙ ap B d ∙ f
ends_one {B} (crossed e f) d = sym f ∙ ap B (sym d) ∙ e

pub ends_two : {B : ℕ → ℕ} {a b x y : ℕ} → Ends B a b x y → B x ≢ B y → B a ≢ B b
ends_two (straight e f) d s = d (e ∙ s ∙ sym f)
ends_two (crossed e f) d s = d (e ∙ sym s ∙ sym f)

ends_exchange : {B : ℕ → ℕ} {a b x y : ℕ} → Ends B a b x y → Ends B a b y x
ends_exchange (straight e f) = crossed f e
ends_exchange (crossed e f) = straight f e

pub finding_exchange : {n : ℕ} {B : ℕ → ℕ} {q : Request} {k : Kind} {x y : ℕ} → Finding n B q k x y → Finding n B q k y x
finding_exchange f = record { left = f.right; right = f.left; ends = ends_exchange f.ends; kind = f.kind }

ends_left : {B : ℕ → ℕ} {a b x y u : ℕ} → B u ≡ B x → Ends B a b x y → Ends B a b u y
ends_left s (straight e f) = straight (s ∙ e) f
ends_left s (crossed e f) = crossed (s ∙ e) f

-- the find moves to another node of its set
finding_moved : {n : ℕ} {B : ℕ → ℕ} {q : Request} {kind : Kind} (k : Task) (e : Errand) (u : ℕ)
    → Finding n B q kind k.x k.y → Moved n B (node_at k e) u → Finding n B q kind (moved_to k e u).x (moved_to k e u).y
finding_moved {n} {B} {q} {kind} k e u f moved = go (serves_x e) moved.same
  where
    go : (b : Bool) → B u ≡ B (cond b k.x k.y) → Finding n B q kind (cond b u k.x) (cond b k.y u)
    go true one = record { left = moved.node; right = f.right; ends = ends_left one f.ends; kind = f.kind }
    go false one =
        record { left = f.left; right = moved.node; ends = ends_exchange (ends_left one (ends_exchange f.ends)); kind = f.kind }

-- whatever its errand; after the link it is y that moves
pub searching_moved : {n : ℕ} {m : Moment n} {q : Request} {s : Step} (k : Task) (e : Errand) (u : ℕ) → Searching m q k e s
    → Moved n m.labels (node_at k e) u → Searching m q (moved_to k e u) e ReadNode
searching_moved k UnionX u a moved = record { pair = finding_moved k UnionX u a.pair moved; find = tt }
searching_moved k UnionY u a moved = record { pair = finding_moved k UnionY u a.pair moved; find = tt }
searching_moved k SameX u a moved = record { pair = finding_moved k SameX u a.pair moved; find = tt }
searching_moved k SameY u a moved = record { pair = finding_moved k SameY u a.pair moved; find = tt }
searching_moved k Tidy u a moved =
    let f = a.pair in
    record {
      pair = record { left = f.left; right = moved.node; kind = f.kind; lower = f.lower; same = moved.same ∙ f.same };
      find = tt;
    }
