-- What a head knows at each stage of its request, and why other heads' grants leave it so (invariants 4 and 5).
-- Everywhere m is the moment at which it knows it, q its request and k its task.
--
--   Moment n            what stands between two grants of a run on n nodes
--   Apart m q point     the request's two nodes were in two sets at that point
--   Inside n q          the request's two nodes are nodes
--   Within n k          so are the two of its task
--   Finding kind x y    x and y stand for the request's two nodes, and the request is of that kind
--   Linked x y          the union has linked x, and y is in its set
--   Pair kind x y b     which of the two, by whether the request has linked
--   Searching k e s     what is known at step s of a find on errand e: the request's part and the find's,
--   Rereading           at a same-set's last read,
--   ReadingRanks, Linking, Raising   and at a union's stages after its finds
--   Knows m q k stage   which of these a head with the task k knows at that stage
--   Onward m m'         m' is a later moment than m
--
-- Main laws: finding_begin and restart_knows, at the start of a request; knows_within, the two nodes of every task that serves a
-- request are nodes; knows_later, what is known survives any later moment.
use mathlib.Core.Path.{◌≡◌, refl, sym, subst}
use mathlib.Core.Logic.{◌≢◌}
use mathlib.Core.Bool.{Bool, true, false, true≢false}
use mathlib.Core.List.{List}
use Prim.Native.Nat.{ℕ, suc, ◌^◌, ◌≤◌, ◌<◌}
use native.Mathlib.Omega.{arith}
use Rattle.basics.proofs.Conditions.{cond_both}
use Rattle.job.specs.declared.Kind.{Kind}
use Rattle.job.specs.declared.Kind.TheVariants.{Union, SameSet}
use Rattle.job.specs.declared.Request.{Request}
use Rattle.word.specs.declared.Node.{Node}
use Rattle.word.specs.Word.{key}
use Rattle.process.specs.declared.Step.{Step}
use Rattle.process.specs.declared.Step.TheVariants.{ReadNode}
use Rattle.process.specs.declared.Errand.{Errand}
use Rattle.process.specs.declared.Stage.{Stage}
use Rattle.process.specs.declared.Stage.TheVariants.{Resting, Find, RereadX, ReadRankX, ReadRankY, Link, Raise, ReadRankLinked, RaiseFound}
use Rattle.process.specs.declared.Task.{Task}
use Rattle.process.specs.Process.{traits_of, tidies, kind_of, serves_x, node_at, first_errand, restart}
use Rattle.forest.proofs.Size.{size}
use Rattle.forest.proofs.Merge.{Ends}
use Rattle.forest.proofs.Merge.Ends.{straight}
use Rattle.forest.proofs.Later.{Later, later_ends}
use Rattle.linearization.specs.Partition.{Labels}
use Rattle.rules.specs.Table.{parent, rank}
use Rattle.rules.proofs.Finds.{FindKnows, find_later}

-- What stands between two grants of a run on n nodes.
pub record Moment (n : ℕ) : Type 0 where
  pub table : List Node
  -- the labels of the sets, now and as they were at each point
  pub labels : Labels
  pub labels_at : ℕ → Labels
  -- the number of grants so far
  pub now : ℕ

-- The request's two nodes were in two sets at the point.
abbrev pub Apart : {n : ℕ} → Moment n → Request → ℕ → Type 0
Apart m q point = m.labels_at point q.x ≢ m.labels_at point q.y

-- The request's two nodes are nodes.
pub record Inside (n : ℕ) (request : Request) : Type 0 where
  pub x : request.x < n
  pub y : request.y < n

-- The two nodes that a task has come to are nodes.
pub record Within (n : ℕ) (k : Task) : Type 0 where
  pub x : k.x < n
  pub y : k.y < n

-- Every stage before the link.
pub record Finding (n : ℕ) (B : ℕ → ℕ) (request : Request) (wanted : Kind) (x y : ℕ) : Type 0 where
  pub left : x < n
  pub right : y < n
  -- x and y are in the sets of the request's nodes, straight, or crossed after an exchange
  pub ends : Ends B request.x request.y x y
  pub kind : request.kind ≡ wanted

-- Every stage after the link.
pub record Linked (n : ℕ) (t : List Node) (B : ℕ → ℕ) (request : Request) (x y : ℕ) : Type 0 where
  pub left : x < n
  pub right : y < n
  pub kind : request.kind ≡ Union
  -- x was linked, so that it is no root, and y is in its set
  pub lower : parent t x ≢ x
  pub same : B y ≡ B x

-- A find is made before the link or after it.
abbrev pub Pair : (n : ℕ) → List Node → (ℕ → ℕ) → Request → Kind → ℕ → ℕ → Bool → Type 0
Pair n t B q kind x y false = Finding n B q kind x y
Pair n t B q kind x y true = Linked n t B q x y

-- Some step of a find.
pub record Searching {n : ℕ} (m : Moment n) (request : Request) (k : Task) (e : Errand) (s : Step) : Type 0 where
  pub pair : Pair n m.table m.labels request (kind_of e) k.x k.y (tidies e)
  pub find : FindKnows n (parent m.table) (rank m.table) m.labels (node_at k e) s

-- About to read x's word again, with a point at which the answer no would stand.
pub record Rereading {n : ℕ} (m : Moment n) (request : Request) (x y point : ℕ) : Type 0 where
  pub finding : Finding n m.labels request SameSet x y
  pub positive : 1 ≤ point
  pub until : point ≤ m.now
  -- if x is a root now, it was one at the point, and the two nodes were apart there
  pub apart : parent m.table x ≡ x → Apart m request point

-- About to read x's rank, and then y's.
pub record ReadingRanks {n : ℕ} (m : Moment n) (request : Request) (x y low : ℕ) : Type 0 where
  pub finding : Finding n m.labels request Union x y
  pub distinct : x ≢ y
  -- the rank read of x, if any, has not fallen
  pub rank : low ≤ rank m.table x

-- About to swap x's parent to y.
pub record Linking {n : ℕ} (m : Moment n) (request : Request) (x y k : ℕ) : Type 0 where
  pub finding : Finding n m.labels request Union x y
  -- x with the rank read comes before y
  pub before : key k x < key (rank m.table y) y
  pub rank : k ≤ rank m.table x

-- About to raise y's rank.
pub record Raising {n : ℕ} (m : Moment n) (request : Request) (x y k : ℕ) : Type 0 where
  pub linked : Linked n m.table m.labels request x y
  -- y's set has the nodes that the higher rank asks for
  pub weight : 2 ^ suc k ≤ size n m.labels (m.labels y)

abbrev pub Knows : {n : ℕ} → Moment n → Request → Task → Stage → Type 0
Knows m q k Resting = Unit {0}
Knows m q k (Find e s) = Searching m q k e s
Knows m q k (RereadX point) = Rereading m q k.x k.y point
Knows m q k ReadRankX = ReadingRanks m q k.x k.y 0
Knows m q k (ReadRankY rank) = ReadingRanks m q k.x k.y rank
Knows m q k (Link rank e) = Linking m q k.x k.y rank
Knows m q k (Raise rank) = Raising m q k.x k.y rank
Knows {n} m q k ReadRankLinked = Linked n m.table m.labels q k.x k.y
Knows m q k (RaiseFound rank) = Raising m q k.x k.y rank

-- A head begins its request, or tries again, with x and y that stand for its two nodes.
pub finding_begin : {n : ℕ} {B : ℕ → ℕ} (q : Request) → Inside n q → Finding n B q q.kind q.x q.y
finding_begin q inside = record { left = inside.x; right = inside.y; ends = straight refl refl; kind = refl }

pub restart_knows : {n : ℕ} {m : Moment n} {q : Request} (kind : Kind) (k : Task)
    → Finding n m.labels q kind k.x k.y → Searching m q k (first_errand kind) ReadNode
restart_knows Union k f = record { pair = f; find = tt }
restart_knows SameSet k f = record { pair = f; find = tt }

pub restart_unlinked : (kind : Kind) → (traits_of (restart kind)).linked ≡ false
restart_unlinked Union = refl
restart_unlinked SameSet = refl

-- ---- what every stage knows

module _ {n : ℕ} (m : Moment n) (q : Request) (k : Task) where
  finding_within : {kind : Kind} → Finding n m.labels q kind k.x k.y → Within n k
  finding_within f = record { x = f.left; y = f.right }

  linked_within : Linked n m.table m.labels q k.x k.y → Within n k
  linked_within a = record { x = a.left; y = a.right }

  pair_within : (kind : Kind) (b : Bool) → Pair n m.table m.labels q kind k.x k.y b → Within n k
  pair_within kind false f = finding_within f
  pair_within kind true a = linked_within a

  pub knows_within : (st : Stage) → (traits_of st).resting ≡ false → Knows m q k st → Within n k
  knows_within Resting busy a = absurd (true≢false busy)
  knows_within (Find e s) busy a = pair_within (kind_of e) (tidies e) a.pair
  knows_within (RereadX point) busy a = finding_within a.finding
  knows_within ReadRankX busy a = finding_within a.finding
  knows_within (ReadRankY rank) busy a = finding_within a.finding
  knows_within (Link rank e) busy a = finding_within a.finding
  knows_within (Raise rank) busy a = linked_within a.linked
  knows_within ReadRankLinked busy a = linked_within a
  knows_within (RaiseFound rank) busy a = linked_within a.linked

  -- a pending point is not beyond the present grant
  pub pending_until : (st : Stage) → Knows m q k st → (traits_of st).pending ≤ m.now
  pending_until Resting a = omega arith
  pending_until (Find e s) a = omega arith
  pending_until (RereadX point) a = a.until
  pending_until ReadRankX a = omega arith
  pending_until (ReadRankY rank) a = omega arith
  pending_until (Link rank e) a = omega arith
  pending_until (Raise rank) a = omega arith
  pending_until ReadRankLinked a = omega arith
  pending_until (RaiseFound rank) a = omega arith

-- the node that a find has come to is one
pub find_node : {n : ℕ} {m : Moment n} {q : Request} {k : Task} {e : Errand} {s : Step} → Searching m q k e s → node_at k e < n
find_node {n} {m} {q} {k} {e} {s} a =
    let within = knows_within m q k (Find e s) refl a in
    cond_both (λ v. v < n) (serves_x e) within.x within.y

-- ---- what survives a later moment

pub record Onward {n : ℕ} (m m' : Moment n) : Type 0 where
  pub table : Later n (parent m.table) (rank m.table) m.labels (parent m'.table) (rank m'.table) m'.labels
  pub passes : m.now ≤ m'.now
  -- the sets up to an earlier point stay
  pub settled : (point : ℕ) → point ≤ m.now → m'.labels_at point ≡ m.labels_at point

module _ {n : ℕ} {m m' : Moment n} (onward : Onward m m') {q : Request} (inside : Inside n q) where
  finding_later : {kind : Kind} {x y : ℕ} → Finding n m.labels q kind x y → Finding n m'.labels q kind x y
  finding_later {x = x} {y = y} f =
      record {
        left = f.left;
        right = f.right;
        ends = later_ends onward.table q.x q.y x y inside.x inside.y f.left f.right f.ends;
        kind = f.kind;
      }

  pub linked_later : {x y : ℕ} → Linked n m.table m.labels q x y → Linked n m'.table m'.labels q x y
  linked_later {x} {y} a =
      record {
        left = a.left;
        right = a.right;
        kind = a.kind;
        lower = λ root. a.lower (onward.table.root x a.left root);
        same = onward.table.merges y x a.right a.left a.same;
      }

  pair_later : (kind : Kind) (x y : ℕ) (b : Bool) → Pair n m.table m.labels q kind x y b
      → Pair n m'.table m'.labels q kind x y b
  pair_later kind x y false f = finding_later f
  pair_later kind x y true f = linked_later f

  pub searching_later : (k : Task) (e : Errand) (s : Step) → Searching m q k e s → Searching m' q k e s
  searching_later k e s a =
      record {
        pair = pair_later (kind_of e) k.x k.y (tidies e) a.pair;
        find = find_later onward.table (find_node a) s a.find;
      }

  rereading_later : {x y point : ℕ} → Rereading m q x y point → Rereading m' q x y point
  rereading_later {x} {y} {point} a =
      record {
        finding = finding_later a.finding;
        positive = a.positive;
        until = omega (arith, a.until, onward.passes);
        apart = λ e. subst (λ C. C q.x ≢ C q.y) (sym (onward.settled point a.until))
            (a.apart (onward.table.root x a.finding.left e));
      }

  ranks_later : {x y low : ℕ} → ReadingRanks m q x y low → ReadingRanks m' q x y low
  ranks_later {x} a =
      record {
        finding = finding_later a.finding;
        distinct = a.distinct;
        rank = omega (arith, onward.table.grows x a.finding.left, a.rank);
      }

  linking_later : {x y k : ℕ} → Linking m q x y k → Linking m' q x y k
  linking_later {x} {y} a =
      record {
        finding = finding_later a.finding;
        rank = omega (arith, onward.table.grows x a.finding.left, a.rank);
        before = omega (arith, onward.table.grows y a.finding.right, a.before);
      }

  raising_later : {x y k : ℕ} → Raising m q x y k → Raising m' q x y k
  raising_later {x} {y} a =
      record {
        linked = linked_later a.linked;
        weight = omega (arith, onward.table.larger y a.linked.right, a.weight);
      }

  pub knows_later : (k : Task) (st : Stage) → Knows m q k st → Knows m' q k st
  knows_later k Resting a = a
  knows_later k (Find e s) a = searching_later k e s a
  knows_later k (RereadX point) a = rereading_later a
  knows_later k ReadRankX a = ranks_later a
  knows_later k (ReadRankY rank) a = ranks_later a
  knows_later k (Link rank e) a = linking_later a
  knows_later k (Raise rank) a = raising_later a
  knows_later k ReadRankLinked a = linked_later a
  knows_later k (RaiseFound rank) a = raising_later a
