-- One step of an enquiry, stage by stage: the table stays admitted, its sets stay, and an answer is right about them.
--
-- B gives each node a label: two nodes have one label when they share a set.
--
--   moment_here n t B used      the moment that a head's knowledge is told against, after so many grants on the table t
--   Says B x y answer           the answer is right about the sets of x and y
--   Serving n B x y t used h    what holds of the enquiry about x and y after so many grants, on the table t of n nodes
--   Next t' next                what holds of the enquiry after the grant that led to `next`, on the table t'
--
-- Main laws: serving_step, what holds of an enquiry holds after one step more; serving_start, it holds at the start.
use mathlib.Core.Path.{◌≡◌, refl, sym, ap, ◌∙◌, subst}
use mathlib.Core.Logic.{◌≢◌}
use mathlib.Core.Bool.{Bool, true, false, true≢false}
use mathlib.Core.List.{List}
use Prim.Native.Nat.{ℕ, suc, ◌<◌}
use native.Mathlib.Omega.{arith}
use lib.Dec.{eqb}
use borrow.Author.Tests.{eqb-true, eqb-false}
use Rattle.basics.proofs.Conditions.{split}
use Rattle.job.specs.declared.Kind.TheVariants.{Union, SameSet}
use Rattle.job.specs.declared.Answer.{Answer}
use Rattle.job.specs.declared.Answer.TheVariants.{Unfinished, Joined, Together, Yes, No}
use Rattle.job.specs.Job.{kind_number}
use Rattle.word.specs.declared.Node.{Node}
use Rattle.process.specs.declared.Step.{Step}
use Rattle.process.specs.declared.Step.TheVariants.{ReadNode}
use Rattle.process.specs.declared.Errand.{Errand}
use Rattle.process.specs.declared.Errand.TheVariants.{UnionX, UnionY, SameX, SameY, Tidy}
use Rattle.process.specs.declared.Stage.{Stage}
use Rattle.process.specs.declared.Stage.TheVariants.{Resting, Find, RereadX, ReadRankX, ReadRankY, Link, Raise, ReadRankLinked, RaiseFound}
use Rattle.process.specs.declared.Task.{Task}
use Rattle.process.specs.declared.Head.{Head}
use Rattle.process.specs.declared.Advanced.{Advanced}
use Rattle.process.specs.Process.{traits_of, is_resting, tidies, kind_of, node_at, moved_to, restart, begin}
use Rattle.process.specs.Find.{find_access, Walked, walked}
use Rattle.process.specs.Find.Walked.{On, Failed, Up, Ended}
use Rattle.process.specs.Access.{access_at, access_of}
use Rattle.process.specs.Advance.{compared, ended, followed, reread, advance_at, advance_of}
use Rattle.forest.proofs.Forest.{Labelled}
use Rattle.rules.specs.Report.{is_final}
use Rattle.rules.specs.Table.{at, parent, rank, seen, touched}
use Rattle.rules.proofs.Finds.{Walks, find_walks, find_halved}
use Rattle.rules.proofs.Stages.{Moment, Inside, Finding, Pair, Searching, Rereading, Knows, find_node, finding_begin, restart_knows}
use Rattle.rules.proofs.Steps.{ends_one, ends_two, searching_moved}
use Rattle.table.specs.Admitted.{Admitted}
use Rattle.table.specs.Touch.{Within}
use Rattle.table.proofs.Admitted.{admitted_formed}
use Rattle.table.proofs.Within.{access_within}
use Rattle.query.specs.Query.{granted, same_set}
use Rattle.query.proofs.Halving.{Kept, unwritten, halved_keeps}

-- Nobody else writes, so the sets are the same at every point.
abbrev pub moment_here : (n : ℕ) → List Node → (ℕ → ℕ) → ℕ → Moment n
moment_here n t B used = record { table = t; labels = B; labels_at = λ point. B; now = used }

abbrev pub Says : (ℕ → ℕ) → ℕ → ℕ → Answer → Type 0
Says B x y Unfinished = Unit {0}
Says B x y Joined = ⊥
Says B x y Together = ⊥
Says B x y Yes = B x ≡ B y
Says B x y No = B x ≢ B y

pub record Serving (n : ℕ) (B : ℕ → ℕ) (x y : ℕ) (t : List Node) (used : ℕ) (h : Head) (answer : Answer) : Type 0 where
  pub admitted : Admitted n t
  pub labelled : Labelled n (parent t) B
  -- the enquiry is about nodes
  pub inside : Inside n (same_set x y)
  -- what the head knows at its stage
  pub knows : Knows (moment_here n t B used) (same_set x y) h.task h.stage
  -- the head rests when it has answered
  pub rests : is_resting h ≡ is_final answer
  pub says : Says B x y answer

-- an answer that is not final is none
pub unfinished : (answer : Answer) → is_final answer ≡ false → answer ≡ Unfinished
unfinished Unfinished e = refl
unfinished Joined e = absurd (true≢false e)
unfinished Together e = absurd (true≢false e)
unfinished Yes e = absurd (true≢false e)
unfinished No e = absurd (true≢false e)

-- a same-set is no union
pub no_union : {A : Type 0} → SameSet ≡ Union → A
no_union e = let z : ◌≡◌ {A = ℕ} 2 1 = ap kind_number e in absurd (omega arith)

module _ {n : ℕ} (B : ℕ → ℕ) {a b : ℕ} (inside : Inside n (same_set a b)) (used : ℕ) (k : Task) where
  abbrev Next : List Node → Advanced → Type 0
  Next t' next = Serving n B a b t' (suc used) next.head next.event.answer

  -- what a same-set knows of x and y is no matter of the table, since it links nothing
  same_pair : (t t' : List Node) (e : Errand) (tidy : Bool) → Pair n t B (same_set a b) (kind_of e) k.x k.y tidy
      → Pair n t' B (same_set a b) (kind_of e) k.x k.y tidy
  same_pair t t' e false f = f
  same_pair t t' e true f = no_union f.kind

  module _ {t t' : List Node} (after : Kept n t t' B) where
    -- the enquiry goes on
    goes_on : (k' : Task) (next : Stage) → (traits_of next).resting ≡ false
        → Knows (moment_here n t' B (suc used)) (same_set a b) k' next
        → Serving n B a b t' (suc used) (record { stage = next; task = k' }) Unfinished
    goes_on k' next busy knows =
        record { admitted = after.admitted; labelled = after.labelled; inside = inside; knows = knows; rests = busy; says = tt }

    -- or is answered
    answers : (answer : Answer) → is_final answer ≡ true → Says B a b answer
        → Serving n B a b t' (suc used) (record { stage = Resting; task = k }) answer
    answers answer final says =
        record { admitted = after.admitted; labelled = after.labelled; inside = inside; knows = tt; rests = sym final; says = says }

    -- ---- the end of a find

    -- at two nodes: if x is a root, their sets are two
    two_nodes : Finding n B (same_set a b) SameSet k.x k.y → parent t' k.y ≡ k.y → eqb k.x k.y ≡ false
        → Next t' (compared k SameSet (suc used))
    two_nodes f root e =
        rw e
        (goes_on k (RereadX (suc used)) refl
        (record {
          finding = f;
          positive = omega arith;
          until = omega arith;
          apart = λ r. ends_two f.ends
              (λ s. eqb-false k.x k.y e (after.labelled.apart k.x k.y f.left f.right r root s));
        }))

    one_node : Finding n B (same_set a b) SameSet k.x k.y → eqb k.x k.y ≡ true → Next t' (compared k SameSet (suc used))
    one_node f e = rw e (answers Yes refl (ends_one f.ends (eqb-true k.x k.y e)))

    find_ended : (e : Errand) → Searching (moment_here n t' B (suc used)) (same_set a b) k e ReadNode
        → parent t' (node_at k e) ≡ node_at k e → Next t' (ended k e (suc used))
    find_ended UnionX knows root = no_union knows.pair.kind
    find_ended UnionY knows root = no_union knows.pair.kind
    find_ended SameX knows root = goes_on k (Find SameY ReadNode) refl (record { pair = knows.pair; find = tt })
    find_ended SameY knows root =
        split (eqb k.x k.y) (λ one. one_node knows.pair one) (λ two. two_nodes knows.pair root two)
    find_ended Tidy knows root = no_union knows.pair.kind

    -- where the find goes
    follows : (e : Errand) (w : Walked) → Searching (moment_here n t' B (suc used)) (same_set a b) k e ReadNode
        → Walks n t' B (node_at k e) w → Next t' (followed k e (suc used) w)
    follows e (On next) f knows = goes_on k (Find e next) refl (record { pair = f.pair; find = knows })
    follows e (Failed next) f knows = goes_on k (Find e next) refl (record { pair = f.pair; find = knows })
    follows e (Up v) f moved = goes_on (moved_to k e v) (Find e ReadNode) refl (searching_moved k e v f moved)
    follows e Ended f root = find_ended e f root

  -- ---- one grant

  module _ {t : List Node} (admitted : Admitted n t) (labelled : Labelled n (parent t) B) where
    module _ (e : Errand) (s : Step) (knows : Searching (moment_here n t B used) (same_set a b) k e s) where
      node : node_at k e < n
      node = find_node knows

      pub find_keeps : Kept n t (touched t (find_access (node_at k e) s)) B
      find_keeps = halved_keeps admitted labelled (find_halved t admitted.nodes (admitted_formed admitted) labelled node s knows.find)

      find_step : Next (touched t (find_access (node_at k e) s))
          (followed k e (suc used) (walked (node_at k e) (seen t (find_access (node_at k e) s)) s))
      find_step =
          follows find_keeps e (walked (node_at k e) (seen t (find_access (node_at k e) s)) s)
          (record { pair = same_pair t (touched t (find_access (node_at k e) s)) e (tidies e) knows.pair; find = tt })
          (find_walks t admitted.nodes (admitted_formed admitted) labelled node s knows.find)

    reread_x : (point : ℕ) → Rereading (moment_here n t B used) (same_set a b) k.x k.y point
        → Next t (reread k point (at t k.x))
    reread_x point knows =
        let same = unwritten admitted labelled in
        split (eqb (parent t k.x) k.x)
        (λ e. rw e (answers same No refl (knows.apart (eqb-true (parent t k.x) k.x e))))
        (λ e. rw e (goes_on same k (restart SameSet) refl (restart_knows SameSet k knows.finding)))

    -- every stage; a same-set has none of a union's
    stage_step : (stage : Stage) → (traits_of stage).resting ≡ false
        → Knows (moment_here n t B used) (same_set a b) k stage
        → Next (touched t (access_at k stage)) (advance_at k (seen t (access_at k stage)) (suc used) stage)
    stage_step Resting busy knows = absurd (true≢false busy)
    stage_step (Find e s) busy knows = find_step e s knows
    stage_step (RereadX point) busy knows = reread_x point knows
    stage_step ReadRankX busy knows = no_union knows.finding.kind
    stage_step (ReadRankY r) busy knows = no_union knows.finding.kind
    stage_step (Link r e) busy knows = no_union knows.finding.kind
    stage_step (Raise r) busy knows = no_union knows.linked.kind
    stage_step ReadRankLinked busy knows = no_union knows.kind
    stage_step (RaiseFound r) busy knows = no_union knows.linked.kind

    stage_ranks : (stage : Stage) → Knows (moment_here n t B used) (same_set a b) k stage
        → (i : ℕ) → rank (touched t (access_at k stage)) i ≡ rank t i
    stage_ranks Resting knows i = refl
    stage_ranks (Find e s) knows i = (find_keeps e s knows).ranks i
    stage_ranks (RereadX point) knows i = refl
    stage_ranks ReadRankX knows i = refl
    stage_ranks (ReadRankY r) knows i = refl
    stage_ranks (Link r e) knows i = no_union knows.finding.kind
    stage_ranks (Raise r) knows i = no_union knows.linked.kind
    stage_ranks ReadRankLinked knows i = refl
    stage_ranks (RaiseFound r) knows i = no_union knows.linked.kind

module _ {n : ℕ} {t : List Node} {B : ℕ → ℕ} {a b used : ℕ} {h : Head} {answer : Answer} (serving : Serving n B a b t used h answer) where
  pub serving_step : is_final answer ≡ false
      → Serving n B a b (touched t (access_of h)) (suc used) (granted h t used).head (granted h t used).event.answer
  unfolding access_of advance_of
  serving_step unfinished =
      stage_step B serving.inside used h.task serving.admitted serving.labelled h.stage (serving.rests ∙ unfinished)
      serving.knows

  -- no step changes a rank
  pub serving_ranks : (i : ℕ) → rank (touched t (access_of h)) i ≡ rank t i
  unfolding access_of
  serving_ranks =
      stage_ranks B serving.inside used h.task serving.admitted serving.labelled h.stage serving.knows

  -- ---- what the code needs of the head's stage

  pub serving_within : Within n (access_of h)
  unfolding access_of
  serving_within =
      access_within (moment_here n t B used) (same_set a b) h.task h.stage serving.knows

-- the enquiry goes on where the step gave no answer
pub serving_goes_on : {n : ℕ} {t : List Node} {B : ℕ → ℕ} {a b used : ℕ} {h : Head} → Serving n B a b t used h Unfinished
    → is_final (granted h t used).event.answer ≡ false
    → Serving n B a b (touched t (access_of h)) (suc used) (granted h t used).head Unfinished
serving_goes_on {n} {t} {B} {a} {b} {used} {h} serving e =
    subst
    (Serving n B a b (touched t (access_of h)) (suc used) (granted h t used).head)
    (unfinished (granted h t used).event.answer e)
    (serving_step serving refl)

-- an enquiry begins with its own two nodes
pub serving_start : {n : ℕ} {t : List Node} {B : ℕ → ℕ} {a b : ℕ} → Admitted n t → Labelled n (parent t) B → Inside n (same_set a b)
    → Serving n B a b t 0 (begin (same_set a b) 0) Unfinished
serving_start {a = a} {b = b} admitted labelled inside =
    record {
      admitted = admitted;
      labelled = labelled;
      inside = inside;
      knows = restart_knows SameSet (begin (same_set a b) 0).task (finding_begin (same_set a b) inside);
      rests = refl;
      says = tt;
    }
