-- What a grant can be to the request that it serves: five outcomes, whatever the stage.
-- The grant is made at the moment m and leaves the table t'; the request is q, its head's stage st, its step a.
--
--   after_grant m t' B'  the moment after the grant, with the labels B'
--   linked_moment m t' B' at   the same for a union that has linked, whatever the labels at the points
--   united m q        the labels that a union of the request makes
--   Kept m t' B'      the table stays sound, and the new state is a later one
--   Unlinked m t'     so it does with the same labels, and no root is lost
--   Going             the head goes on with its request
--   Closing           the two finds ended at one root: yes, or already together
--   HasLinked st      st is a stage of a union that has linked
--   Afterwards        what follows a grant of such a union: it is finished, or goes on
--   Joining           the link was written
--   Tidying           a further grant of a union that has linked
--   Denying           x is still a root: no, at the point that was pending
--   Outcome           one of the five
--   Present           what stands as the grant is made, whatever the head
--   under_way         the traits of a stage of a request that has not linked, with no pending point
--
-- Laws: united_merged; unwritten and unchanged, a grant that writes nothing; grant_onward, the grant leads to a later moment;
-- goes_on, a step to a stage with no pending point; tidies_on, a step from and to a stage that has linked.
use mathlib.Core.Path.{◌≡◌, refl, ap}
use mathlib.Core.Logic.{◌≢◌}
use mathlib.Core.Bool.{Bool, true, false}
use mathlib.Core.List.{List}
use Prim.Native.Nat.{ℕ, suc, ◌≤◌}
use native.Mathlib.Omega.{arith}
use lib.ListN.{length}
use Rattle.job.specs.declared.Kind.TheVariants.{Union, SameSet}
use Rattle.job.specs.declared.Answer.TheVariants.{Unfinished, Joined, No}
use Rattle.job.specs.declared.Request.{Request}
use Rattle.word.specs.declared.Node.{Node}
use Rattle.process.specs.declared.Stage.{Stage}
use Rattle.process.specs.declared.Stage.TheVariants.{Resting}
use Rattle.process.specs.declared.Task.{Task}
use Rattle.process.specs.declared.Advanced.{Advanced}
use Rattle.process.specs.Process.{Traits, traits, traits_of, is_resting}
use Rattle.process.specs.Advance.{together}
use Rattle.forest.specs.Forest.{root_count}
use Rattle.forest.proofs.Merge.{Merged, relabelled_merged}
use Rattle.forest.proofs.Sound.{Sound}
use Rattle.forest.proofs.Later.{Later, later_refl}
use Rattle.linearization.specs.Partition.{Labels, join}
use Rattle.rules.specs.Table.{parent, rank}
use Rattle.rules.proofs.Stages.{Moment, Apart, Inside, Knows, Onward}

abbrev pub after_grant : {n : ℕ} → Moment n → List Node → Labels → Moment n
after_grant m t' B' = record { table = t'; labels = B'; labels_at = m.labels_at; now = suc m.now }

-- A union that has linked has no pending point, and looks at no labels of earlier points.
abbrev pub linked_moment : {n : ℕ} → Moment n → List Node → Labels → (ℕ → Labels) → Moment n
linked_moment m t' B' at = record { table = t'; labels = B'; labels_at = at; now = suc m.now }

abbrev pub united : {n : ℕ} → Moment n → Request → Labels
united m q = join m.labels q.x q.y

pub united_merged : {n : ℕ} (m : Moment n) (q : Request) → Merged m.labels (united m q) q.x q.y
unfolding join
united_merged m q = relabelled_merged m.labels (united m q) q.x q.y (λ i. refl)

pub record Kept {n : ℕ} (m : Moment n) (t' : List Node) (B' : Labels) : Type 0 where
  pub sound : Sound n (parent t') (rank t') B'
  pub later : Later n (parent m.table) (rank m.table) m.labels (parent t') (rank t') B'

pub record Unlinked {n : ℕ} (m : Moment n) (t' : List Node) : Type 0 where
  pub kept : Kept m t' m.labels
  pub roots : root_count (parent t') n ≡ root_count (parent m.table) n

pub record Going {n : ℕ} (m : Moment n) (t' : List Node) (q : Request) (st : Stage) (a : Advanced) : Type 0 where
  pub table : Unlinked m t'
  pub unraised : (traits_of st).linked ≡ false
  pub unlinked : a.event.linked ≡ false
  pub unfinished : a.event.answer ≡ Unfinished
  pub unplaced : a.event.point ≡ 0
  pub busy : is_resting a.head ≡ false
  pub still : (traits_of a.head.stage).linked ≡ false
  -- a pending point is new: this grant ended the find from y
  pub proposed : (traits_of a.head.stage).pending ≢ 0 → (traits_of a.head.stage).pending ≡ suc m.now
  pub found : (traits_of a.head.stage).pending ≢ 0 → a.event.found ≡ true
  pub knows : Knows (after_grant m t' m.labels) q a.head.task a.head.stage

pub record Closing {n : ℕ} (m : Moment n) (t' : List Node) (q : Request) (st : Stage) (a : Advanced) : Type 0 where
  pub table : Unlinked m t'
  pub unraised : (traits_of st).linked ≡ false
  pub unlinked : a.event.linked ≡ false
  pub found : a.event.found ≡ true
  pub answer : a.event.answer ≡ together q.kind
  pub point : a.event.point ≡ suc m.now
  pub rests : a.head.stage ≡ Resting
  pub one_set : m.labels q.x ≡ m.labels q.y

pub record HasLinked (st : Stage) : Type 0 where
  pub busy : (traits_of st).resting ≡ false
  pub linked : (traits_of st).linked ≡ true
  pub unpending : (traits_of st).pending ≡ 0

pub data Afterwards {n : ℕ} (m : Moment n) (t' : List Node) (B' : Labels) (q : Request) (a : Advanced) : Type 0 where
  finished : a.event.answer ≡ Joined → a.head.stage ≡ Resting → Afterwards m t' B' q a
  continuing : a.event.answer ≡ Unfinished → HasLinked a.head.stage
      → ((at : ℕ → Labels) → Knows (linked_moment m t' B' at) q a.head.task a.head.stage) → Afterwards m t' B' q a

pub record Joining {n : ℕ} (m : Moment n) (t' : List Node) (q : Request) (st : Stage) (a : Advanced) : Type 0 where
  pub kept : Kept m t' (united m q)
  pub roots : suc (root_count (parent t') n) ≡ root_count (parent m.table) n
  pub unraised : (traits_of st).linked ≡ false
  pub kind : q.kind ≡ Union
  pub linked : a.event.linked ≡ true
  pub point : a.event.point ≡ suc m.now
  pub two_sets : m.labels q.x ≢ m.labels q.y
  pub after : Afterwards m t' (united m q) q a

pub record Tidying {n : ℕ} (m : Moment n) (t' : List Node) (q : Request) (st : Stage) (a : Advanced) : Type 0 where
  pub table : Unlinked m t'
  pub raised : (traits_of st).linked ≡ true
  pub kind : q.kind ≡ Union
  pub unlinked : a.event.linked ≡ false
  pub unplaced : a.event.point ≡ 0
  pub after : Afterwards m t' m.labels q a

pub record Denying {n : ℕ} (m : Moment n) (t' : List Node) (q : Request) (st : Stage) (a : Advanced) : Type 0 where
  pub table : Unlinked m t'
  pub unraised : (traits_of st).linked ≡ false
  pub kind : q.kind ≡ SameSet
  pub unlinked : a.event.linked ≡ false
  pub unfound : a.event.found ≡ false
  pub answer : a.event.answer ≡ No
  pub point : a.event.point ≡ (traits_of st).pending
  pub rests : a.head.stage ≡ Resting
  pub positive : 1 ≤ (traits_of st).pending
  pub until : (traits_of st).pending ≤ m.now
  pub two_sets : Apart m q (traits_of st).pending

pub data Outcome {n : ℕ} (m : Moment n) (t' : List Node) (q : Request) (st : Stage) (a : Advanced) : Type 0 where
  going : Going m t' q st a → Outcome m t' q st a
  closing : Closing m t' q st a → Outcome m t' q st a
  joining : Joining m t' q st a → Outcome m t' q st a
  tidying : Tidying m t' q st a → Outcome m t' q st a
  denying : Denying m t' q st a → Outcome m t' q st a

pub record Present {n : ℕ} (m : Moment n) (q : Request) : Type 0 where
  pub nodes : length m.table ≡ n
  pub inside : Inside n q
  pub sound : Sound n (parent m.table) (rank m.table) m.labels
  -- the sets at this grant's point are those of now
  pub latest : m.labels_at (suc m.now) ≡ m.labels

-- A stage of a request that has not linked, with no pending point.
abbrev pub under_way : Traits
under_way = traits false false 0 0

-- a grant that writes nothing
pub unwritten : {n : ℕ} (m : Moment n) → Sound n (parent m.table) (rank m.table) m.labels → Unlinked m m.table
unwritten {n} m sound =
    record { kept = record { sound = sound; later = later_refl n (parent m.table) (rank m.table) m.labels }; roots = refl }

pub unchanged : {n : ℕ} {m : Moment n} {q : Request} → Present m q → Unlinked m m.table
unchanged {m = m} present = unwritten m present.sound

pub grant_onward : {n : ℕ} {m : Moment n} {t' : List Node} → Unlinked m t' → Onward m (after_grant m t' m.labels)
grant_onward table = record { table = table.kept.later; passes = omega arith; settled = λ point l. refl }

pub goes_on : {n : ℕ} {m : Moment n} {t' : List Node} {q : Request} (st : Stage) (k : Task) (next : Stage) (failed found : Bool)
    → (traits_of st).linked ≡ false → traits_of next ≡ under_way → Unlinked m t' → Knows (after_grant m t' m.labels) q k next
    → Outcome m t' q st
    (record {
      head = record { stage = next; task = k };
      event = record { failed = failed; found = found; linked = false; answer = Unfinished; point = 0 };
    })
goes_on st k next failed found unraised traits table knows =
    going (record {
      table = table;
      unraised = unraised;
      unlinked = refl;
      unfinished = refl;
      unplaced = refl;
      busy = ap (λ z. z.resting) traits;
      still = ap (λ z. z.linked) traits;
      proposed = λ d. absurd (d (ap (λ z. z.pending) traits));
      found = λ d. absurd (d (ap (λ z. z.pending) traits));
      knows = knows;
    })

pub tidies_on : {n : ℕ} {m : Moment n} {t' : List Node} {q : Request} (st : Stage) (k : Task) (next : Stage) (failed : Bool)
    → (traits_of st).linked ≡ true → HasLinked next → Unlinked m t' → q.kind ≡ Union
    → ((at : ℕ → Labels) → Knows (linked_moment m t' m.labels at) q k next)
    → Outcome m t' q st
    (record {
      head = record { stage = next; task = k };
      event = record { failed = failed; found = false; linked = false; answer = Unfinished; point = 0 };
    })
tidies_on st k next failed raised stage table kind knows =
    tidying (record {
      table = table;
      raised = raised;
      kind = kind;
      unlinked = refl;
      unplaced = refl;
      after = continuing refl stage knows;
    })
