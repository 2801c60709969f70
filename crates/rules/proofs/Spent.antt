-- How many grants a request can have used at each stage. Every round of a find climbs over a node that is no root, and every new
-- try has seen one more such node, or a higher rank; of both there are few. Everywhere n is the number of nodes and `levels` is
-- not below the base-2 logarithm of n.
--
--   made s                 the grants of a find's round before step s
--   low_x, low_y           how many nodes that are no roots come before x, and before y
--   high_x, high_y         the same, with x or y itself where it is none
--   climbed t k e          the grants that a request has used at most where a find on errand e starts a round
--   compares, links        the same where both finds have ended: of a same-set, and of a union with the rank that was read of x
--   joins                  the same where a union has linked
--   Spent, Done            the statements for each stage and for the end
--   Climbs n t v u         the node u stands higher than v
--   StepsOn q t used a     the step a leads on to what is said with one grant more
--
-- Main laws: spent_law, they are a law of stages; under_limit, a request under way has used fewer grants than its limit.
use mathlib.Core.Path.{◌≡◌, refl}
use mathlib.Core.Logic.{◌≢◌}
use mathlib.Core.Bool.{Bool, true, false, true≢false}
use mathlib.Core.List.{List}
use Prim.Native.Nat.{ℕ, suc, ◌+◌, ◌*◌, ◌^◌, ◌≤◌, ◌<◌}
use native.Mathlib.Omega.{arith}
use lib.Dec.{eqb}
use borrow.Author.Tests.{eqb-true, eqb-false}
use Rattle.basics.proofs.Conditions.{split}
use Rattle.job.specs.declared.Kind.{Kind}
use Rattle.job.specs.declared.Kind.TheVariants.{Union, SameSet}
use Rattle.job.specs.declared.Request.{Request}
use Rattle.word.specs.declared.Node.{Node}
use Rattle.word.specs.Word.{same, before}
use Rattle.process.specs.declared.Step.{Step}
use Rattle.process.specs.declared.Step.TheVariants.{ReadNode, ReadParent, Halve, ReadAgain}
use Rattle.process.specs.declared.Errand.{Errand}
use Rattle.process.specs.declared.Errand.TheVariants.{UnionX, UnionY, SameX, SameY, Tidy}
use Rattle.process.specs.declared.Stage.{Stage}
use Rattle.process.specs.declared.Stage.TheVariants.{Resting, Find, RereadX, ReadRankX, ReadRankY, Link, Raise, ReadRankLinked, RaiseFound}
use Rattle.process.specs.declared.Task.{Task}
use Rattle.process.specs.declared.Advanced.{Advanced}
use Rattle.process.specs.Process.{traits_of, node_at, moved_to, restart}
use Rattle.process.specs.Find.{find_access, walked}
use Rattle.process.specs.Access.{access_at}
use Rattle.process.specs.Advance.{apart, ended, followed, compared, reread, rank_both, link, linked, advance_at}
use Rattle.forest.proofs.Sound.{rank_bound}
use Rattle.forest.proofs.Later.{Later}
use Rattle.forest.proofs.Low.{beneath, reached, beneath_later, reached_later, beneath_reached, reached_before, reached_lower}
use Rattle.forest.proofs.Low.{reached_root, low_few}
use Rattle.linearization.specs.Partition.{Labels}
use Rattle.rules.specs.Table.{at, parent, rank, seen}
use Rattle.rules.specs.Bounds.{limit}
use Rattle.rules.proofs.Finds.{Above, above_parent}
use Rattle.rules.proofs.Stages.{Moment, Within, Searching, Knows, knows_within, find_node}
use Rattle.rules.proofs.Outcomes.{Present}
use Rattle.rules.proofs.StageLayer.{Stepped, StageLaw}
use Rattle.rules.proofs.StageLayer.Stepped.{goes, ends}

record Climbs (n : ℕ) (t : List Node) (v u : ℕ) : Type 0 where
  low : beneath n (parent t) (rank t) v < beneath n (parent t) (rank t) u
  high : reached n (parent t) (rank t) v ≤ reached n (parent t) (rank t) u
  order : rank t v ≤ rank t u

-- a round reads the node's word and its parent's, swaps, and reads the parent's again
abbrev pub made : Step → ℕ
made ReadNode = 0
made (ReadParent r t) = 1
made (Halve r t u) = 2
made (ReadAgain t) = 3

made_few : (s : Step) → made s ≤ 3
made_few ReadNode = omega arith
made_few (ReadParent r t) = omega arith
made_few (Halve r t u) = omega arith
made_few (ReadAgain t) = omega arith

module _ (n levels : ℕ) where
  -- ---- the statements

  module _ (t : List Node) (k : Task) where
    abbrev low_x : ℕ
    low_x = beneath n (parent t) (rank t) k.x

    abbrev low_y : ℕ
    low_y = beneath n (parent t) (rank t) k.y

    abbrev high_x : ℕ
    high_x = reached n (parent t) (rank t) k.x

    abbrev high_y : ℕ
    high_y = reached n (parent t) (rank t) k.y

    -- a same-set's two finds have ended
    abbrev pub compares : ℕ
    compares = 7 * low_x + 4 * low_y + 2

    -- a union's two finds have ended; the rank of x is the one that was read
    abbrev pub links : ℕ → ℕ
    links r = 9 * low_x + 9 * low_y + 5 * r + 5 * rank t k.y + 2

    -- a union has linked
    abbrev pub joins : ℕ
    joins = 18 * n + 10 * levels

    -- a round takes four grants; a try takes three more of a same-set and five more of a union, and each new one has found x or y no
    -- root any more, or of a higher rank
    abbrev pub climbed : Errand → ℕ
    climbed UnionX = 4 * low_x + 4 * low_y + 5 * high_x + 5 * high_y + 5 * rank t k.x + 5 * rank t k.y
    climbed UnionY = 9 * low_x + 4 * low_y + 5 * high_y + 5 * rank t k.x + 5 * rank t k.y + 1
    climbed SameX = 4 * low_x + 4 * low_y + 3 * high_x
    climbed SameY = 7 * low_x + 4 * low_y + 1
    climbed Tidy = joins + 4 * low_y

  abbrev pub Spent : Request → List Node → ℕ → Task → Stage → Type 0
  Spent q t used k Resting = Unit {0}
  Spent q t used k (Find e s) = used ≤ climbed t k e + made s
  Spent q t used k (RereadX point) = used ≤ compares t k
  Spent q t used k ReadRankX = used ≤ links t k (rank t k.x)
  Spent q t used k (ReadRankY r) = used ≤ links t k r + 1
  Spent q t used k (Link r e) = used ≤ links t k r + 2
  Spent q t used k (Raise r) = used < joins t k
  Spent q t used k ReadRankLinked = used + 2 ≤ limit Union n levels
  Spent q t used k (RaiseFound r) = used + 1 ≤ limit Union n levels

  abbrev pub Done : Request → ℕ → ℕ → Type 0
  Done q answer used = used ≤ limit q.kind n levels

  -- ---- where a request begins

  begins : (kind : Kind) (q : Request) (t : List Node) (k : Task) → Spent q t 0 k (restart kind)
  begins Union q t k = omega arith
  begins SameSet q t k = omega arith

  -- ---- grants of others

  module _ (t t' : List Node) {B B' : Labels} (later : Later n (parent t) (rank t) B (parent t') (rank t') B') (k : Task)
      (within : Within n k) where
    -- all six numbers have only grown
    grown : (low_x t k ≤ low_x t' k) × (low_y t k ≤ low_y t' k) × (high_x t k ≤ high_x t' k) × (high_y t k ≤ high_y t' k)
        × (rank t k.x ≤ rank t' k.x) × (rank t k.y ≤ rank t' k.y)
    grown = (
      beneath_later later k.x within.x,
      beneath_later later k.y within.y,
      reached_later later k.x within.x,
      reached_later later k.y within.y,
      later.grows k.x within.x,
      later.grows k.y within.y,
    )

    climbed_later : (e : Errand) → climbed t k e ≤ climbed t' k e
    climbed_later UnionX = omega (arith, grown)
    climbed_later UnionY = omega (arith, grown)
    climbed_later SameX = omega (arith, grown)
    climbed_later SameY = omega (arith, grown)
    climbed_later Tidy = omega (arith, grown)

    spent_later : (q : Request) (used : ℕ) (st : Stage) → Spent q t used k st → Spent q t' used k st
    spent_later q used Resting spent = spent
    spent_later q used (Find e s) spent = omega (arith, spent, climbed_later e)
    spent_later q used (RereadX point) spent = omega (arith, spent, grown)
    spent_later q used ReadRankX spent = omega (arith, spent, grown)
    spent_later q used (ReadRankY r) spent = omega (arith, spent, grown)
    spent_later q used (Link r e) spent = omega (arith, spent, grown)
    spent_later q used (Raise r) spent = spent
    spent_later q used ReadRankLinked spent = spent
    spent_later q used (RaiseFound r) spent = spent

  -- ---- grants of its own

  abbrev StepsOn : Request → List Node → ℕ → Advanced → Type 0
  StepsOn q t used a = Stepped Spent Done q t (suc used) a

  module _ {m : Moment n} {q : Request} (present : Present m q) (logarithm : (i : ℕ) → 2 ^ i ≤ n → i ≤ levels) where
    abbrev t : List Node
    t = m.table

    above_climbs : (v u : ℕ) → v < n → Above n (parent t) (rank t) m.labels v u → Climbs n t v u
    above_climbs v u node a =
        let own = reached_lower n (parent t) (rank t) v node a.lower in
        let next = reached_before n (parent t) (rank t) v u a.before in
        record {
          low = omega (arith, own, next);
          high = omega (arith, next, beneath_reached n (parent t) (rank t) u);
          order = omega (arith, a.before, node, a.node, present.sound.formed.limit);
        }

    module _ (k : Task) (within : Within n k) where
      -- ---- what is known of x and y, whatever the stage

      -- fewer than n nodes are no roots, and ranks are no higher than the logarithm of n
      bounds : (low_x t k < n) × (low_y t k < n) × (high_x t k < n) × (high_y t k < n) × (rank t k.x ≤ levels) × (rank t k.y ≤ levels)
      bounds =
          let few = low_few present.sound.formed k.x within.x in (
            few _,
            few _,
            few _,
            few _,
            logarithm _ (rank_bound present.sound k.x within.x),
            logarithm _ (rank_bound present.sound k.y within.y),
          )

      root_x : parent t k.x ≡ k.x → high_x t k ≤ low_x t k
      root_x root = reached_root present.sound.formed k.x within.x root

      root_y : parent t k.y ≡ k.y → high_y t k ≤ low_y t k
      root_y root = reached_root present.sound.formed k.y within.y root

      lower_x : parent t k.x ≢ k.x → low_x t k < high_x t k
      lower_x lower = reached_lower n (parent t) (rank t) k.x within.x lower

      module _ (used : ℕ) where
        -- ---- a find

        -- it has climbed
        climbs : (e : Errand) (u : ℕ) → Climbs n t (node_at k e) u → used ≤ climbed t k e + 3 → suc used ≤ climbed t (moved_to k e u) e + 0
        climbs UnionX u c spent = omega (arith, spent, c.low, c.high, c.order)
        climbs UnionY u c spent = omega (arith, spent, c.low, c.high, c.order)
        climbs SameX u c spent = omega (arith, spent, c.low, c.high)
        climbs SameY u c spent = omega (arith, spent, c.low)
        climbs Tidy u c spent = omega (arith, spent, c.low)

        -- both finds have ended
        compared_leads : (kind : Kind) (now : ℕ) → q.kind ≡ kind → suc used ≤ limit kind n levels
            → Spent q t (suc used) k (apart kind now) → StepsOn q t used (compared k kind now)
        compared_leads Union now is done on =
            split (eqb k.x k.y) (λ one. rw one (ends refl (rw is done))) (λ two. rw two (goes refl on))
        compared_leads SameSet now is done on =
            split (eqb k.x k.y) (λ one. rw one (ends refl (rw is done))) (λ two. rw two (goes refl on))

        -- one has ended, at a root
        ended_leads : (e : Errand) (s : Step) (now : ℕ) → Searching m q k e s → parent t (node_at k e) ≡ node_at k e
            → used ≤ climbed t k e → StepsOn q t used (ended k e now)
        ended_leads UnionX s now a root spent = goes refl (omega (arith, spent, root_x root))
        ended_leads UnionY s now a root spent =
            compared_leads Union now a.pair.kind (omega (arith, spent, bounds)) (omega (arith, spent, root_y root))
        ended_leads SameX s now a root spent = goes refl (omega (arith, spent, root_x root))
        ended_leads SameY s now a root spent =
            compared_leads SameSet now a.pair.kind (omega (arith, spent, bounds)) (omega (arith, spent))
        ended_leads Tidy s now a root spent = goes refl (omega (arith, spent, bounds))

        find_leads : (e : Errand) (s : Step) (now : ℕ) → Searching m q k e s → used ≤ climbed t k e + made s
            → StepsOn q t used (followed k e now (walked (node_at k e) (seen t (find_access (node_at k e) s)) s))
        find_leads e ReadNode now a spent =
            split (eqb (parent t (node_at k e)) (node_at k e))
            (λ root. rw root (ended_leads e ReadNode now a (eqb-true (parent t (node_at k e)) (node_at k e) root) (omega (arith, spent))))
            (λ lower. rw lower (goes refl (omega (arith, spent))))
        find_leads e (ReadParent r u) now a spent = goes refl (omega (arith, spent))
        find_leads e (Halve r u w) now a spent =
            split (same (at t (node_at k e)) (record { rank = r; parent = u }))
            (λ wrote. rw wrote (goes refl (omega (arith, spent))))
            (λ failed. rw failed (goes refl (omega (arith, spent))))
        find_leads e (ReadAgain u) now a spent =
            let up = above_parent present.sound.formed present.sound.labelled a.find in
            goes refl (climbs e (parent t u) (above_climbs (node_at k e) (parent t u) (find_node a) up) spent)

        -- ---- after the finds

        -- no; or one more try, since x is no root any more
        reread_leads : (point : ℕ) → q.kind ≡ SameSet → used ≤ compares t k → StepsOn q t used (reread k point (at t k.x))
        reread_leads point is spent =
            split (eqb (parent t k.x) k.x)
            (λ root. rw root (ends refl (rw is (omega (arith, spent, bounds)))))
            (λ lower. rw lower (goes refl (omega (arith, spent, lower_x (eqb-false (parent t k.x) k.x lower)))))

        -- both ranks are read; that of x has not fallen
        ranks_lead : (r : ℕ) → r ≤ rank t k.x → used ≤ links t k r + 1 → StepsOn q t used (rank_both k r (rank t k.y))
        ranks_lead r low spent =
            split (before (rank t k.y) k.y r k.x)
            (λ exchanged. rw exchanged (goes refl (omega (arith, spent, low))))
            (λ straight. rw straight (goes refl (omega (arith, spent))))

        module _ (r : ℕ) (low : r ≤ rank t k.x) (spent : used ≤ links t k r + 2) where
          -- one more try: x is no root any more, or has a higher rank
          link_failed : same (at t k.x) (record { rank = r; parent = k.x }) ≡ false → suc used ≤ climbed t k UnionX + 0
          link_failed other =
              let level-x = beneath_reached n (parent t) (rank t) k.x in
              let level-y = beneath_reached n (parent t) (rank t) k.y in
              split (eqb (rank t k.x) r)
              (λ e. omega (arith, spent, low, level-y, lower_x (eqb-false (parent t k.x) k.x (rw e at other))))
              (λ d. omega (arith, spent, low, level-x, level-y, eqb-false (rank t k.x) r d))

          link_written : (e : Bool) (now : ℕ) → StepsOn q t used (linked k r e now)
          link_written true now = goes refl (omega (arith, spent, low, bounds))
          link_written false now = goes refl (omega (arith, spent, low, bounds))

          link_leads : (e : Bool) (now : ℕ) → StepsOn q t used (link k r e (at t k.x) now)
          link_leads e now =
              split (same (at t k.x) (record { rank = r; parent = k.x }))
              (λ wrote. rw wrote (link_written e now))
              (λ other. rw other (goes refl (link_failed other)))

        own_leads : (st : Stage) → (traits_of st).resting ≡ false → Knows m q k st → Spent q t used k st
            → StepsOn q t used (advance_at k (seen t (access_at k st)) (suc m.now) st)
        own_leads Resting busy a spent = absurd (true≢false busy)
        own_leads (Find e s) busy a spent = find_leads e s (suc m.now) a spent
        own_leads (RereadX point) busy a spent = reread_leads point a.finding.kind spent
        own_leads ReadRankX busy a spent = goes refl (omega (arith, spent))
        own_leads (ReadRankY r) busy a spent = ranks_lead r a.rank spent
        own_leads (Link r e) busy a spent = link_leads r a.rank spent e (suc m.now)
        own_leads (Raise r) busy a spent = goes refl (omega (arith, spent))
        own_leads ReadRankLinked busy a spent = goes refl (omega (arith, spent))
        own_leads (RaiseFound r) busy a spent = ends refl (rw a.linked.kind (omega (arith, spent)))

        -- ---- a request under way has not come to its limit

        find_below : (e : Errand) (s : Step) → Searching m q k e s → used ≤ climbed t k e + made s → used < limit q.kind n levels
        find_below UnionX s a spent = rw a.pair.kind (omega (arith, spent, made_few s, bounds))
        find_below UnionY s a spent = rw a.pair.kind (omega (arith, spent, made_few s, bounds))
        find_below SameX s a spent = rw a.pair.kind (omega (arith, spent, made_few s, bounds))
        find_below SameY s a spent = rw a.pair.kind (omega (arith, spent, made_few s, bounds))
        find_below Tidy s a spent = rw a.pair.kind (omega (arith, spent, made_few s, bounds))

        spent_below : (st : Stage) → (traits_of st).resting ≡ false → Knows m q k st → Spent q t used k st → used < limit q.kind n levels
        spent_below Resting busy a spent = absurd (true≢false busy)
        spent_below (Find e s) busy a spent = find_below e s a spent
        spent_below (RereadX point) busy a spent = rw a.finding.kind (omega (arith, spent, bounds))
        spent_below ReadRankX busy a spent = rw a.finding.kind (omega (arith, spent, bounds))
        spent_below (ReadRankY r) busy a spent = rw a.finding.kind (omega (arith, spent, a.rank, bounds))
        spent_below (Link r e) busy a spent = rw a.finding.kind (omega (arith, spent, a.rank, bounds))
        spent_below (Raise r) busy a spent = rw a.linked.kind (omega (arith, spent, bounds))
        spent_below ReadRankLinked busy a spent = rw a.kind (omega (arith, spent))
        spent_below (RaiseFound r) busy a spent = rw a.linked.kind (omega (arith, spent))

  module _ (logarithm : (i : ℕ) → 2 ^ i ≤ n → i ≤ levels) where
    pub spent_law : StageLaw n Spent Done
    spent_law =
        record {
          begins = λ q t k. begins q.kind q t k;
          later = λ {t} {t'} later q used k st within. spent_later t t' later k within q used st;
          steps = λ {m} {q} present k st busy knows used.
              own_leads present logarithm k (knows_within m q k st busy knows) used st busy knows;
        }

    pub under_limit : {m : Moment n} {q : Request} → Present m q → (k : Task) (st : Stage) → (traits_of st).resting ≡ false → Knows m q k st
        → (used : ℕ) → Spent q m.table used k st → used < limit q.kind n levels
    under_limit {m} {q} present k st busy knows used = spent_below present logarithm k (knows_within m q k st busy knows) used st busy knows
