-- How many grants an enquiry needs: keys rise along a find by two nodes a move, and nobody else writes, so that x is
-- still a root when it is read again.
-- Everywhere r gives each node's rank, which no step changes.
--
--   higher n r v             how many nodes come after v
--   find_need n p r v        the grants that a find from v needs at most
--   step_need n p r v s      the same from its step s on
--   tail_need n r y x        the grants that are needed at most after the find, the one from x or the one from y
--   Fixed p a x              in the find from y, the node a is a root
--   Needs Root need m        at most m grants are needed, with what is known of x
--   Enough n p r k stage m   m grants are enough for the task k from this stage on
--
-- Main law: steps_enough, an enquiry with enough grants is answered.
use mathlib.Core.Path.{◌≡◌, refl, sym, ap, ◌∙◌}
use mathlib.Core.Logic.{◌≢◌}
use mathlib.Core.Bool.{Bool, true, false, cond, true≢false}
use mathlib.Core.List.{List}
use Prim.Native.Nat.{ℕ, zero, suc, ◌+◌, ◌*◌, ◌≤◌, ◌<◌}
use native.Mathlib.Omega.{arith}
use lib.Dec.{eqb, ltb}
use lib.ListN.{set}
use lib.Seq.{get_or-set_other}
use borrow.Author.Tests.{eqb-true, eqb-false, eq-eqb, ne_eqb, ltb-true, lt-ltb}
use Rattle.basics.specs.Count.{count}
use Rattle.basics.proofs.Conditions.{split}
use Rattle.basics.proofs.Counts.{count_le, count_positive, count_sum}
use Rattle.job.specs.declared.Kind.TheVariants.{SameSet}
use Rattle.job.specs.declared.Answer.TheVariants.{Unfinished}
use Rattle.word.specs.declared.Node.{Node}
use Rattle.word.specs.Word.{key, same}
use Rattle.process.specs.declared.Step.{Step}
use Rattle.process.specs.declared.Step.TheVariants.{ReadNode, ReadParent, Halve, ReadAgain}
use Rattle.process.specs.declared.Errand.{Errand}
use Rattle.process.specs.declared.Errand.TheVariants.{UnionX, UnionY, SameX, SameY, Tidy}
use Rattle.process.specs.declared.Stage.{Stage}
use Rattle.process.specs.declared.Stage.TheVariants.{Resting, Find, RereadX, ReadRankX, ReadRankY, Link, Raise, ReadRankLinked, RaiseFound}
use Rattle.process.specs.declared.Task.{Task}
use Rattle.process.specs.declared.Head.{Head}
use Rattle.process.specs.declared.Advanced.{Advanced}
use Rattle.process.specs.Process.{traits_of, kind_of, serves_x, node_at, restart, begin}
use Rattle.process.specs.Find.{find_access, walked}
use Rattle.process.specs.Access.{access_at, access_of}
use Rattle.process.specs.Advance.{compared, ended, followed, reread, advance_at, advance_of}
use Rattle.rules.specs.Report.{is_final}
use Rattle.rules.specs.Table.{no_node, at, parent, rank, seen, touched}
use Rattle.rules.proofs.History.{final_number}
use Rattle.rules.proofs.Finds.{Above, FindKnows}
use Rattle.rules.proofs.Stages.{Moment, Searching, Knows}
use Rattle.table.specs.Admitted.{Admitted}
use Rattle.query.specs.Query.{granted, steps, same_set}
use Rattle.query.proofs.Steps.{moment_here, Serving, no_union, serving_goes_on, serving_ranks}

-- ---- how many nodes come after a node

abbrev pub higher : ℕ → (ℕ → ℕ) → ℕ → ℕ
higher n r v = count (λ i. ltb (key (r v) v) (key (r i) i)) n

-- no node comes after itself
after_other : (r : ℕ → ℕ) (v i : ℕ) → ltb (key (r v) v) (key (r i) i) ≡ true → eqb i v ≡ false
after_other r v i e = ne_eqb i v (λ d. absurd (omega (arith, ltb-true (key (r v) v) (key (r i) i) e, d, ap r d)))

-- a node that comes after v has fewer after it
pub higher_less : (n : ℕ) (r : ℕ → ℕ) (v u : ℕ) → u < n → key (r v) v < key (r u) u → higher n r u + 1 ≤ higher n r v
higher_less n r v u inside before =
    omega (
      arith,
      count_sum
          (λ i. ltb (key (r u) u) (key (r i) i))
          (λ i. eqb i u)
          (λ i. ltb (key (r v) v) (key (r i) i))
          n
          (λ i l e. after_other r u i e)
          (λ i l e. lt-ltb (key (r v) v) (key (r i) i) (omega (arith, before, ltb-true (key (r u) u) (key (r i) i) e)))
          (λ i l e. lt-ltb (key (r v) v) (key (r i) i) (rw (eqb-true i u e) before)),
      count_positive (λ i. eqb i u) n u inside (eq-eqb u u refl),
    )

-- and no node has all after it
pub higher_below : (n : ℕ) (r : ℕ → ℕ) (v : ℕ) → v < n → higher n r v + 1 ≤ n
higher_below n r v inside =
    omega (
      arith,
      count_sum
          (λ i. ltb (key (r v) v) (key (r i) i))
          (λ i. eqb i v)
          (λ i. true)
          n
          (λ i l e. after_other r v i e)
          (λ i l e. refl)
          (λ i l e. refl),
      count_positive (λ i. eqb i v) n v inside (eq-eqb v v refl),
      count_le (λ i. true) n,
    )

-- ---- what is needed, stage by stage

abbrev find_need : ℕ → (ℕ → ℕ) → (ℕ → ℕ) → ℕ → ℕ
find_need n p r v = cond (eqb (p v) v) 1 (2 * higher n r v + 3)

-- what a find needs from its step on
abbrev step_need : ℕ → (ℕ → ℕ) → (ℕ → ℕ) → ℕ → Step → ℕ
step_need n p r v ReadNode = find_need n p r v
step_need n p r v (ReadParent rank t) = 2 * higher n r v + 2
step_need n p r v (Halve rank t u) = 2 * higher n r v + 1
step_need n p r v (ReadAgain t) = 2 * higher n r v

-- and what comes after it, by whether it is the find from x
abbrev tail_need : ℕ → (ℕ → ℕ) → ℕ → Bool → ℕ
tail_need n r y true = 2 * higher n r y + 4
tail_need n r y false = 1

abbrev Fixed : (ℕ → ℕ) → ℕ → Bool → Type 0
Fixed p x true = Unit {0}
Fixed p x false = p x ≡ x

pub record Needs (Root : Type 0) (need m : ℕ) : Type 0 where
  pub fixed : Root
  pub enough : need ≤ m

abbrev pub Enough : ℕ → (ℕ → ℕ) → (ℕ → ℕ) → Task → Stage → ℕ → Type 0
Enough n p r k Resting m = Unit {0}
Enough n p r k (Find e s) m = Needs (Fixed p k.x (serves_x e)) (step_need n p r (node_at k e) s + tail_need n r k.y (serves_x e)) m
Enough n p r k (RereadX point) m = Needs (p k.x ≡ k.x) 1 m
Enough n p r k ReadRankX m = Unit {0}
Enough n p r k (ReadRankY rank) m = Unit {0}
Enough n p r k (Link rank e) m = Unit {0}
Enough n p r k (Raise rank) m = Unit {0}
Enough n p r k ReadRankLinked m = Unit {0}
Enough n p r k (RaiseFound rank) m = Unit {0}

module _ (n : ℕ) (p r : ℕ → ℕ) where
  find_most : (v : ℕ) → find_need n p r v ≤ 2 * higher n r v + 3
  find_most v = split (eqb (p v) v) (λ e. rw e (omega arith)) (λ e. rw e (omega arith))

  tail_least : (y : ℕ) (x : Bool) → 1 ≤ tail_need n r y x
  tail_least y true = omega arith
  tail_least y false = omega arith

  step_least : (v : ℕ) (s : Step) (tail : ℕ) → 1 ≤ tail → 1 ≤ step_need n p r v s + tail
  step_least v ReadNode tail l = omega arith
  step_least v (ReadParent rank t) tail l = omega arith
  step_least v (Halve rank t u) tail l = omega arith
  step_least v (ReadAgain t) tail l = omega arith

-- ---- one step uses one grant of what is enough

module _ {n : ℕ} {t : List Node} (r : ℕ → ℕ) (admitted : Admitted n t) (ranks : (i : ℕ) → rank t i ≡ r i)
    (used : ℕ) (k : Task) (m : ℕ) where
  -- enough for what comes next, if anything does
  abbrev Goes : List Node → Advanced → Type 0
  Goes t' next = is_final next.event.answer ≡ false → Enough n (parent t') r next.head.task next.head.stage m

  -- ---- the end of a find

  two_roots : parent t k.x ≡ k.x → 1 ≤ m → eqb k.x k.y ≡ false → Goes t (compared k SameSet (suc used))
  two_roots root l e = rw e (λ f. record { fixed = root; enough = l })

  one_root : eqb k.x k.y ≡ true → Goes t (compared k SameSet (suc used))
  one_root e = rw e (λ f. absurd (true≢false f))

  find_ended : (e : Errand) → SameSet ≡ kind_of e → parent t (node_at k e) ≡ node_at k e
      → Needs (Fixed (parent t) k.x (serves_x e)) (tail_need n r k.y (serves_x e)) m → Goes t (ended k e (suc used))
  find_ended UnionX kind root needs = no_union kind
  find_ended UnionY kind root needs = no_union kind
  -- the find from y, with x a root
  find_ended SameX kind root needs =
      λ f. record { fixed = root; enough = omega (arith, find_most n (parent t) r k.y, needs.enough) }
  find_ended Tidy kind root needs = no_union kind
  find_ended SameY kind root needs =
      split (eqb k.x k.y) one_root (λ two. two_roots needs.fixed needs.enough two)

  -- ---- the four grants of a move

  read_node : (e : Errand) → SameSet ≡ kind_of e → Enough n (parent t) r k (Find e ReadNode) (suc m)
      → Goes t (followed k e (suc used) (walked (node_at k e) (at t (node_at k e)) ReadNode))
  read_node e kind needs =
      split (eqb (parent t (node_at k e)) (node_at k e))
      (λ root.
      let need : find_need n (parent t) r (node_at k e) ≡ 1 = rw root refl in
      rw root
      (find_ended e kind (eqb-true (parent t (node_at k e)) (node_at k e) root)
      (record { fixed = needs.fixed; enough = omega (arith, need, needs.enough) })))
      (λ none.
      let need : find_need n (parent t) r (node_at k e) ≡ 2 * higher n r (node_at k e) + 3 = rw none refl in
      rw none (λ f. record { fixed = needs.fixed; enough = omega (arith, need, needs.enough) }))

  -- the halving of a node that is no root leaves x a root
  halve_fixed : (x : Bool) (expected new : Node) → parent t (cond x k.x k.y) ≢ cond x k.x k.y → Fixed (parent t) k.x x
      → Fixed (parent (cond (same (at t (cond x k.x k.y)) expected) (set t (cond x k.x k.y) new) t)) k.x x
  halve_fixed true expected new lower fixed = tt
  halve_fixed false expected new lower fixed =
      split (same (at t k.y) expected)
      (λ e. rw e (ap (λ w. w.parent) (get_or-set_other t k.y k.x new no_node apart) ∙ fixed))
      (λ e. rw e fixed)
    where
      apart : k.x ≢ k.y
      apart e = lower (sym (ap (parent t) e) ∙ fixed ∙ e)

  halve_goes : (e : Errand) (rank u w : ℕ) → parent t (node_at k e) ≢ node_at k e
      → Enough n (parent t) r k (Find e (Halve rank u w)) (suc m)
      → Goes (touched t (find_access (node_at k e) (Halve rank u w)))
      (followed k e (suc used) (walked (node_at k e) (at t (node_at k e)) (Halve rank u w)))
  halve_goes e rank u w lower needs =
      let expected : Node = record { rank = rank; parent = u } in
      let fixed = halve_fixed (serves_x e) expected (record { rank = rank; parent = w }) lower needs.fixed in
      split (same (at t (node_at k e)) expected)
      (λ s. rw s (λ f. record { fixed = rw s at fixed; enough = omega (arith, needs.enough) }))
      (λ s. rw s (λ f. record { fixed = needs.fixed; enough = omega (arith, needs.enough) }))

  -- x goes up by two nodes, or to a root
  moved_need : {B : ℕ → ℕ} (v u : ℕ) → Above n (parent t) (rank t) B v u → find_need n (parent t) r (parent t u) + 1 ≤ 2 * higher n r v
  moved_need {B} v u above =
      split (eqb (parent t w) w)
      (λ e. rw e (omega (arith, step)))
      (λ e. rw e (omega (arith, step, further (eqb-false (parent t w) w e))))
    where
      w : ℕ
      w = parent t u

      step : higher n r u + 1 ≤ higher n r v
      step = higher_less n r v u above.node (omega (arith, above.before, ranks v, ranks u))

      further : parent t (parent t u) ≢ parent t u → higher n r (parent t u) + 1 ≤ higher n r u
      further d =
          higher_less n r u (parent t u) (admitted.inside u above.node)
          (omega (arith, admitted.rising u above.node (λ e. d (ap (parent t) e)), ranks u, ranks (parent t u)))

  -- the node that the find has moved to
  moved_enough : (x : Bool) (u need : ℕ) → Needs (Fixed (parent t) k.x x) (need + tail_need n r k.y x) (suc m)
      → find_need n (parent t) r u + 1 ≤ need
      → Needs (Fixed (parent t) (cond x u k.x) x)
      (find_need n (parent t) r (cond x (cond x u k.x) (cond x k.y u)) + tail_need n r (cond x k.y u) x) m
  moved_enough true u need needs l = record { fixed = tt; enough = omega (arith, l, needs.enough) }
  moved_enough false u need needs l = record { fixed = needs.fixed; enough = omega (arith, l, needs.enough) }

  reread_x : (point : ℕ) → Enough n (parent t) r k (RereadX point) (suc m) → Goes t (reread k point (at t k.x))
  reread_x point needs = rw (eq-eqb (parent t k.x) k.x needs.fixed) (λ f. absurd (true≢false f))

  -- ---- every stage

  find_enough : (B : ℕ → ℕ) (e : Errand) (s : Step) → SameSet ≡ kind_of e → FindKnows n (parent t) (rank t) B (node_at k e) s
      → Enough n (parent t) r k (Find e s) (suc m)
      → Goes (touched t (find_access (node_at k e) s))
      (followed k e (suc used) (walked (node_at k e) (seen t (find_access (node_at k e) s)) s))
  find_enough B e ReadNode kind knows needs = read_node e kind needs
  find_enough B e (ReadParent rank u) kind knows needs = λ f. record { fixed = needs.fixed; enough = omega (arith, needs.enough) }
  find_enough B e (Halve rank u w) kind knows needs = halve_goes e rank u w knows.parent.lower needs
  find_enough B e (ReadAgain u) kind knows needs =
      λ f. moved_enough (serves_x e) (parent t u) (2 * higher n r (node_at k e)) needs (moved_need (node_at k e) u knows)

  -- a find of an enquiry is made for a same-set
  find_kind : {m : Moment n} {a b : ℕ} (e : Errand) {s : Step} → Searching m (same_set a b) k e s → SameSet ≡ kind_of e
  find_kind UnionX knows = knows.pair.kind
  find_kind UnionY knows = knows.pair.kind
  find_kind SameX knows = refl
  find_kind SameY knows = refl
  find_kind Tidy knows = knows.pair.kind

  stage_enough : (B : ℕ → ℕ) (a b : ℕ) (stage : Stage) → (traits_of stage).resting ≡ false
      → Knows (moment_here n t B used) (same_set a b) k stage → Enough n (parent t) r k stage (suc m)
      → Goes (touched t (access_at k stage)) (advance_at k (seen t (access_at k stage)) (suc used) stage)
  stage_enough B a b Resting busy knows needs = absurd (true≢false busy)
  stage_enough B a b (Find e s) busy knows needs = find_enough B e s (find_kind e knows) knows.find needs
  stage_enough B a b (RereadX point) busy knows needs = reread_x point needs
  stage_enough B a b ReadRankX busy knows needs = no_union knows.finding.kind
  stage_enough B a b (ReadRankY rank) busy knows needs = no_union knows.finding.kind
  stage_enough B a b (Link rank e) busy knows needs = no_union knows.finding.kind
  stage_enough B a b (Raise rank) busy knows needs = no_union knows.linked.kind
  stage_enough B a b ReadRankLinked busy knows needs = no_union knows.kind
  stage_enough B a b (RaiseFound rank) busy knows needs = no_union knows.linked.kind

-- ---- the whole enquiry

-- a head that has not answered needs a grant
enough_positive : (n : ℕ) (t : List Node) (r B : ℕ → ℕ) (a b used : ℕ) (k : Task) (stage : Stage)
    → (traits_of stage).resting ≡ false → Knows (moment_here n t B used) (same_set a b) k stage → Enough n (parent t) r k stage 0 → ⊥
enough_positive n t r B a b used k Resting busy knows needs = true≢false busy
enough_positive n t r B a b used k (Find e s) busy knows needs =
    omega (
      arith,
      step_least n (parent t) r (node_at k e) s (tail_need n r k.y (serves_x e))
          (tail_least n (parent t) r k.y (serves_x e)),
      needs.enough,
    )
enough_positive n t r B a b used k (RereadX point) busy knows needs = absurd (omega (arith, needs.enough))
enough_positive n t r B a b used k ReadRankX busy knows needs = no_union knows.finding.kind
enough_positive n t r B a b used k (ReadRankY rank) busy knows needs = no_union knows.finding.kind
enough_positive n t r B a b used k (Link rank e) busy knows needs = no_union knows.finding.kind
enough_positive n t r B a b used k (Raise rank) busy knows needs = no_union knows.linked.kind
enough_positive n t r B a b used k ReadRankLinked busy knows needs = no_union knows.kind
enough_positive n t r B a b used k (RaiseFound rank) busy knows needs = no_union knows.linked.kind

module _ {n : ℕ} {B : ℕ → ℕ} {a b : ℕ} (r : ℕ → ℕ) where
  step_enough : {t : List Node} (used : ℕ) (h : Head) (m : ℕ) → Serving n B a b t used h Unfinished → ((i : ℕ) → rank t i ≡ r i)
      → Enough n (parent t) r h.task h.stage (suc m) → is_final (granted h t used).event.answer ≡ false
      → Enough n (parent (touched t (access_of h))) r (granted h t used).head.task (granted h t used).head.stage m
  unfolding access_of advance_of
  step_enough used h m serving ranks needs =
      stage_enough r serving.admitted ranks used h.task m B a b h.stage serving.rests serving.knows needs

  pub steps_enough : (budget used : ℕ) (h : Head) (t : List Node) → Serving n B a b t used h Unfinished
      → ((i : ℕ) → rank t i ≡ r i) → Enough n (parent t) r h.task h.stage budget → (steps budget used h t).queried.answer ≢ 0
  steps_enough zero used h t serving ranks needs =
      absurd (enough_positive n t r B a b used h.task h.stage serving.rests serving.knows needs)
  steps_enough (suc m) used h t serving ranks needs =
      split (is_final (granted h t used).event.answer)
      (λ e. rw e (final_number (granted h t used).event.answer e))
      (λ e. rw e
      (steps_enough m (suc used) (granted h t used).head (touched t (access_of h))
      (serving_goes_on serving e)
      (λ i. serving_ranks serving i ∙ ranks i)
      (step_enough used h m serving ranks needs e)))

-- four grants a node, and three, are enough at the start
pub start_enough : (n : ℕ) (p r : ℕ → ℕ) (a b budget : ℕ) → a < n → b < n → 4 * n + 3 ≤ budget
    → Enough n p r (begin (same_set a b) 0).task (restart SameSet) budget
start_enough n p r a b budget left right l =
    record {
      fixed = tt;
      enough = omega (arith, l, find_most n p r a, higher_below n r a left, higher_below n r b right);
    }
