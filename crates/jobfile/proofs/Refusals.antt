-- Chains of tests: what it says that a chain refuses nothing, and the refusals that reader and writer share.
--
--   Passed b n          the test b did not refuse, and neither does the rest n
--   Both a b            neither a nor b is a refusal
--   passed, through     a chain that refuses nothing has passed its first test, and the rest refuses nothing
--   then_behind         two checks and what is behind them are the first and what is behind it
--   Sized n h           n nodes and h heads are admitted
--   held, holds_passes  a right that is not refused is its head's, and the other way round
--   Fit n h q           the numbers q are those of a request in a job of n nodes and h heads
--   may, may_passes     a kind that is not refused is among the rights, and the other way round
--   asked_free          without rights every kind is allowed
--   Paired n b w        the pair w is one of a job with n requests, and rises from the pair b
use mathlib.Core.Path.{◌≡◌, refl, sym}
use mathlib.Core.Bool.{Bool, true, false, cond, not}
use mathlib.Core.List.{List, [], ◌∷◌}
use Prim.Native.Nat.{ℕ, suc, ◌^◌, ◌≤◌, ◌<◌}
use native.Mathlib.Omega.{arith}
use lib.Dec.{eqb, ltb, leb}
use lib.ListN.{length}
use borrow.Author.Tests.{eqb-true, eqb-false, ltb-false, leb-false, not-false, eq-eqb, ne_eqb, le-ltb, lt-leb}
use Rattle.basics.proofs.Conditions.{split}
use Rattle.job.specs.declared.Wait.{Wait}
use Rattle.job.specs.declared.Right.{Right}
use Rattle.job.specs.Job.{most_nodes, most_heads, kind_of, may_ask}
use Rattle.jobfile.specs.declared.Fields.{Fields}
use Rattle.jobfile.specs.Format.{◌then◌, sizes_refusal, right_refusal, fields_refusal, kind_refusal, asked_refusal, rises_to}
use Rattle.jobfile.specs.Format.{pair_refusal}
use Rattle.jobfile.specs.Admitted.{Holds}
use Rattle.jobfile.proofs.KindNumbers.{every_kind}

pub record Passed (b : Bool) (n : ℕ) : Type 0 where
  pub test : b ≡ false
  pub rest : n ≡ 0

pub passed : (b : Bool) (n rest : ℕ) → cond b (suc n) rest ≡ 0 → Passed b rest
passed true n rest e = absurd (omega arith)
passed false n rest e = record { test = refl; rest = e }

pub record Both (a b : ℕ) : Type 0 where
  pub first : a ≡ 0
  pub second : b ≡ 0

pub through : (a b : ℕ) → (a then b) ≡ 0 → Both a b
through a b e =
    split (eqb a 0)
    (λ t. record { first = eqb-true a 0 t; second = rw t at e })
    (λ f. let z : a ≡ 0 = rw f at e in absurd (eqb-false a 0 f z))

pub then_behind : (a b rest : ℕ) → ((a then b) then rest) ≡ (a then b then rest)
then_behind a b rest = split (eqb a 0) (λ t. rw t) (λ f. rw (f, f))

pub record Sized (nodes heads : ℕ) : Type 0 where
  pub some_nodes : 0 < nodes
  pub few_nodes : nodes ≤ most_nodes
  pub some_heads : 0 < heads
  pub few_heads : heads ≤ most_heads

pub sized : (nodes heads : ℕ) → sizes_refusal nodes heads ≡ 0 → Sized nodes heads
unfolding sizes_refusal
sized nodes heads e =
    let a = passed (eqb nodes 0) 3 _ e in
    let b = passed (ltb most_nodes nodes) 3 _ a.rest in
    let c = passed (eqb heads 0) 4 _ b.rest in
    let d = passed (ltb _ heads) 4 _ c.rest in
    record {
      some_nodes = omega (arith, eqb-false nodes 0 a.test);
      few_nodes = ltb-false most_nodes nodes b.test;
      some_heads = omega (arith, eqb-false heads 0 c.test);
      few_heads = omega (arith, ltb-false _ heads d.test);
    }

pub sized_passes : (nodes heads : ℕ) → Sized nodes heads → sizes_refusal nodes heads ≡ 0
unfolding sizes_refusal
sized_passes nodes heads s =
    simp (
      ne_eqb nodes 0 (λ e. omega arith),
      le-ltb most_nodes nodes s.few_nodes,
      ne_eqb heads 0 (λ e. omega arith),
      le-ltb most_heads heads s.few_heads,
    )

pub held : (heads number : ℕ) (r : Right) → right_refusal heads number r ≡ 0 → Holds heads number r
unfolding right_refusal
held heads number r e =
    let a = passed (not (eqb r.head number)) 18 _ e in
    let b = passed (eqb r.rights 0) 18 _ a.rest in
    let c = passed (ltb 3 r.rights) 18 _ b.rest in
    let d = passed (leb (2 ^ heads) r.sight) 18 _ c.rest in
    record {
      head = eqb-true r.head number (not-false _ a.test);
      some = omega (arith, eqb-false r.rights 0 b.test);
      few = ltb-false 3 r.rights c.test;
      sight = leb-false (2 ^ heads) r.sight d.test;
    }

pub holds_passes : (heads number : ℕ) (r : Right) → Holds heads number r → right_refusal heads number r ≡ 0
unfolding right_refusal
holds_passes heads number r h =
    simp (
      eq-eqb r.head number h.head,
      ne_eqb r.rights 0 (λ e. omega arith),
      le-ltb 3 r.rights h.few,
      lt-leb (2 ^ heads) r.sight h.sight,
    )

pub may : (rights kind : ℕ) → kind_refusal rights kind ≡ 0 → may_ask rights (kind_of kind) ≡ true
unfolding kind_refusal
may rights kind e = not-false _ (passed (not (may_ask rights (kind_of kind))) 19 0 e).test

pub may_passes : (rights kind : ℕ) → may_ask rights (kind_of kind) ≡ true → kind_refusal rights kind ≡ 0
unfolding kind_refusal
may_passes rights kind asks = rw asks

pub record Fit (nodes heads : ℕ) (q : Fields) : Type 0 where
  pub head : q.head < heads
  pub some_kind : 0 < q.kind
  pub few_kinds : q.kind ≤ 2
  pub x : q.x < nodes
  pub y : q.y < nodes

pub fit : (nodes heads : ℕ) (q : Fields) → fields_refusal nodes heads q ≡ 0 → Fit nodes heads q
unfolding fields_refusal
fit nodes heads q e =
    let a = passed (leb heads q.head) 5 _ e in
    let b = passed (eqb q.kind 0) 6 _ a.rest in
    let c = passed (ltb 2 q.kind) 6 _ b.rest in
    let d = passed (leb nodes q.x) 7 _ c.rest in
    let f = passed (leb nodes q.y) 7 _ d.rest in
    record {
      head = leb-false heads q.head a.test;
      some_kind = omega (arith, eqb-false q.kind 0 b.test);
      few_kinds = ltb-false 2 q.kind c.test;
      x = leb-false nodes q.x d.test;
      y = leb-false nodes q.y f.test;
    }

pub fit_passes : (nodes heads : ℕ) (q : Fields) → Fit nodes heads q → fields_refusal nodes heads q ≡ 0
unfolding fields_refusal
fit_passes nodes heads q f =
    simp (
      lt-leb heads q.head f.head,
      ne_eqb q.kind 0 (λ e. omega arith),
      le-ltb 2 q.kind f.few_kinds,
      lt-leb nodes q.x f.x,
      lt-leb nodes q.y f.y,
    )

pub asked_free : (nodes heads : ℕ) (rights : List Right) (q : Fields) → length rights ≡ 0
    → asked_refusal nodes heads rights q ≡ fields_refusal nodes heads q
asked_free nodes heads (r ∷ rs) q none = absurd (omega arith)
asked_free nodes heads [] q none =
    split (eqb (fields_refusal nodes heads q) 0)
    (λ fits. rw (fits, may_passes 3 q.kind (every_kind (kind_of q.kind))) (sym (eqb-true (fields_refusal nodes heads q) 0 fits)))
    (λ wrong. rw wrong)

pub record Paired (count : ℕ) (before w : Wait) : Type 0 where
  pub later : w.later < count
  pub earlier : w.earlier < w.later
  pub rises : rises_to before w ≡ true

pub paired : (count : ℕ) (before w : Wait) → pair_refusal count before w ≡ 0 → Paired count before w
unfolding pair_refusal
paired count before w e =
    let a = passed (leb count w.later) 17 _ e in
    let b = passed (leb count w.earlier) 17 _ a.rest in
    let c = passed (leb w.later w.earlier) 17 _ b.rest in
    let d = passed (not (rises_to before w)) 17 _ c.rest in
    record {
      later = leb-false count w.later a.test;
      earlier = leb-false w.later w.earlier c.test;
      rises = not-false _ d.test;
    }

pub paired_passes : (count : ℕ) (before w : Wait) → Paired count before w → pair_refusal count before w ≡ 0
unfolding pair_refusal
paired_passes count before w p =
    simp (
      lt-leb count w.later p.later,
      lt-leb count w.earlier (omega arith),
      lt-leb w.later w.earlier p.earlier,
      p.rises,
    )
