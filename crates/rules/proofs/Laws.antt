-- The laws of specs/Laws.antt hold of every run of every accepted job.
--
-- Main laws: run_lawful, at every moment; run_follows, between any two.
use mathlib.Core.Path.{◌≡◌, refl, sym, ap, ◌∙◌, subst}
use mathlib.Core.Logic.{◌≢◌}
use mathlib.Core.Bool.{true}
use mathlib.Core.List.Memᴰ
use mathlib.Core.List.{List, [], ◌∷◌, ◌++◌, Memᴰ}
use Prim.Native.Nat.{ℕ, suc, ◌+◌, ◌-◌, ◌≤◌, ◌<◌}
use native.Mathlib.Omega.{arith}
use lib.ListN.{length}
use borrow.Author.Tests.{ne_eqb, lt-ltb}
use Rattle.basics.proofs.Conditions.{split}
use Rattle.basics.proofs.Counts.{count_more}
use Rattle.job.specs.declared.Request.{Request}
use Rattle.job.specs.declared.Wait.{Wait}
use Rattle.word.specs.declared.Node.{Node}
use Rattle.word.specs.Word.{before, key}
use Rattle.word.proofs.Laws.{before_key}
use Rattle.forest.proofs.Forest.{WellFormed, together_label, label_together}
use Rattle.forest.proofs.Sound.{rank_bound}
use Rattle.forest.proofs.Later.{Later, later_refl}
use Rattle.linearization.specs.Partition.{Labels}
use Rattle.rules.specs.declared.Row.{Row}
use Rattle.rules.specs.Table.{parent, rank}
use Rattle.rules.specs.Report.{no_row, row_at}
use Rattle.rules.specs.State.{State, request_at, start, tally_of}
use Rattle.rules.specs.Start.{Start}
use Rattle.rules.specs.Step.{step}
use Rattle.rules.specs.Run.{Happening, run, history}
use Rattle.rules.specs.History.{count_where, is_of, row_of}
use Rattle.rules.specs.Linearized.{Playable}
use Rattle.rules.specs.Laws.{some, is_unfinished, heads_left, Lawful, Follows}
use Rattle.rules.proofs.History.{row_other}
use Rattle.rules.proofs.Invariant.{labels, Invariant}
use Rattle.rules.proofs.Theorem.{length_heads, start_row, start_invariant, step_heads, run_invariant, run_prefix}
use Rattle.rules.proofs.Theorem.{playable_inside, started_invariant, Startable}
use Rattle.rules.proofs.Positions.{some_false, phase_begun, phase_passed, phase_anchored, phase_of, answer_is, work_left}
use Rattle.rules.proofs.Layer.{run_layer, AllTruthful, truthful_layer, Counted, counted_layer, InTurn, in_turn_layer, later_layer}

-- ---- at one moment

-- the order of nodes is the order of their keys
formed_before : {n : ℕ} {p r : ℕ → ℕ} → WellFormed n p r → (i : ℕ) → i < n → p i ≢ i → before (r i) i (r (p i)) (p i) ≡ true
formed_before {n} {p} {r} formed i l lower =
    before_key (r i) i (r (p i)) (p i) (omega (arith, formed.limit)) (omega (arith, formed.limit, formed.inside i l))
    ∙ lt-ltb (key (r i) i) (key (r (p i)) (p i)) (formed.rising i l lower)

-- the row of a request that no grant was used for
unused_row : (q : ℕ) (past : List Happening) → count_where (is_of q) past ≡ 0 → row_of q past ≡ no_row
unused_row q [] none = sym (start_row q)
unused_row q (a ∷ past) none =
    split (is_of q a)
    (λ t. let more : suc (count_where (is_of q) past) ≡ 0 = rw t at none in absurd (omega arith))
    (λ f. row_other q a past f ∙ unused_row q past (rw f at none))

-- ---- heads without a request have no work

heads_left_same : (qs : List Request) (report : List Row) (heads m : ℕ) → heads ≤ m
    → ((q : ℕ) → q < length qs → (request_at qs q).head < heads)
    → heads_left qs report m ≡ heads_left qs report heads
heads_left_same qs report heads m few served =
    let all : m ≡ heads + (m - heads) = omega arith in
    ap (heads_left qs report) all
    ∙ count_more (λ h. some (is_unfinished qs report h) (length qs)) heads (m - heads)
    (λ h l. some_false (is_unfinished qs report h) (length qs)
    (λ q within. rw (ne_eqb (request_at qs q).head h (λ e. absurd (omega (arith, e, served q within)))) refl))

module _ {qs : List Request} {n : ℕ} {B : Labels} {roots₀ : ℕ} {S : State} {past : List Happening}
    (inv : Invariant qs n B roots₀ S past) where
  module _ (p q : ℕ) (earlier : p < q) (within : q < length qs) (one : (request_at qs p).head ≡ (request_at qs q).head)
      (begun : (row_at S.report q).first ≢ 0) where
    first_is : (row_at S.report q).first ≡ (row_of q past).first
    first_is = ap (λ r. r.first) (inv.rows q within)

    last_is : (row_at S.report p).last ≡ (row_of p past).last
    last_is = ap (λ r. r.last) (inv.rows p (omega arith))

    -- the head has come to the later one, so it has passed the earlier one
    finished_before : (row_at S.report p).answer ≢ 0
    finished_before z =
        phase_passed (phase_of inv (request_at qs q).head p (omega arith) one)
        (omega (arith, phase_begun (inv.phases q within) (λ e. begun (first_is ∙ e))))
        (sym (answer_is inv p (omega arith)) ∙ z)

    ended_before : InTurn qs past → (row_at S.report p).last < (row_at S.report q).first
    ended_before turn = omega (arith, turn p q earlier within one (λ e. begun (first_is ∙ e)), first_is, last_is)

  invariant_lawful : (heads : ℕ) → heads ≤ length S.heads → ((q : ℕ) → q < length qs → (request_at qs q).head < heads)
      → Counted S past → AllTruthful past → InTurn qs past
      → Lawful roots₀ n heads qs S.table S.report (tally_of qs S) S.now past
  invariant_lawful heads few served counted truthful turn =
      record {
        parents = formed_before inv.sound.formed;
        ranks = rank_bound inv.sound;
        roots = inv.roots;
        reports = inv.reports;
        rows = inv.rows;
        fresh = λ q l none. inv.rows q l ∙ unused_row q past none;
        clock = inv.clock;
        idle = counted.idle;
        failed = counted.failed;
        links = counted.links;
        truthful = truthful;
        work = work_left inv ∙ heads_left_same qs S.report heads (length S.heads) few served;
        anchored = λ q l. rw (inv.rows q l) (phase_anchored (inv.phases q l));
        finished = finished_before;
        ordered = λ p q l w one begun. ended_before p q l w one begun turn;
      }

  -- ---- between two moments

  later_follows : {S' : State} {past' : List Happening} → Invariant qs n B roots₀ S' past'
      → Later n (parent S.table) (rank S.table) (labels qs B S) (parent S'.table) (rank S'.table) (labels qs B S')
      → Follows n S.table S'.table
  later_follows inv' later =
      record {
        lower = λ i l lower root. lower (later.root i l root);
        frozen = later.frozen;
        rising = later.grows;
        merging = λ i j li lj one.
            let labels-one = together_label inv.sound.formed inv.sound.labelled i j li lj one in
            label_together inv'.sound.formed inv'.sound.labelled i j li lj (later.merges i j li lj labels-one);
      }

-- ---- every run

start_in_turn : (qs : List Request) → InTurn qs []
unfolding row_of
start_in_turn qs p q earlier within one begun = absurd (begun refl)

start_counted : (qs : List Request) (m : ℕ) (t : List Node) → Counted (start qs m t) []
start_counted qs m t = record { idle = refl; failed = refl; links = refl }

start_truthful : AllTruthful []
start_truthful a m = absurd (elim m [ ])

pub run_heads : (qs : List Request) (ws : List Wait) (S : State) (gs : List ℕ) → length (run qs ws S gs).heads ≡ length S.heads
run_heads qs ws S [] = refl
run_heads qs ws S (h ∷ gs) = run_heads qs ws (step qs ws S h) gs ∙ step_heads qs ws S h

-- a cut of an accepted job is an accepted job
pub playable_cut : {n m : ℕ} {qs : List Request} (gs hs : List ℕ) → Playable n m qs (gs ++ hs) → Playable n m qs gs
playable_cut gs hs playable =
    record {
      few = playable.few;
      left = playable.left;
      right = playable.right;
      granted = λ h k. playable.granted h (Memᴰ.append_left hs k);
    }

module _ {n : ℕ} (qs : List Request) (ws : List Wait) (m : ℕ) {s : Start} (begin : Startable n s) where
  abbrev first : State
  first = start qs m s.table

  granted_start : {gs : List ℕ} → Playable n m qs gs → (h : ℕ) → Memᴰ h gs → h < length first.heads
  granted_start playable h k = omega (arith, playable.granted h k, length_heads qs 0 m)

  pub granted_later : (gs hs : List ℕ) → Playable n m qs (gs ++ hs) → (h : ℕ) → Memᴰ h hs → h < length (run qs ws first gs).heads
  granted_later gs hs playable h k = omega (arith, granted_start playable h (Memᴰ.append_right gs k), run_heads qs ws first gs)

  -- m heads are played with, of which `heads` have requests
  pub run_lawful : {gs : List ℕ} → Playable n m qs gs → (heads : ℕ) → heads ≤ m → ((q : ℕ) → q < length qs → (request_at qs q).head < heads)
      → Lawful s.groups n heads qs (run qs ws first gs).table (run qs ws first gs).report
      (tally_of qs (run qs ws first gs)) (run qs ws first gs).now (history qs ws first [] gs)
  run_lawful {gs} playable heads few served =
      let many : heads ≤ length (run qs ws first gs).heads = omega (arith, few, run_heads qs ws first gs, length_heads qs 0 m) in
      let inside = playable_inside playable in
      let granted = granted_start playable in
      let inv = start_invariant qs m begin in
      let counted = run_layer inside counted_layer first [] gs granted inv (start_counted qs m s.table) in
      let truthful = run_layer inside truthful_layer first [] gs granted inv start_truthful in
      let turn = run_layer inside in_turn_layer first [] gs granted inv (start_in_turn qs) in
      invariant_lawful (started_invariant playable ws begin) heads many served counted truthful turn

  pub run_follows : (gs hs : List ℕ) → Playable n m qs (gs ++ hs)
      → Follows n (run qs ws first gs).table (run qs ws first (gs ++ hs)).table
  run_follows gs hs playable =
      let S = run qs ws first gs in
      let past = history qs ws first [] gs in
      let inside = playable_inside playable in
      let granted = granted_later gs hs playable in
      let inv = started_invariant (playable_cut gs hs playable) ws begin in
      let sets = labels qs s.labels S in
      let same = later_refl n (parent S.table) (rank S.table) sets in
      let later = run_layer inside (later_layer (parent S.table) (rank S.table) sets) S past hs granted inv same in
      subst (λ S'. Follows n S.table S'.table) (sym (run_prefix qs ws first gs hs))
      (later_follows inv (run_invariant ws inside S past hs granted inv) later)
