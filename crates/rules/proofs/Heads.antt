-- Document 02, A4: heads that have no request and no grant change nothing in a run, however many they are.
--
--   with_heads S heads  the state S with those heads in place of its own
--   beside S more       the state S with more heads behind its own
--
-- Main laws: run_beside, a run leaves the heads behind its own alone; heads_open, a run with more heads is the same run.
use mathlib.Core.Path.{◌≡◌, refl, sym, ap, ◌∙◌, subst}
use mathlib.Core.Bool.{cond}
use mathlib.Core.List.{List, [], ◌∷◌, ◌++◌, Memᴰ}
use Prim.Native.Nat.{ℕ, zero, suc, ◌+◌, ◌-◌, ◌≤◌, ◌<◌}
use native.Mathlib.Omega.{arith}
use lib.ListN.{length, get_or-append}
use lib.Seq.{set-append_left}
use borrow.Author.Tests.{le-ltb}
use Rattle.job.specs.declared.Request.{Request}
use Rattle.job.specs.declared.Wait.{Wait}
use Rattle.job.specs.declared.Tally.{Tally}
use Rattle.word.specs.declared.Node.{Node}
use Rattle.process.specs.declared.Head.{Head}
use Rattle.rules.specs.State.{State, request_at, seek, resting, heads_from, start, has_work, working}
use Rattle.rules.specs.Step.{Turn, turn_of, advanced, settled, turn, step_by, step}
use Rattle.rules.specs.Step.Turn.{idled, serves}
use Rattle.rules.specs.Run.{Happening, happened_by, happened, run, history}
use Rattle.rules.specs.Heads.{SameRun, HeadsOpen}
use Rattle.rules.proofs.Requests.{seek_absent}
use Rattle.rules.proofs.Theorem.{length_heads, step_heads}

abbrev with_heads : State → List Head → State
with_heads S heads =
    record {
      table = S.table;
      heads = heads;
      report = S.report;
      entries = S.entries;
      idle = S.idle;
      failed = S.failed;
      links = S.links;
      now = S.now;
    }

abbrev beside : State → List Head → State
beside S more = with_heads S (S.heads ++ more)

-- ---- one grant to one of the heads

module _ (qs : List Request) (ws : List Wait) (S : State) (more : List Head) (h : ℕ) (present : h < length S.heads) where
  turn_beside : turn qs ws (beside S more) h ≡ turn qs ws S h
  turn_beside = ap (turn_of qs ws S.report) (get_or-append S.heads more (resting 0) h present)

  by_beside : (t : Turn) → step_by qs (beside S more) h t ≡ beside (step_by qs S h t) more
  by_beside idled = refl
  by_beside (serves head) =
      ap (with_heads (step_by qs S h (serves head)))
      (set-append_left S.heads more h (settled qs h (advanced S head)) present)

  happening_beside : (t : Turn) → happened_by (beside S more) t ≡ happened_by S t
  happening_beside idled = refl
  happening_beside (serves head) = refl

  step_beside : step qs ws (beside S more) h ≡ beside (step qs ws S h) more
  unfolding step
  step_beside = ap (step_by qs (beside S more) h) turn_beside ∙ by_beside (turn qs ws S h)

  happened_beside : happened qs ws (beside S more) h ≡ happened qs ws S h
  unfolding happened
  happened_beside = ap (happened_by (beside S more)) turn_beside ∙ happening_beside (turn qs ws S h)

-- ---- every run

module _ (qs : List Request) (ws : List Wait) (more : List Head) where
  run_beside : (S : State) (gs : List ℕ) → ((h : ℕ) → Memᴰ h gs → h < length S.heads)
      → run qs ws (beside S more) gs ≡ beside (run qs ws S gs) more
  run_beside S [] granted = refl
  run_beside S (h ∷ gs) granted =
      ap (λ s. run qs ws s gs) (step_beside qs ws S more h (granted h (Memᴰ.head refl)))
      ∙ run_beside (step qs ws S h) gs (λ k m. rw (step_heads qs ws S h) (granted k (Memᴰ.tail m)))

  history_beside : (S : State) (past : List Happening) (gs : List ℕ) → ((h : ℕ) → Memᴰ h gs → h < length S.heads)
      → history qs ws (beside S more) past gs ≡ history qs ws S past gs
  history_beside S past [] granted = refl
  history_beside S past (h ∷ gs) granted =
      let present = granted h (Memᴰ.head refl) in
      ap (λ s. history qs ws s (happened qs ws (beside S more) h ∷ past) gs) (step_beside qs ws S more h present)
      ∙ ap (λ a. history qs ws (beside (step qs ws S h) more) (a ∷ past) gs) (happened_beside qs ws S more h present)
      ∙ history_beside (step qs ws S h) (happened qs ws S h ∷ past) gs
      (λ k m. rw (step_heads qs ws S h) (granted k (Memᴰ.tail m)))

-- ---- the start, and the heads that have no request

heads_split : (qs : List Request) (h m d : ℕ) → heads_from qs h (m + d) ≡ heads_from qs h m ++ heads_from qs (h + m) d
heads_split qs h zero d =
    let none : zero + d ≡ d = omega arith in
    let here : h ≡ h + zero = omega arith in
    ap (heads_from qs h) none ∙ ap (λ k. heads_from qs k d) here
heads_split qs h (suc m) d =
    let one : suc m + d ≡ suc (m + d) = omega arith in
    let next : suc h + m ≡ h + suc m = omega arith in
    ap (heads_from qs h) one
    ∙ ap (λ l. resting (seek qs h 0) ∷ l) (heads_split qs (suc h) m d ∙ ap (λ k. heads_from qs (suc h) m ++ heads_from qs k d) next)

start_beside : (qs : List Request) (m m' : ℕ) (t : List Node) → m ≤ m'
    → start qs m' t ≡ beside (start qs m t) (heads_from qs m (m' - m))
start_beside qs m m' t rise =
    let all : m' ≡ m + (m' - m) = omega arith in
    let own : 0 + m ≡ m = omega arith in
    ap (with_heads (start qs m t))
    (ap (heads_from qs 0) all ∙ heads_split qs 0 m (m' - m) ∙ ap (λ k. heads_from qs 0 m ++ heads_from qs k (m' - m)) own)

-- none of these has work
working_none : (qs : List Request) (m d : ℕ) → ((q : ℕ) → q < length qs → (request_at qs q).head < m) → working qs (heads_from qs m d) ≡ 0
working_none qs m zero own = refl
working_none qs m (suc d) own =
    let last : seek qs m 0 ≡ length qs = seek_absent qs m 0 (omega arith) (λ q l e. omega (arith, own q l, e)) in
    rw (le-ltb (length qs) (length qs) (omega arith)) at (ap (λ q. working qs (resting q ∷ heads_from qs (suc m) d)) last)
    ∙ working_none qs (suc m) d (λ q l. omega (arith, own q l))

working_beside : (qs : List Request) (heads more : List Head) → working qs more ≡ 0 → working qs (heads ++ more) ≡ working qs heads
working_beside qs [] more none = none
working_beside qs (head ∷ heads) more none =
    ap (λ n. cond (has_work qs head) (suc n) n) (working_beside qs heads more none)

-- ---- any number of heads

-- the tally, by the number of heads with work left
abbrev counted : State → ℕ → Tally
counted S n = record { idle = S.idle; failed = S.failed; links = S.links; working = n }

pub heads_open : HeadsOpen
heads_open qs ws m m' t gs rise own granted =
    let S = start qs m t in
    let more = heads_from qs m (m' - m) in
    let within : (h : ℕ) → Memᴰ h gs → h < length S.heads = λ h k. omega (arith, granted h k, length_heads qs 0 m) in
    let wider : run qs ws (start qs m' t) gs ≡ beside (run qs ws S gs) more =
    ap (λ s. run qs ws s gs) (start_beside qs m m' t rise) ∙ run_beside qs ws more S gs within in
    record {
      states = subst (SameRun qs (run qs ws S gs)) (sym wider)
          (record {
            table = refl;
            report = refl;
            entries = refl;
            idle = refl;
            failed = refl;
            links = refl;
            now = refl;
            tally = ap (counted (run qs ws S gs))
                (sym (working_beside qs (run qs ws S gs).heads more (working_none qs m (m' - m) own)));
          });
      histories = sym (ap (λ s. history qs ws s [] gs) (start_beside qs m m' t rise) ∙ history_beside qs ws more S [] gs within);
    }
