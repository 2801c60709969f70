-- Demand 3: every run of every accepted job is linearizable, cut anywhere.
--
--   Startable n s   the table of the start s has n nodes and shows the groups that s names: what the invariant needs
--
-- Main laws: heads_from_at, each head at the start; run_invariant, the invariant holds at every moment of every run;
-- linearized, the theorem for any start; initial_startable, every start that a run may have is one; run_prefix and
-- history_prefix, a cut is a shorter schedule.
use mathlib.Core.Path.{◌≡◌, refl, sym, ap, ◌∙◌}
use mathlib.Core.Logic.{◌≢◌}
use mathlib.Core.Bool.{Bool, true, false, cond, not, true≢false}
use mathlib.Core.List.{List, [], ◌∷◌, ◌++◌, Memᴰ}
use Prim.Native.Nat.{ℕ, zero, suc, ◌+◌, ◌≤◌, ◌<◌}
use native.Mathlib.Omega.{arith}
use native.Mathlib.Decide.{dec_lt}
use lib.Dec.{eqb}
use lib.ListN.{length, get_or, length-set, length-replicate, get_or-replicate}
use borrow.Author.Tests.{eq-eqb, ne_eqb}
use Rattle.basics.proofs.Conditions.{split}
use Rattle.job.specs.declared.Request.{Request}
use Rattle.job.specs.declared.Wait.{Wait}
use Rattle.word.specs.declared.Node.{Node}
use Rattle.word.specs.Word.{node_limit}
use Rattle.process.specs.declared.Head.{Head}
use Rattle.process.specs.Process.{is_resting}
use Rattle.forest.specs.Forest.{root_count}
use Rattle.forest.proofs.Forest.{together_iff_label}
use Rattle.forest.proofs.Sound.{Sound, singletons_sound}
use Rattle.forest.proofs.Roots.{singletons_roots}
use Rattle.linearization.specs.Partition.{Labels}
use Rattle.linearization.specs.Entry.{Entry, occurrences}
use Rattle.linearization.proofs.Replay.{Replayed, ended, replayed_fact, replayed_rising, replayed_replies, replayed_map}
use Rattle.rules.specs.Table.{parent, rank}
use Rattle.rules.specs.Report.{no_row, row_at}
use Rattle.rules.specs.State.{State, request_at, seek, resting, heads_from, start}
use Rattle.rules.specs.Start.{Start, fresh_start, Initial}
use Rattle.rules.specs.Start.Initial.{alone}
use Rattle.rules.specs.Step.{is_served, head_at, ready, advanced, settled, step}
use Rattle.rules.specs.Run.{Happening, run, happened, history}
use Rattle.rules.specs.History.{row_of, link_of}
use Rattle.rules.specs.Linearized.{operation_at, promised, is_listed, Playable, Linearized}
use Rattle.rules.proofs.Table.{length_fresh, fresh_singletons}
use Rattle.rules.proofs.Requests.{seek_own, seek_least}
use Rattle.rules.proofs.Stages.{Inside}
use Rattle.rules.proofs.Invariant.{Waiting, Phase, Placed, Invariant}
use Rattle.rules.proofs.Invariant.Phase.{over, current, waiting}
use Rattle.rules.proofs.Grant.{step_invariant}

pub record Startable (n : ℕ) (s : Start) : Type 0 where
  pub nodes : length s.table ≡ n
  pub sound : Sound n (parent s.table) (rank s.table) s.labels
  pub groups : root_count (parent s.table) n ≡ s.groups

-- ---- the start

pub length_heads : (qs : List Request) (h m : ℕ) → length (heads_from qs h m) ≡ m
length_heads qs h zero = refl
length_heads qs h (suc m) = ap suc (length_heads qs (suc h) m)

-- each head starts at rest before its first request
pub heads_from_at : (qs : List Request) (h m k : ℕ) → k < m → get_or (heads_from qs h m) k (resting 0) ≡ resting (seek qs (h + k) 0)
heads_from_at qs h zero k l = absurd (omega arith)
heads_from_at qs h (suc m) zero l = let same : h ≡ h + 0 = omega arith in ap (λ i. resting (seek qs i 0)) same
heads_from_at qs h (suc m) (suc k) l =
    let same : suc h + k ≡ h + suc k = omega arith in
    heads_from_at qs (suc h) m k (omega arith) ∙ ap (λ i. resting (seek qs i 0)) same

heads_from_beyond : (qs : List Request) (h m k : ℕ) → m ≤ k → get_or (heads_from qs h m) k (resting 0) ≡ resting 0
heads_from_beyond qs h zero k l = refl
heads_from_beyond qs h (suc m) zero l = absurd (omega arith)
heads_from_beyond qs h (suc m) (suc k) l = heads_from_beyond qs (suc h) m k (omega arith)

module _ (qs : List Request) (m : ℕ) (t : List Node) where
  start_head : (h : ℕ) → h < m → head_at (start qs m t) h ≡ resting (seek qs h 0)
  start_head h l = let same : 0 + h ≡ h = omega arith in heads_from_at qs 0 m h l ∙ ap (λ i. resting (seek qs i 0)) same

  pub start_resting : (h : ℕ) → is_resting (head_at (start qs m t) h) ≡ true
  start_resting h = go (dec_lt h m)
    where
      go : Dec (h < m) → is_resting (head_at (start qs m t) h) ≡ true
      go (yes l) = ap is_resting (start_head h l)
      go (no l) = ap is_resting (heads_from_beyond qs 0 m h (omega arith))

  -- no head is beyond a request of its own
  start_position : (q : ℕ) → q < length qs → (head_at (start qs m t) (request_at qs q).head).task.request ≤ q
  start_position q l = go (dec_lt (request_at qs q).head m)
    where
      go : Dec ((request_at qs q).head < m) → (head_at (start qs m t) (request_at qs q).head).task.request ≤ q
      go (yes k) = rw (start_head (request_at qs q).head k) (seek_least qs (request_at qs q).head 0 q (omega arith) l refl)
      go (no k) = rw (heads_from_beyond qs 0 m (request_at qs q).head (omega arith)) (omega arith)

start_waiting : (q : ℕ) → Waiting q [] 0
unfolding row_of link_of
start_waiting q = record { unfinished = refl; fresh = refl; unlinked = refl; unlisted = refl }

pub start_row : (q : ℕ) → no_row ≡ row_of q []
unfolding row_of
start_row q = refl

never_busy : {A : Type 0} (b : Bool) → b ≡ true → b ≡ false → A
never_busy b t f = absurd (true≢false (sym t ∙ f))

pub start_invariant : {n : ℕ} {s : Start} (qs : List Request) (m : ℕ) → Startable n s
    → Invariant qs n s.labels s.groups (start qs m s.table) []
start_invariant {n} {s} qs m begin =
    let t = s.table in
    record {
      nodes = begin.nodes;
      clock = refl;
      reports = length-replicate (length qs) no_row;
      rows = λ q l. get_or-replicate (length qs) q no_row no_row l ∙ start_row q;
      sound = begin.sound;
      roots = omega (arith, begin.groups);
      own = λ h l within. rw (start_head qs m t h (omega (arith, length_heads qs 0 m)))
          (seek_own qs h 0 (rw (start_head qs m t h (omega (arith, length_heads qs 0 m))) at within));
      busy = λ h b. never_busy (is_resting (head_at (start qs m t) h)) (start_resting qs m t h) b;
      knows = λ h b. never_busy (is_resting (head_at (start qs m t) h)) (start_resting qs m t h) b;
      timed = λ h b. never_busy (is_resting (head_at (start qs m t) h)) (start_resting qs m t h) b;
      entries = ended;
      phases = λ q l. waiting (start_position qs m t q l) (λ e. start_resting qs m t (request_at qs q).head) (start_waiting q);
    }

-- ---- the run

pub step_heads : (qs : List Request) (ws : List Wait) (S : State) (h : ℕ) → length (step qs ws S h).heads ≡ length S.heads
unfolding step
step_heads qs ws S h =
    split (is_served qs ws S.report (head_at S h))
    (λ t. rw t (length-set S.heads h (settled qs h (advanced S (ready qs (head_at S h))))))
    (λ t. rw t refl)

module _ {qs : List Request} (ws : List Wait) {n : ℕ} {B : Labels} {roots₀ : ℕ}
    (inside : (q : ℕ) → q < length qs → Inside n (request_at qs q)) where
  pub run_invariant : (S : State) (past : List Happening) (gs : List ℕ) → ((h : ℕ) → Memᴰ h gs → h < length S.heads)
      → Invariant qs n B roots₀ S past → Invariant qs n B roots₀ (run qs ws S gs) (history qs ws S past gs)
  run_invariant S past [] granted inv = inv
  run_invariant S past (h ∷ gs) granted inv =
      run_invariant (step qs ws S h) (happened qs ws S h ∷ past) gs
      (λ k m. rw (step_heads qs ws S h) (granted k (Memᴰ.tail m)))
      (step_invariant inside inv h (granted h (Memᴰ.head refl)) ws)

-- ---- cuts

module _ (qs : List Request) (ws : List Wait) where
  pub run_prefix : (S : State) (gs hs : List ℕ) → run qs ws S (gs ++ hs) ≡ run qs ws (run qs ws S gs) hs
  run_prefix S [] hs = refl
  run_prefix S (h ∷ gs) hs = run_prefix (step qs ws S h) gs hs

  pub history_prefix : (S : State) (past : List Happening) (gs hs : List ℕ)
      → history qs ws S past (gs ++ hs) ≡ history qs ws (run qs ws S gs) (history qs ws S past gs) hs
  history_prefix S past [] hs = refl
  history_prefix S past (h ∷ gs) hs = history_prefix (step qs ws S h) (happened qs ws S h ∷ past) gs hs

-- ---- from the invariant to the statement

module _ {qs : List Request} {n : ℕ} {B : Labels} {roots₀ : ℕ} {S : State} {past : List Happening}
    (inv : Invariant qs n B roots₀ S past) where
  placed_entry : (e : Entry) → Memᴰ e S.entries → Placed qs past e
  placed_entry = replayed_fact inv.entries

  times_listed : (q times : ℕ) (head : Head) → Phase head q past times → times ≡ cond (is_listed (row_of q past) (link_of q past)) 1 0
  times_listed q times head (over l o) = rw (ne_eqb (row_of q past).answer 0 o.finished) o.listed
  times_listed q times head (current e b c) =
      rw (eq-eqb (row_of q past).answer 0 c.unfinished) (c.listed ∙ turned (eqb (link_of q past) 0))
    where
      turned : (b : Bool) → ◌≡◌ {A = ℕ} (cond b 0 1) (cond (not b) 1 0)
      turned true = refl
      turned false = refl
  times_listed q times head (waiting l r w) =
      rw (eq-eqb (row_of q past).answer 0 w.unfinished, eq-eqb (link_of q past) 0 w.unlinked) w.unlisted

  -- the claims as the report has them
  reported : Replayed (operation_at qs) (Placed qs past) (λ q. promised (row_at S.report q).answer) B 0 S.entries
  reported =
      replayed_map inv.entries (λ e m p. p)
      (λ e m. ap (λ r. promised r.answer) (sym (inv.rows e.request (placed_entry e m).known)))

  pub invariant_linearized : Linearized B n qs S.table S.report S.entries past
  invariant_linearized =
      record {
        rising = replayed_rising inv.entries;
        points = λ e m. (placed_entry e m).point;
        requests = λ e m. (placed_entry e m).known;
        listed = λ q l. times_listed q (occurrences q S.entries) (head_at S (request_at qs q).head) (inv.phases q l)
            ∙ ap (λ r. cond (is_listed r (link_of q past)) 1 0) (sym (inv.rows q l));
        ordered = λ e f me mf finished before. ordered e f me mf
            (λ z. finished (ap (λ r. r.last) (inv.rows e.request (placed_entry e me).known) ∙ z))
            (omega (
              arith,
              before,
              ap (λ r. r.last) (inv.rows e.request (placed_entry e me).known),
              ap (λ r. r.first) (inv.rows f.request (placed_entry f mf).known),
            ));
        answers = replayed_replies reported;
        sets = together_iff_label inv.sound.formed inv.sound.labelled;
      }
    where
      ordered : (e f : Entry) → Memᴰ e S.entries → Memᴰ f S.entries → (row_of e.request past).last ≢ 0
          → (row_of e.request past).last < (row_of f.request past).first → e.point < f.point
      ordered e f me mf finished before = omega (arith, (placed_entry e me).ended finished, before, (placed_entry f mf).since)

-- ---- the theorem

module _ {n m : ℕ} {qs : List Request} {gs : List ℕ} (playable : Playable n m qs gs) where
  pub playable_inside : (q : ℕ) → q < length qs → Inside n (request_at qs q)
  playable_inside q l = record { x = playable.left q l; y = playable.right q l }

  module _ (ws : List Wait) {s : Start} (begin : Startable n s) where
    abbrev S : State
    S = start qs m s.table

    pub started_invariant : Invariant qs n s.labels s.groups (run qs ws S gs) (history qs ws S [] gs)
    started_invariant =
        run_invariant ws playable_inside S [] gs (λ h k. omega (arith, playable.granted h k, length_heads qs 0 m))
        (start_invariant qs m begin)

    pub linearized : Linearized s.labels n qs (run qs ws S gs).table (run qs ws S gs).report (run qs ws S gs).entries
        (history qs ws S [] gs)
    linearized = invariant_linearized started_invariant

-- ---- the starts that a run may have

fresh_startable : (n : ℕ) → n ≤ node_limit → Startable n (fresh_start n)
fresh_startable n few =
    let single = fresh_singletons n few in
    record { nodes = length_fresh 0 n; sound = singletons_sound single; groups = singletons_roots single }

pub initial_startable : {n : ℕ} {s : Start} → n ≤ node_limit → Initial n s → Startable n s
initial_startable {n} few alone = fresh_startable n few
