-- The first grants of a schedule make no more runs than all of them, and every number of a written file is a byte.
--
--   Each t   every number of t is a byte
--
-- Main laws: runs_cut and written_bytes.
use mathlib.Core.Path.{subst}
use mathlib.Core.Bool.{Bool, true, false, cond}
use mathlib.Core.List.{List, [], ◌∷◌, ◌++◌}
use Prim.Native.Nat.{ℕ, zero, suc, ◌+◌, ◌/◌, ◌%◌, ◌≤◌, ◌<◌}
use native.Mathlib.Omega.{arith}
use lib.ListN.{length, get_or, take, drop, take-append-drop}
use lib.Pow.{pow_mono}
use Rattle.job.specs.declared.Kind.{Kind}
use Rattle.job.specs.declared.Kind.TheVariants.{Union, SameSet}
use Rattle.job.specs.declared.Request.{Request}
use Rattle.job.specs.declared.Wait.{Wait}
use Rattle.job.specs.declared.Right.{Right}
use Rattle.job.specs.Job.{Job, kind_number, most_nodes, most_heads, most_requests}
use Rattle.jobfile.specs.declared.Run.{Run}
use Rattle.jobfile.specs.Format.{close_mark, word_bytes, extends}
use Rattle.jobfile.specs.Written.{rights_bytes, requests_bytes, waits_bytes, runs_bytes, next_run, runs_from, longest_runs, file_with}
use Rattle.jobfile.specs.Written.{balance, written}
use Rattle.jobfile.specs.Admitted.{Serves, Pairs, Admitted, Bytes}
use Rattle.jobfile.proofs.Rights.{Holding, holding_all}
use Rattle.jobfile.proofs.Runs.{Follows, longest_follow}

-- ---- the runs of the first grants

-- what a grant does to the runs does not depend on what they are
one_more : (b : Bool) (r : Run) (rs rs' : List Run) → length rs ≤ length rs' → length (cond b rs (r ∷ rs)) ≤ length (cond b rs' (r ∷ rs'))
one_more true r rs rs' l = l
one_more false r rs rs' l = omega arith

none_lost : (b : Bool) (r : Run) (rs : List Run) → length rs ≤ length (cond b rs (r ∷ rs))
none_lost true r rs = omega arith
none_lost false r rs = omega arith

runs_some : (r : Run) (gs : List ℕ) → 0 < length (runs_from r gs)
runs_some r [] = omega arith
runs_some r (g ∷ gs) =
    omega (arith, runs_some (next_run r g) gs, none_lost (extends r g) r (runs_from (next_run r g) gs))

runs_prefix : (r : Run) (gs hs : List ℕ) → length (runs_from r gs) ≤ length (runs_from r (gs ++ hs))
runs_prefix r [] hs = omega (arith, runs_some r hs)
runs_prefix r (g ∷ gs) hs =
    one_more (extends r g) r (runs_from (next_run r g) gs) (runs_from (next_run r g) (gs ++ hs)) (runs_prefix (next_run r g) gs hs)

longest_prefix : (gs hs : List ℕ) → length (longest_runs gs) ≤ length (longest_runs (gs ++ hs))
longest_prefix [] hs = omega arith
longest_prefix (g ∷ gs) hs = runs_prefix (record { head = g; count = 1 }) gs hs

pub runs_cut : (k : ℕ) (gs : List ℕ) → length (longest_runs (take k gs)) ≤ length (longest_runs gs)
runs_cut k gs =
    subst (λ all. length (longest_runs (take k gs)) ≤ length (longest_runs all)) (take-append-drop k gs)
    (longest_prefix (take k gs) (drop k gs))

-- ---- bytes

abbrev Each : List ℕ → Type 0
Each [] = Unit {0}
Each (b ∷ t) = (b < 256) × Each t

each_bytes : (t : List ℕ) → Each t → Bytes t
each_bytes [] e i = omega arith
each_bytes (b ∷ t) e zero = e.0
each_bytes (b ∷ t) e (suc i) = each_bytes t e.1 i

kind_byte : (k : Kind) → kind_number k < 256
kind_byte Union = omega arith
kind_byte SameSet = omega arith

-- a right's numbers are bytes: there are at most 32 heads, and its mask has no bit for no head
rights_each : (heads number : ℕ) (rs : List Right) (t : List ℕ) → heads ≤ most_heads → Holding heads number rs → Each t
    → Each (rights_bytes rs ++ t)
rights_each heads number [] t few holding rest = rest
rights_each heads number (r ∷ rs) t few holding rest =
    let more = rights_each heads (number + 1) rs t few holding.1 rest in
    let held = holding.0.holds in
    let within : r.sight < 4294967296 = omega (arith, held.sight, pow_mono few) in
    let low : Each (word_bytes (r.sight % 65536)) = (omega arith, (omega arith, tt)) in
    let high : Each (word_bytes (r.sight / 65536)) = (omega arith, (omega arith, tt)) in
    let head : r.head < 256 = omega (arith, held.head, holding.0.among) in
    let rights : r.rights < 256 = omega (arith, held.few) in
    (omega arith, (omega arith, (head, (rights, (low.0, (low.1.0, (high.0, (high.1.0, more))))))))

-- a request's numbers are bytes: there are at most 4,096 nodes and 32 heads
requests_each : (nodes heads : ℕ) (rights : List Right) (qs : List Request) (t : List ℕ) → nodes ≤ most_nodes → heads ≤ most_heads
    → ((q : ℕ) (none : Request) → q < length qs → Serves nodes heads rights (get_or qs q none)) → Each t → Each (requests_bytes qs ++ t)
requests_each nodes heads rights [] t few_nodes few_heads serves rest = rest
requests_each nodes heads rights (q ∷ qs) t few_nodes few_heads serves rest =
    let s = serves 0 q (omega arith) in
    let more = requests_each nodes heads rights qs t few_nodes few_heads (λ i none l. serves (suc i) none (omega arith)) rest in
    let x : Each (word_bytes q.x) = (omega arith, (omega (arith, s.x), tt)) in
    let y : Each (word_bytes q.y) = (omega arith, (omega (arith, s.y), tt)) in
    (omega arith, (omega arith, (omega (arith, s.head), (kind_byte q.kind, (x.0, (x.1.0, (y.0, (y.1.0, more))))))))

-- a pair's numbers are bytes: there are at most 512 requests
waits_each : (count : ℕ) (ws : List Wait) (t : List ℕ) → count ≤ most_requests
    → ((i : ℕ) (none : Wait) → i < length ws → Pairs count (get_or ws i none)) → Each t → Each (waits_bytes ws ++ t)
waits_each count [] t few pairs rest = rest
waits_each count (w ∷ ws) t few pairs rest =
    let p = pairs 0 w (omega arith) in
    let more = waits_each count ws t few (λ i none l. pairs (suc i) none (omega arith)) rest in
    let later : Each (word_bytes w.later) = (omega arith, (omega (arith, p.later), tt)) in
    let earlier : Each (word_bytes w.earlier) = (omega arith, (omega (arith, p.later, p.earlier), tt)) in
    (omega arith, (omega arith, (later.0, (later.1.0, (earlier.0, (earlier.1.0, more))))))

runs_each : (heads : ℕ) (before : Run) (rs : List Run) (t : List ℕ) → heads ≤ most_heads → Follows heads before rs → Each t
    → Each (runs_bytes rs ++ t)
runs_each heads before [] t few follow rest = rest
runs_each heads before (r ∷ rs) t few follow rest =
    let more = runs_each heads r rs t few follow.1 rest in
    (omega arith, (omega arith, (omega (arith, follow.0.head), (omega (arith, follow.0.few), more))))

pub written_bytes : (j : Job) → Admitted j → Bytes (written j)
unfolding written file_with
written_bytes j a =
    let follow = longest_follow j.heads 0 j.schedule a.each_grant in
    let nodes : Each (word_bytes j.nodes) = (omega arith, (omega (arith, a.few_nodes), tt)) in
    let heads : Each (word_bytes j.heads) = (omega arith, (omega (arith, a.few_heads), tt)) in
    let close : List ℕ = word_bytes close_mark ++ word_bytes (balance j) in
    let last : Each close = (omega arith, (omega arith, (omega arith, (omega arith, tt)))) in
    let runs = runs_each j.heads _ (longest_runs j.schedule) close a.few_heads follow last in
    let waits = waits_each (length j.requests) j.waits (runs_bytes (longest_runs j.schedule) ++ close)
    a.few_requests a.each_wait runs in
    let requests = requests_each j.nodes j.heads j.rights j.requests
    (waits_bytes j.waits ++ (runs_bytes (longest_runs j.schedule) ++ close)) a.few_nodes a.few_heads a.each_request waits in
    let body = rights_each j.heads 0 j.rights
    (requests_bytes j.requests ++ (waits_bytes j.waits ++ (runs_bytes (longest_runs j.schedule) ++ close))) a.few_heads
    (holding_all j.heads j.rights a.complete a.each_right) requests in
    each_bytes (written j) (omega arith, (omega arith, (nodes.0, (nodes.1.0, (heads.0, (heads.1.0, body))))))
