-- What stands before the first grant is the start of the rules, shown on the lent buffers.
--
--   first_node i        the node i at the start
--   first_word i        its word
--   first_request qs h  the first request of head h
--
-- Main laws: fresh_word and first_requests_at, each place of the table and of the first requests; first_heads and
-- first_flags, the heads and their flags; start_rows, the report's zeros are rows; start_standing, the buffers show the
-- start.
use mathlib.Core.Path.{◌≡◌, refl, sym, ap, ap₂, ◌∙◌}
use mathlib.Core.List.{List, [], ◌∷◌, map}
use Prim.Native.Nat.{ℕ, zero, suc, ◌+◌, ◌*◌, ◌≤◌, ◌<◌}
use native.Mathlib.Omega.{arith}
use lib.ListN.{length, get_or, replicate, length-map}
use Rattle.basics.proofs.Lists.{get_or_mapped}
use Rattle.job.specs.declared.Request.{Request}
use Rattle.job.specs.declared.Wait.{Wait}
use Rattle.job.specs.Job.{Job, most_heads}
use Rattle.word.specs.declared.Node.{Node}
use Rattle.word.specs.Word.{encode}
use Rattle.process.specs.declared.Task.{Task}
use Rattle.process.specs.declared.Head.{Head}
use Rattle.mask.specs.Mask.{mask_of}
use Rattle.rules.specs.Table.{no_node, fresh}
use Rattle.rules.specs.declared.Row.{Row}
use Rattle.rules.specs.Report.{no_row}
use Rattle.rules.specs.State.{seek, resting, heads_from}
use Rattle.rules.specs.Start.{Start, Initial}
use Rattle.rules.proofs.Table.{length_fresh, fresh_at}
use Rattle.stepper.specs.Buffers.{flat_rows, rows_of}
use Rattle.stepper.specs.Shown.{noted, buffers, Standing}
use Rattle.stepper.proofs.Lists.{rows_back}
use Rattle.start.specs.Start.{first_requests, first_task, at_rest, is_request, work_flag}

-- ---- the table

abbrev pub first_node : ℕ → Node
first_node i = record { rank = 0; parent = i }

abbrev pub first_word : ℕ → ℕ
first_word i = encode (first_node i)

pub length_words : (n : ℕ) → length (map encode (fresh n)) ≡ n
length_words n = length-map (fresh n) encode ∙ length_fresh 0 n

pub fresh_word : (n i : ℕ) → i < n → get_or (map encode (fresh n)) i 0 ≡ first_word i
fresh_word n i l =
    let same : 0 + i ≡ i = omega arith in
    get_or_mapped encode (fresh n) i no_node 0 (omega (arith, length_fresh 0 n)) ∙ ap encode (fresh_at 0 n i l) ∙ ap first_word same

-- ---- the report

pub start_rows : (k : ℕ) → flat_rows (replicate k no_row) ≡ replicate (4 * k) 0
start_rows zero = refl
start_rows (suc k) =
    let four : 4 * suc k ≡ suc (suc (suc (suc (4 * k)))) = omega arith in
    rw four (ap {B = List ℕ} (λ r. 0 ∷ 0 ∷ 0 ∷ 0 ∷ r) (start_rows k))

pub start_report : (k : ℕ) → rows_of (replicate (4 * k) 0) ≡ replicate k no_row
start_report k = ap rows_of (sym (start_rows k)) ∙ rows_back (replicate k no_row)

-- ---- the heads

abbrev pub first_request : List Request → ℕ → ℕ
first_request qs h = seek qs h 0

pub length_first_requests : (qs : List Request) (h m : ℕ) → length (first_requests qs h m) ≡ m
length_first_requests qs h zero = refl
length_first_requests qs h (suc m) = ap suc (length_first_requests qs (suc h) m)

requests_at : (qs : List Request) (h m k : ℕ) → k < m → get_or (first_requests qs h m) k 0 ≡ first_request qs (h + k)
requests_at qs h zero k l = absurd (omega arith)
requests_at qs h (suc m) zero l = let same : h ≡ h + 0 = omega arith in ap (first_request qs) same
requests_at qs h (suc m) (suc k) l =
    let same : suc h + k ≡ h + suc k = omega arith in
    requests_at qs (suc h) m k (omega arith) ∙ ap (first_request qs) same

pub first_requests_at : (qs : List Request) (m h : ℕ) → h < m → get_or (first_requests qs 0 m) h 0 ≡ first_request qs h
first_requests_at qs m h l = let same : 0 + h ≡ h = omega arith in requests_at qs 0 m h l ∙ ap (first_request qs) same

resting_first : (ws : List Wait) (report : List Row) (qs : List Request) (h m : ℕ)
    → map at_rest (map (first_task ws report) (first_requests qs h m)) ≡ map (noted ws report) (heads_from qs h m)
resting_first ws report qs h zero = refl
resting_first ws report qs h (suc m) =
    ap (λ l. noted ws report (resting (first_request qs h)) ∷ l) (resting_first ws report qs (suc h) m)

-- a head has work exactly if it has a first request
flags_first : (k : ℕ) (qs : List Request) (h m : ℕ) → map (is_request k) (first_requests qs h m) ≡ map (work_flag k) (heads_from qs h m)
flags_first k qs h zero = refl
flags_first k qs h (suc m) = ap (λ l. is_request k (first_request qs h) ∷ l) (flags_first k qs (suc h) m)

-- the heads that rest before the first requests are the heads of the start, and their flags are those of the mask
module _ (qs : List Request) (firsts : List ℕ) where
  pub first_heads : (ws : List Wait) (numbers : List ℕ) (tasks : List Task) (heads : List Head)
      → firsts ≡ first_requests qs 0 most_heads
      → numbers ≡ replicate (4 * length qs) 0 → tasks ≡ map (first_task ws (rows_of numbers)) firsts → heads ≡ map at_rest tasks
      → heads ≡ map (noted ws (replicate (length qs) no_row)) (heads_from qs 0 most_heads)
  first_heads ws numbers tasks heads are-first clear are-tasks are =
      are ∙ ap (map at_rest) (are-tasks ∙ ap₂ (λ n l. map (first_task ws (rows_of n)) l) clear are-first)
      ∙ ap (λ rows. map at_rest (map (first_task ws rows) (first_requests qs 0 most_heads))) (start_report (length qs))
      ∙ resting_first ws (replicate (length qs) no_row) qs 0 most_heads

  pub first_flags : (mask : ℕ) {requests : ℕ} → firsts ≡ first_requests qs 0 most_heads → requests ≡ length qs
      → mask ≡ mask_of (map (is_request requests) firsts)
      → mask ≡ mask_of (map (work_flag (length qs)) (heads_from qs 0 most_heads))
  first_flags mask are-first count are =
      are ∙ ap₂ (λ k l. mask_of (map (is_request k) l)) count are-first ∙ ap mask_of (flags_first (length qs) qs 0 most_heads)

-- ---- all of it

pub start_standing : {origin : Start} (j : Job) → Initial j.nodes origin → (lent : List ℕ) → 2 * length j.requests ≤ length lent
    → Standing origin j
    (buffers (map (noted j.waits (replicate (length j.requests) no_row)) (heads_from j.requests 0 most_heads))
    (map encode origin.table) (replicate (4 * length j.requests) 0) lent 0
    (mask_of (map (work_flag (length j.requests)) (heads_from j.requests 0 most_heads))))
    1 [] lent
start_standing {origin} j initial lent room =
    record {
      initial = initial;
      shows = ap (λ rows. buffers (map (noted j.waits (replicate (length j.requests) no_row)) (heads_from j.requests 0 most_heads))
          (map encode origin.table) rows lent 0
          (mask_of (map (work_flag (length j.requests)) (heads_from j.requests 0 most_heads)))) (sym (start_rows (length j.requests)));
      next = refl;
      granted = λ h m. absurd (elim m [ ]);
      room = room;
    }
