-- The records that come in sections, rights, requests, pairs and runs: how each is written, read and checked.
--
--   word_back, word_front   the two bytes of a word give the word, and a word gives its two bytes
--   word_at, mark_front, pair_after   the word at a place, the mark, and the two bytes behind it, in front of what follows
--   mask_back, mask_front   the same of a mask and its four bytes
--   right_layout h          a right of a job with h heads, checked with the number of rights before it
--   request_layout n h rs   a request of a job with n nodes, h heads and the rights rs, checked with the number of requests before it
--   wait_layout q           a pair of a job with q requests, checked with the pair before it
--   run_layout h            a run of a job with h heads, checked with the run before it; where only the bytes matter, n, q and h
--                           are 0, and there are no rights
--   holding_pass            written rights that are a job's are not refused
--   asking_pass             nor are written requests that are a job's
--   rising_pass             nor are written pairs that rise
--   following_pass          nor are written runs that follow the rules
use mathlib.Core.Path.{◌≡◌, refl, sym, ap, ◌∙◌}
use mathlib.Core.List.{List, [], ◌∷◌, ◌++◌}
use Prim.Native.Nat.{ℕ, ◌+◌, ◌*◌, ◌%◌, ◌/◌, ◌≤◌}
use native.Mathlib.Omega.{arith}
use lib.ListN.{length, get_or, drop, length-drop}
use lib.Seq.{drop-drop, drop-cons}
use borrow.Author.Tests.{ne_eqb, le-ltb, lt-leb}
use Rattle.job.specs.declared.Request.{Request}
use Rattle.job.specs.declared.Wait.{Wait}
use Rattle.job.specs.declared.Right.{Right}
use Rattle.job.specs.Job.{most_requests, may_ask, right_of}
use Rattle.jobfile.specs.declared.Run.{Run}
use Rattle.jobfile.specs.Format.{right_mark, request_mark, wait_mark, run_mark, right_size, request_size, wait_size, run_size, word}
use Rattle.jobfile.specs.Format.{word_bytes, mask, mask_bytes, right_refusal, pair_refusal}
use Rattle.jobfile.specs.Meaning.{right_at, right_record_refusal, fields_at, request_at, request_refusal, wait_at, wait_refusal}
use Rattle.jobfile.specs.Meaning.{run_at, run_refusal}
use Rattle.jobfile.specs.Written.{right_bytes, request_bytes, wait_bytes, run_bytes}
use Rattle.jobfile.specs.Admitted.{Bytes}
use Rattle.jobfile.proofs.KindNumbers.{kind_back, kind_written, some_kind, few_kinds}
use Rattle.jobfile.proofs.Refusals.{holds_passes, Fit, fit_passes, may_passes, Paired, paired_passes}
use Rattle.jobfile.proofs.Chains.{latest, counted, chain_passes}
use Rattle.jobfile.proofs.Rights.{Held, Holding}
use Rattle.jobfile.proofs.Requests.{Asked, Asking}
use Rattle.jobfile.proofs.Pairs.{Rising}
use Rattle.jobfile.proofs.Runs.{Following, Follows}
use Rattle.jobfile.proofs.Passed.{right_passed, RequestPassed, request_passed, wait_passed, run_passed}
use Rattle.jobfile.proofs.Records.{Layout, Passes, bytes_drop}

-- The two bytes of a word give the word.
pub word_back : (w : ℕ) → w % 256 + 256 * (w / 256) ≡ w
word_back w = omega arith

word_front : (t : List ℕ) → Bytes t → 2 ≤ length t → word_bytes (word t) ++ drop 2 t ≡ t
word_front [] b l = absurd (omega arith)
word_front (low ∷ []) b l = absurd (omega arith)
word_front (low ∷ high ∷ t) b l =
    let first : (low + 256 * high) % 256 ≡ low = omega (arith, b 0) in
    let second : (low + 256 * high) / 256 ≡ high = omega (arith, b 0) in
    λ i. first i ∷ second i ∷ t

pub word_at : (n : ℕ) (t : List ℕ) → Bytes t → n + 2 ≤ length t → word_bytes (word (drop n t)) ++ drop (n + 2) t ≡ drop n t
word_at n t b l = rw (← drop-drop) (word_front (drop n t) (bytes_drop n t b) (rw length-drop (omega arith)))

-- A record begins with its mark.
pub mark_front : (m : ℕ) (t : List ℕ) → Bytes t → 2 ≤ length t → word t ≡ m → word_bytes m ++ drop 2 t ≡ t
mark_front m t b l e = rw (← e) (word_front t b l)

-- The two fields of a byte each stand behind the mark.
pub pair_after : (t : List ℕ) → 4 ≤ length t → get_or t 2 0 ∷ get_or t 3 0 ∷ drop 4 t ≡ drop 2 t
pair_after t l = sym (drop-cons t 2 0 (omega arith) ∙ ap (λ (u : List ℕ). get_or t 2 0 ∷ u) (drop-cons t 3 0 (omega arith)))

-- A mask is two words.
mask_back : (m : ℕ) (t : List ℕ) → mask (mask_bytes m ++ t) ≡ m
mask_back m t = omega (arith, word_back (m % 65536), word_back (m / 65536))

mask_front : (t : List ℕ) → Bytes t → 4 ≤ length t → mask_bytes (mask t) ++ drop 4 t ≡ t
mask_front t b l =
    let first : mask t % 65536 ≡ word t = omega (arith, b 0, b 1) in
    let second : mask t / 65536 ≡ word (drop 2 t) = omega (arith, b 0, b 1) in
    rw (first, second, word_at 2 t b l) (word_front t b (omega arith))

mask_at : (n : ℕ) (t : List ℕ) → Bytes t → n + 4 ≤ length t → mask_bytes (mask (drop n t)) ++ drop (n + 4) t ≡ drop n t
mask_at n t b l = rw (← drop-drop) (mask_front (drop n t) (bytes_drop n t b) (rw length-drop (omega arith)))

pub right_back : (r : Right) (t : List ℕ) → right_at (right_bytes r ++ t) ≡ r
right_back r t = λ i. record { head = r.head; rights = r.rights; sight = mask_back r.sight t i }

right_passes : (heads number : ℕ) (r : Right) (t : List ℕ) → Held heads number r
    → right_record_refusal heads number (right_bytes r ++ t) ≡ 0
unfolding right_record_refusal
right_passes heads number r t h =
    let u : List ℕ = right_bytes r ++ t in
    rw (lt-leb heads number h.among, le-ltb (length u) right_size (omega arith))
    (ap (right_refusal heads number) (right_back r t) ∙ holds_passes heads number r h.holds)

pub right_front : (t : List ℕ) → right_size ≤ length t → word t ≡ right_mark → Bytes t → right_bytes (right_at t) ++ drop right_size t ≡ t
right_front t l e b = rw (mask_at 4 t b l, pair_after t (omega arith)) (mark_front right_mark t b (omega arith) e)

pub request_back : (q : Request) (t : List ℕ) → request_at (request_bytes q ++ t) ≡ q
request_back q t = λ i. record { head = q.head; kind = kind_back q.kind i; x = word_back q.x i; y = word_back q.y i }

request_passes : (nodes heads : ℕ) (rights : List Right) (number : ℕ) (q : Request) (t : List ℕ) → Asked nodes heads rights number q
    → request_refusal nodes heads rights number (request_bytes q ++ t) ≡ 0
unfolding request_refusal
request_passes nodes heads rights number q t a =
    let s = a.serves in
    let u : List ℕ = request_bytes q ++ t in
    let f : Fit nodes heads (fields_at u) = record {
      head = s.head;
      some_kind = some_kind q.kind;
      few_kinds = few_kinds q.kind;
      x = rw word_back s.x;
      y = rw word_back s.y;
    } in
    let held = (right_of rights q.head).rights in
    let asks = ap (may_ask held) (kind_back q.kind) ∙ s.asks in
    rw (
      le-ltb (length u) request_size (omega arith),
      lt-leb most_requests number a.few,
      fit_passes nodes heads (fields_at u) f,
      may_passes held (fields_at u).kind asks,
    )

pub wait_back : (w : Wait) (t : List ℕ) → wait_at (wait_bytes w ++ t) ≡ w
wait_back w t = λ i. record { later = word_back w.later i; earlier = word_back w.earlier i }

wait_passes : (count : ℕ) (before w : Wait) (t : List ℕ) → Paired count before w → wait_refusal count before (wait_bytes w ++ t) ≡ 0
unfolding wait_refusal
wait_passes count before w t p =
    let u : List ℕ = wait_bytes w ++ t in
    rw (le-ltb (length u) wait_size (omega arith)) (ap (pair_refusal count before) (wait_back w t) ∙ paired_passes count before w p)

run_passes : (heads : ℕ) (before r : Run) (t : List ℕ) → Following heads before r → run_refusal heads before (run_bytes r ++ t) ≡ 0
unfolding run_refusal
run_passes heads before r t f =
    let u : List ℕ = run_bytes r ++ t in
    rw (le-ltb (length u) run_size (omega arith), lt-leb heads r.head f.head, ne_eqb r.count 0 (λ e. omega arith), f.apart)

pub request_front : (nodes heads : ℕ) (rights : List Right) (number : ℕ) (t : List ℕ) → RequestPassed nodes heads rights number t
    → word t ≡ request_mark → Bytes t → request_bytes (request_at t) ++ drop request_size t ≡ t
request_front nodes heads rights number t p e b =
    let l = p.whole in
    rw (
      kind_written (get_or t 3 0) p.fields.some_kind p.fields.few_kinds,
      word_at 6 t b (omega arith),
      word_at 4 t b (omega arith),
      pair_after t (omega arith),
    )
    (mark_front request_mark t b (omega arith) e)

pub wait_front : (t : List ℕ) → wait_size ≤ length t → word t ≡ wait_mark → Bytes t → wait_bytes (wait_at t) ++ drop wait_size t ≡ t
wait_front t l e b = rw (word_at 4 t b (omega arith), word_at 2 t b (omega arith)) (mark_front wait_mark t b (omega arith) e)

pub run_front : (t : List ℕ) → run_size ≤ length t → word t ≡ run_mark → Bytes t → run_bytes (run_at t) ++ drop run_size t ≡ t
run_front t l e b = rw (pair_after t l) (mark_front run_mark t b (omega arith) e)

abbrev pub right_layout : ℕ → Layout Right ℕ
right_layout heads =
    record {
      size = right_size;
      mark = right_mark;
      bytes = right_bytes;
      at = right_at;
      check = right_record_refusal heads;
      next = λ number t. number + 1;
      some = omega arith;
      marked = refl;
      sized = λ r. refl;
      first = λ r t. refl;
      back = right_back;
      whole = λ number t e. (right_passed heads number t e).whole;
      front = λ number t e. right_front t (right_passed heads number t e).whole;
    }

abbrev pub request_layout : ℕ → ℕ → List Right → Layout Request ℕ
request_layout nodes heads rights =
    record {
      size = request_size;
      mark = request_mark;
      bytes = request_bytes;
      at = request_at;
      check = request_refusal nodes heads rights;
      next = λ number t. number + 1;
      some = omega arith;
      marked = refl;
      sized = λ q. refl;
      first = λ q t. refl;
      back = request_back;
      whole = λ number t e. (request_passed nodes heads rights number t e).whole;
      front = λ number t e. request_front nodes heads rights number t (request_passed nodes heads rights number t e);
    }

abbrev pub wait_layout : ℕ → Layout Wait Wait
wait_layout count =
    record {
      size = wait_size;
      mark = wait_mark;
      bytes = wait_bytes;
      at = wait_at;
      check = wait_refusal count;
      next = λ before t. wait_at t;
      some = omega arith;
      marked = refl;
      sized = λ w. refl;
      first = λ w t. refl;
      back = wait_back;
      whole = λ before t e. (wait_passed count before t e).whole;
      front = λ before t e. wait_front t (wait_passed count before t e).whole;
    }

abbrev pub run_layout : ℕ → Layout Run Run
run_layout heads =
    record {
      size = run_size;
      mark = run_mark;
      bytes = run_bytes;
      at = run_at;
      check = run_refusal heads;
      next = λ before t. run_at t;
      some = omega arith;
      marked = refl;
      sized = λ r. refl;
      first = λ r t. refl;
      back = λ r t. refl;
      whole = λ before t e. (run_passed heads before t e).whole;
      front = λ before t e. run_front t (run_passed heads before t e).whole;
    }

pub holding_pass : (heads number : ℕ) (rs : List Right) (t : List ℕ) → Holding heads number rs → Passes (right_layout heads) t number rs
holding_pass heads = chain_passes (right_layout heads) (Held heads) counted (λ number t. refl) (right_passes heads)

pub asking_pass : (nodes heads : ℕ) (rights : List Right) (number : ℕ) (qs : List Request) (t : List ℕ)
    → Asking nodes heads rights number qs → Passes (request_layout nodes heads rights) t number qs
asking_pass nodes heads rights =
    chain_passes (request_layout nodes heads rights) (Asked nodes heads rights) counted (λ number t. refl)
    (request_passes nodes heads rights)

pub rising_pass : (count : ℕ) (before : Wait) (ws : List Wait) (t : List ℕ) → Rising count before ws
    → Passes (wait_layout count) t before ws
rising_pass count = chain_passes (wait_layout count) (Paired count) latest (λ before t. refl) (wait_passes count)

pub following_pass : (heads : ℕ) (before : Run) (rs : List Run) (t : List ℕ) → Follows heads before rs
    → Passes (run_layout heads) t before rs
following_pass heads = chain_passes (run_layout heads) (Following heads) latest (λ before t. refl) (run_passes heads)
