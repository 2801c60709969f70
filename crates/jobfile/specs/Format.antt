-- Document 01, "Job file" and "Turned down", and 02, A3, A4 and A5: the numbers of the format, and the checks that the reader and
-- the writer share. A refusal is its number in these documents; 0 is none.
--
--   job_mark, right_mark, request_mark, wait_mark, run_mark, close_mark   the marks of the six records, as 16-bit words
--   job_size, right_size, request_size, wait_size, run_size, close_size   the bytes of each
--   right_place i             the byte where right i stands
--   request_place r q         the byte where request q stands, behind r rights
--   wait_place r n i          the byte where pair i stands, behind r rights and n requests
--   run_place r n w i         the byte where run i stands, behind r rights, n requests and w pairs
--   file_size r n w i         the bytes of a file with r rights, n requests, w pairs and i runs
--   most_bytes, most_grants   the largest file, and the largest run
--   word t, word_bytes w      the 16-bit word at the start of t, and the two bytes of the word w
--   mask t, mask_bytes m      the 32-bit mask at the start of t, and the four bytes of the mask m
--   word_sum s                the sum of the 16-bit words of s
--   a then b (◌then◌)         the refusal a, or b where a is none
--   first_refusal check next before l   the first refusal in the list l, each checked with what those before it leave
--   sizes_refusal_with m n h  the refusal of n nodes and h heads where m heads are the most
--   sizes_refusal n h         the refusal of n nodes and h heads
--   right_refusal h k r       the refusal of the right r, number k, in a job of h heads
--   fields_refusal n h q      the refusal of a request's numbers q in a job of n nodes and h heads
--   kind_refusal r k          the refusal of a request's kind number k where its head has the rights r
--   asked_refusal n h rs q    both, for a request's numbers q, where the heads have the rights rs
--   request_of q              the request that admitted numbers stand for
--   rises_to b w              the pair w comes strictly after the pair b
--   pair_refusal n b w        the refusal of the pair w in a job of n requests, where b is the pair before it
--   no_pair                   what stands before the first pair
--   extends r g               a grant for head g could still have joined the run r
--   length_refusal s          the refusal of a file for its length
use Rattle.std.specs.Prelude.{Bool, true, false, cond, not, List, [], ◌∷◌, ◌++◌, ℕ, ◌+◌, ◌*◌, ◌/◌, ◌%◌, ◌^◌, eqb, ltb, leb, length}
use Rattle.std.specs.Prelude.{get_or, drop}
use Rattle.job.specs.declared.Request.{Request}
use Rattle.job.specs.declared.Wait.{Wait}
use Rattle.job.specs.declared.Right.{Right}
use Rattle.job.specs.Job.{most_nodes, most_heads, kind_of, may_ask, right_of}
use Rattle.jobfile.specs.declared.Fields.{Fields}
use Rattle.jobfile.specs.declared.Run.{Run}

-- The marks 44 4B, 52 54 (02, A5), 52 51, 41 46 (02, A3), 47 52 and 43 4C, low byte first: the job's,
abbrev pub job_mark : ℕ
job_mark = 0x4B44

-- a right's,
abbrev pub right_mark : ℕ
right_mark = 0x5452

-- a request's,
abbrev pub request_mark : ℕ
request_mark = 0x5152

-- a pair's,
abbrev pub wait_mark : ℕ
wait_mark = 0x4641

-- a run's
abbrev pub run_mark : ℕ
run_mark = 0x5247

-- and the close's.
abbrev pub close_mark : ℕ
close_mark = 0x4C43

-- With its mark, the job's record has 6 bytes,
abbrev pub job_size : ℕ
job_size = 6

-- a right 8,
abbrev pub right_size : ℕ
right_size = 8

-- a request 8,
abbrev pub request_size : ℕ
request_size = 8

-- a pair 6,
abbrev pub wait_size : ℕ
wait_size = 6

-- a run 4
abbrev pub run_size : ℕ
run_size = 4

-- and the close 4.
abbrev pub close_size : ℕ
close_size = 4

-- Right i stands behind the job's record and i rights,
abbrev pub right_place : ℕ → ℕ
right_place i = job_size + right_size * i

-- request q behind all rights and q requests,
abbrev pub request_place : ℕ → ℕ → ℕ
request_place rights q = right_place rights + request_size * q

-- pair i behind all requests and i pairs,
abbrev pub wait_place : ℕ → ℕ → ℕ → ℕ
wait_place rights requests i = request_place rights requests + wait_size * i

-- run i behind all pairs and i runs; the close is where a run more would be,
abbrev pub run_place : ℕ → ℕ → ℕ → ℕ → ℕ
run_place rights requests waits i = wait_place rights requests waits + run_size * i

-- and it ends the file.
abbrev pub file_size : ℕ → ℕ → ℕ → ℕ → ℕ
file_size rights requests waits runs = run_place rights requests waits runs + close_size

-- A file has at most 32,768 bytes.
abbrev pub most_bytes : ℕ
most_bytes = 32768

-- A run is 8 bits.
abbrev pub most_grants : ℕ
most_grants = 255

-- 16-bit fields are low byte first. A byte past the end counts as 0, which is in no mark.
abbrev pub word : List ℕ → ℕ
word t = get_or t 0 0 + 256 * get_or t 1 0

-- The two bytes of a 16-bit field.
abbrev pub word_bytes : ℕ → List ℕ
word_bytes w = (w % 256) ∷ (w / 256) ∷ []

-- The 32-bit mask of a right is two words, low byte first (02, A5).
abbrev pub mask : List ℕ → ℕ
mask t = word t + 65536 * word (drop 2 t)

-- The four bytes of such a mask.
abbrev pub mask_bytes : ℕ → List ℕ
mask_bytes m = word_bytes (m % 65536) ++ word_bytes (m / 65536)

-- All 16-bit words of the file; no accepted file has an odd byte.
abbrev pub word_sum : List ℕ → ℕ
word_sum [] = 0
word_sum (low ∷ []) = low
word_sum (low ∷ high ∷ t) = low + 256 * high + word_sum t

-- Checks stand in document 01's order, and the first that refuses decides.
infixr 40 ◌then◌
abbrev pub ◌then◌ : ℕ → ℕ → ℕ
a then b = cond (eqb a 0) b a

-- One by one: each is checked with what those before it leave.
unfoldable pub first_refusal : {S A : Type 0} → (S → A → ℕ) → (S → A → S) → S → List A → ℕ
first_refusal check next before [] = 0
first_refusal check next before (a ∷ l) = check before a then first_refusal check next (next before a) l

-- 4: places 0 or above 4,096. 5: heads 0 or above a limit, which is left open here;
abbrev pub sizes_refusal_with : ℕ → ℕ → ℕ → ℕ
sizes_refusal_with most nodes heads =
    cond (eqb nodes 0) 4
    (cond (ltb most_nodes nodes) 4
    (cond (eqb heads 0) 5
    (cond (ltb most heads) 5 0)))

-- it is 32 (02, A4). 5: heads 0 or above 32.
unfoldable pub sizes_refusal : ℕ → ℕ → ℕ
sizes_refusal = sizes_refusal_with most_heads

-- 19 when the heads don't count up from 0, rights aren't 1 to 3, or a mask has a bit for no head (02, A5).
unfoldable pub right_refusal : ℕ → ℕ → Right → ℕ
right_refusal heads number r =
    cond (not (eqb r.head number)) 19
    (cond (eqb r.rights 0) 19
    (cond (ltb 3 r.rights) 19
    (cond (leb (2 ^ heads) r.sight) 19 0)))

-- Fields left to right. 6: a request's head not below the heads. 7: kind neither 1 nor 2. 8: a place not below the places.
unfoldable pub fields_refusal : ℕ → ℕ → Fields → ℕ
fields_refusal nodes heads q =
    cond (leb heads q.head) 6
    (cond (eqb q.kind 0) 7
    (cond (ltb 2 q.kind) 7
    (cond (leb nodes q.x) 8
    (cond (leb nodes q.y) 8 0))))

-- 20 when a request's kind isn't among its head's rights (02, A5),
unfoldable pub kind_refusal : ℕ → ℕ → ℕ
kind_refusal rights kind = cond (not (may_ask rights (kind_of kind))) 20 0

-- after 8.
abbrev pub asked_refusal : ℕ → ℕ → List Right → Fields → ℕ
asked_refusal nodes heads rights q = fields_refusal nodes heads q then kind_refusal (right_of rights q.head).rights q.kind

-- The request that the numbers of an admitted one stand for.
abbrev pub request_of : Fields → Request
request_of q = record { head = q.head; kind = kind_of q.kind; x = q.x; y = q.y }

-- The pairs rise strictly, by the later request and then by the earlier one (02, A3).
abbrev pub rises_to : Wait → Wait → Bool
rises_to before w =
    cond (ltb before.later w.later) true
    (cond (eqb before.later w.later) (ltb before.earlier w.earlier) false)

-- 18 when either request doesn't exist, the earlier number isn't below the later, or the pairs don't rise strictly (02, A3).
unfoldable pub pair_refusal : ℕ → Wait → Wait → ℕ
pair_refusal count before w =
    cond (leb count w.later) 18
    (cond (leb count w.earlier) 18
    (cond (leb w.later w.earlier) 18
    (cond (not (rises_to before w)) 18 0)))

-- Every admitted pair rises from it, so it stands before the first.
abbrev pub no_pair : Wait
no_pair = record { later = 0; earlier = 0 }

-- The longest runs, at most 255: a grant joins the run before it if the head is the same and the run is under 255.
abbrev pub extends : Run → ℕ → Bool
extends r g = cond (eqb r.head g) (ltb r.count most_grants) false

-- 1: file over 32,768 bytes.
unfoldable pub length_refusal : List ℕ → ℕ
length_refusal s = cond (ltb most_bytes (length s)) 1 0
