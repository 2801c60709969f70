-- Document 01, "Job file", and 02, A3 and A5: what the writer is given, as numbers, and its refusal.
--
--   Draft               places, heads, rights (three numbers each: head, rights, mask), requests (four numbers each: head,
--                       kind, x, y), pairs (two numbers each: later, earlier) and one head number a grant
--   rights_given l      the rights in a list of numbers; a rest of fewer than three is no right
--   fields_of l         the requests in a list of numbers; a rest of fewer than four is no request
--   pairs_of l          the pairs in a list of numbers; a rest of one is no pair
--   job_of d            the job that an admitted draft stands for
--   complete_refusal, each_right_refusal, count_refusal, each_refusal, pairs_refusal, grants_refusal   the checks of the number of rights,
--                       of each right, of the request count, of each request, of each pair and of each grant
--   draft_refusal d     the refusal of a draft, 0 for none
--   right_numbers rs    the rights rs as numbers, three each
--   numbers_of qs       the requests qs as numbers, four each
--   pair_numbers ws     the pairs ws as numbers, two each
--   draft_of j          the job j as the writer is given it
use Rattle.std.specs.Prelude.{cond, List, [], ◌∷◌, map, ℕ, ◌+◌, eqb, ltb, leb, length}
use Rattle.job.specs.declared.Request.{Request}
use Rattle.job.specs.declared.Wait.{Wait}
use Rattle.job.specs.declared.Right.{Right}
use Rattle.job.specs.Job.{Job, kind_number, most_requests}
use Rattle.jobfile.specs.declared.Fields.{Fields}
use Rattle.jobfile.specs.Format.{◌then◌, first_refusal, sizes_refusal, right_refusal, asked_refusal, request_of, pair_refusal, no_pair}
use Rattle.jobfile.specs.Format.{length_refusal}
use Rattle.jobfile.specs.Written.{written}

-- The writer is given places, heads, requests and a list of head numbers, one per grant. It takes the pairs as well (02, A3), and
-- the rights (02, A5).
pub record Draft : Type 0 where
  pub nodes : ℕ
  pub heads : ℕ
  pub rights : List ℕ
  pub requests : List ℕ
  pub waits : List ℕ
  pub schedule : List ℕ

-- Three numbers a right: head, rights, mask.
abbrev pub rights_given : List ℕ → List Right
rights_given [] = []
rights_given (h ∷ []) = []
rights_given (h ∷ r ∷ []) = []
rights_given (h ∷ r ∷ m ∷ l) = record { head = h; rights = r; sight = m } ∷ rights_given l

-- Four numbers a request: head, kind, place x, place y.
abbrev pub fields_of : List ℕ → List Fields
fields_of [] = []
fields_of (h ∷ []) = []
fields_of (h ∷ k ∷ []) = []
fields_of (h ∷ k ∷ x ∷ []) = []
fields_of (h ∷ k ∷ x ∷ y ∷ l) = record { head = h; kind = k; x = x; y = y } ∷ fields_of l

-- Two numbers a pair: later request, earlier request.
abbrev pub pairs_of : List ℕ → List Wait
pairs_of [] = []
pairs_of (later ∷ []) = []
pairs_of (later ∷ earlier ∷ l) = record { later = later; earlier = earlier } ∷ pairs_of l

-- The job that they stand for.
unfoldable pub job_of : Draft → Job
job_of d =
    record {
      nodes = d.nodes;
      heads = d.heads;
      rights = rights_given d.rights;
      requests = map request_of (fields_of d.requests);
      waits = pairs_of d.waits;
      schedule = d.schedule;
    }

-- "19 if neither empty nor one per head" (02, A5);
unfoldable pub complete_refusal : ℕ → ℕ → ℕ
complete_refusal heads count = cond (eqb count 0) 0 (cond (eqb count heads) 0 19)

-- then each right, with its number.
abbrev pub each_right_refusal : ℕ → ℕ → List Right → ℕ
each_right_refusal heads = first_refusal (right_refusal heads) (λ number r. number + 1)

-- 9: a 513th request.
unfoldable pub count_refusal : ℕ → ℕ
count_refusal count = cond (ltb most_requests count) 9 0

-- Each request, its fields left to right, and (02, A5) its head's rights; those before it leave nothing.
abbrev pub each_refusal : ℕ → ℕ → List Right → List Fields → ℕ
each_refusal nodes heads rights = first_refusal (λ (nothing : Unit {0}) q. asked_refusal nodes heads rights q) (λ nothing q. nothing) tt

-- 18: each pair, with the pair before it (02, A3).
abbrev pub pairs_refusal : ℕ → Wait → List Wait → ℕ
pairs_refusal count = first_refusal (pair_refusal count) (λ before w. w)

-- 10: a grant's head not below the heads.
unfoldable pub grants_refusal : ℕ → List ℕ → ℕ
grants_refusal heads [] = 0
grants_refusal heads (g ∷ gs) = cond (leb heads g) 10 (grants_refusal heads gs)

-- It checks places, heads, request count, each request, each grant, then length; the pairs after the requests (02, A3), the
-- rights after the heads (02, A5).
unfoldable pub draft_refusal : Draft → ℕ
draft_refusal d =
    sizes_refusal d.nodes d.heads
    then complete_refusal d.heads (length (rights_given d.rights))
    then each_right_refusal d.heads 0 (rights_given d.rights)
    then count_refusal (length (fields_of d.requests))
    then each_refusal d.nodes d.heads (rights_given d.rights) (fields_of d.requests)
    then pairs_refusal (length (fields_of d.requests)) no_pair (pairs_of d.waits)
    then grants_refusal d.heads d.schedule
    then length_refusal (written (job_of d))

-- A job as the writer is given it: three numbers a right,
abbrev pub right_numbers : List Right → List ℕ
right_numbers [] = []
right_numbers (r ∷ rs) = r.head ∷ r.rights ∷ r.sight ∷ right_numbers rs

-- four a request,
abbrev pub numbers_of : List Request → List ℕ
numbers_of [] = []
numbers_of (q ∷ qs) = q.head ∷ kind_number q.kind ∷ q.x ∷ q.y ∷ numbers_of qs

-- two a pair, and one head number a grant.
abbrev pub pair_numbers : List Wait → List ℕ
pair_numbers [] = []
pair_numbers (w ∷ ws) = w.later ∷ w.earlier ∷ pair_numbers ws

-- The draft of a job.
abbrev pub draft_of : Job → Draft
draft_of j =
    record {
      nodes = j.nodes;
      heads = j.heads;
      rights = right_numbers j.rights;
      requests = numbers_of j.requests;
      waits = pair_numbers j.waits;
      schedule = j.schedule;
    }
