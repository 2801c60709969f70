-- Document 01, "Job file" and "Played cases", and 02, A3, A4 and A5: files, jobs and drafts at the format's edges, as one table.
--
--   Case                  a file that is accepted or refused, a job that is written, a draft that is checked, and what is expected
--   Outcome               a meaning, a file, or a number
--   outcome c             what the definitions give
--   wanted c              what is expected
--   header, right, request, wait, run, close   the six records, by their numbers
--   times n l             the list l, n times
--   job_with, draft_with  a job and a draft, by their parts
--   job, draft            the same without rights
--   empty_job n h         the job of n places and h heads with nothing to do
--   alternating n         a schedule of n grants, no two in a row for one head
--   sample_job, sample_file         document 01's job, and its bytes
--   wide_job, wide_file   a job of 32 heads, and its bytes
--   pair later earlier    a pair, by its numbers
--   unions n ws, front n          a job of n unions and the pairs ws, and what stands before the pairs in its file
--   head h r m            a head's right: what it may ask, and the mask of the heads that it may see
--   carriers rs, carriers_file rs w   document 01's job with more grants and the rights rs, and its bytes with the balance w
--   claimed ts            a job of two heads up to its rights, with the records ts
--   every_sight m k n     the rights of n heads from head k on that all have the mask m
--   files, pairs, rights, drafts   the parts of the table: document 01's files, those with pairs, those with rights, and drafts
--   cases                 the table
use Rattle.std.specs.Prelude.{List, [], ◌∷◌, ◌++◌, ℕ, zero, suc, ◌+◌, ◌%◌, take, replicate}
use Rattle.job.specs.declared.Kind.TheVariants.{Union, SameSet}
use Rattle.job.specs.declared.Request.{Request}
use Rattle.job.specs.declared.Wait.{Wait}
use Rattle.job.specs.declared.Right.{Right}
use Rattle.job.specs.Job.{Job}
use Rattle.jobfile.specs.Format.{job_mark, right_mark, request_mark, wait_mark, run_mark, close_mark, word_bytes, mask_bytes}
use Rattle.jobfile.specs.Meaning.{Meaning, meaning}
use Rattle.jobfile.specs.Written.{rights_bytes, written}
use Rattle.jobfile.specs.Draft.{Draft, draft_refusal}

-- Places, heads, rights, requests, pairs and one head number a grant;
abbrev pub job_with : ℕ → ℕ → List Right → List Request → List Wait → List ℕ → Job
job_with places heads rights requests waits schedule =
    record { nodes = places; heads = heads; rights = rights; requests = requests; waits = waits; schedule = schedule }

-- without rights.
abbrev pub job : ℕ → ℕ → List Request → List Wait → List ℕ → Job
job places heads = job_with places heads []

-- No requests, no pairs and no grants.
abbrev pub empty_job : ℕ → ℕ → Job
empty_job places heads = job places heads [] [] []

pub data Case : Type 0 where
  -- an accepted file and its job
  accept : List ℕ → Job → Case
  -- a refused file and its number
  refuse : List ℕ → ℕ → Case
  -- a job and its file
  write : Job → List ℕ → Case
  -- what the writer is given, and its refusal, 0 for none
  check : Draft → ℕ → Case

pub data Outcome : Type 0 where
  means : Meaning → Outcome
  file : List ℕ → Outcome
  number : ℕ → Outcome

-- What the definitions give.
abbrev pub outcome : Case → Outcome
outcome (accept s j) = means (meaning s)
outcome (refuse s n) = means (meaning s)
outcome (write j s) = file (written j)
outcome (check d n) = number (draft_refusal d)

-- What document 01 says: a file's whole meaning is its number and its job, and a refusal has zero for every count.
abbrev pub wanted : Case → Outcome
wanted (accept s j) = means (record { number = 0; job = j })
wanted (refuse s n) = means (record { number = n; job = empty_job 0 0 })
wanted (write j s) = file s
wanted (check d n) = number n

-- ---- the parts of a case

-- Places and heads.
abbrev pub header : ℕ → ℕ → List ℕ
header places heads = word_bytes job_mark ++ word_bytes places ++ word_bytes heads

-- Head, rights and mask.
abbrev pub right : ℕ → ℕ → ℕ → List ℕ
right head rights sight = word_bytes right_mark ++ (head ∷ rights ∷ []) ++ mask_bytes sight

-- Head, kind and two places.
abbrev pub request : ℕ → ℕ → ℕ → ℕ → List ℕ
request head kind x y = word_bytes request_mark ++ (head ∷ kind ∷ []) ++ word_bytes x ++ word_bytes y

-- Later request and earlier request.
abbrev pub wait : ℕ → ℕ → List ℕ
wait later earlier = word_bytes wait_mark ++ word_bytes later ++ word_bytes earlier

-- Head and grants.
abbrev pub run : ℕ → ℕ → List ℕ
run head grants = word_bytes run_mark ++ (head ∷ grants ∷ [])

-- The balance.
abbrev pub close : ℕ → List ℕ
close balance = word_bytes close_mark ++ word_bytes balance

-- So many times the same numbers.
abbrev pub times : ℕ → List ℕ → List ℕ
times zero l = []
times (suc n) l = l ++ times n l

-- What the writer is given, three numbers a right, four a request and two a pair;
abbrev pub draft_with : ℕ → ℕ → List ℕ → List ℕ → List ℕ → List ℕ → Draft
draft_with places heads rights requests waits schedule =
    record { nodes = places; heads = heads; rights = rights; requests = requests; waits = waits; schedule = schedule }

-- without rights.
abbrev pub draft : ℕ → ℕ → List ℕ → List ℕ → List ℕ → Draft
draft places heads = draft_with places heads []

-- Heads 0 and 1 in turn, so that every grant is a run.
abbrev pub alternating : ℕ → List ℕ
alternating zero = []
alternating (suc n) = (n % 2) ∷ alternating n

-- Document 01's job: four places, two heads, two requests, nine grants;
abbrev pub sample_job : Job
sample_job =
    job 4 2
    (record { head = 0; kind = Union; x = 2; y = 3 } ∷ record { head = 1; kind = SameSet; x = 0; y = 1 } ∷ []) []
    (1 ∷ 1 ∷ 0 ∷ 0 ∷ 0 ∷ 0 ∷ 0 ∷ 0 ∷ 1 ∷ [])

-- and its bytes.
abbrev pub sample_file : List ℕ
sample_file =
    0x44 ∷ 0x4B ∷ 0x04 ∷ 0x00 ∷ 0x02 ∷ 0x00
    ∷ 0x52 ∷ 0x51 ∷ 0x00 ∷ 0x01 ∷ 0x02 ∷ 0x00 ∷ 0x03 ∷ 0x00
    ∷ 0x52 ∷ 0x51 ∷ 0x01 ∷ 0x02 ∷ 0x00 ∷ 0x00 ∷ 0x01 ∷ 0x00
    ∷ 0x47 ∷ 0x52 ∷ 0x01 ∷ 0x02
    ∷ 0x47 ∷ 0x52 ∷ 0x00 ∷ 0x06
    ∷ 0x47 ∷ 0x52 ∷ 0x01 ∷ 0x01
    ∷ 0x43 ∷ 0x4C ∷ 0xF1 ∷ 0xC2 ∷ []

-- Two places, 32 heads (02, A4), a union by the last head, thirteen grants to it and one to the head before it;
abbrev pub wide_job : Job
wide_job = job 2 32 (record { head = 31; kind = Union; x = 0; y = 1 } ∷ []) [] (replicate 13 31 ++ (30 ∷ []))

-- and its bytes.
abbrev pub wide_file : List ℕ
wide_file =
    0x44 ∷ 0x4B ∷ 0x02 ∷ 0x00 ∷ 0x20 ∷ 0x00
    ∷ 0x52 ∷ 0x51 ∷ 0x1F ∷ 0x01 ∷ 0x00 ∷ 0x00 ∷ 0x01 ∷ 0x00
    ∷ 0x47 ∷ 0x52 ∷ 0x1F ∷ 0x0D
    ∷ 0x47 ∷ 0x52 ∷ 0x1E ∷ 0x01
    ∷ 0x43 ∷ 0x4C ∷ 0x1A ∷ 0x63 ∷ []

-- Later request and earlier request (02, A3).
abbrev pub pair : ℕ → ℕ → Wait
pair later earlier = record { later = later; earlier = earlier }

-- Four places, two heads, and so many times a union of the places 0 and 1 by head 0;
abbrev pub unions : ℕ → List Wait → Job
unions n waits = job 4 2 (replicate n (record { head = 0; kind = Union; x = 0; y = 1 })) waits []

-- and their records in front of the pairs.
abbrev pub front : ℕ → List ℕ
front n = header 4 2 ++ times n (request 0 1 0 1)

-- What a head may ask, and the mask of the heads that it may see (02, A5).
abbrev pub head : ℕ → ℕ → ℕ → Right
head own rights sight = record { head = own; rights = rights; sight = sight }

-- Document 01's requests, with grants that finish both, by two heads with rights;
abbrev pub carriers : List Right → Job
carriers rights = job_with 4 2 rights sample_job.requests [] (1 ∷ 1 ∷ replicate 13 0 ++ (1 ∷ []))

-- and their bytes.
abbrev pub carriers_file : List ℕ → ℕ → List ℕ
carriers_file rights balance =
    header 4 2 ++ rights ++ request 0 1 2 3 ++ request 1 2 0 1 ++ run 1 2 ++ run 0 13 ++ run 1 1 ++ close balance

-- Four places and two heads, up to their rights.
abbrev pub claimed : List ℕ → List ℕ
claimed rights = header 4 2 ++ rights

-- So many heads from the first one on, all with both kinds and one mask.
abbrev pub every_sight : ℕ → ℕ → ℕ → List Right
every_sight sight first zero = []
every_sight sight first (suc n) = head first 3 sight ∷ every_sight sight (first + 1) n

-- ---- the table

abbrev pub files : List Case
files =
    -- document 01's sample, read and written
    accept sample_file sample_job
    ∷ write sample_job sample_file
    -- the empty file, and one byte, end before the first mark
    ∷ refuse [] 2
    ∷ refuse (0x44 ∷ []) 2
    -- two bytes are a mark, right or wrong, even if the record is short
    ∷ refuse (0x44 ∷ 0x4B ∷ []) 2
    ∷ refuse (0x44 ∷ 0x4C ∷ []) 3
    -- length is checked first: 32,768 bytes are looked at, one byte more is not
    ∷ refuse (replicate 32768 0) 3
    ∷ refuse (replicate 32769 0) 1
    -- 4,096 places pass, 4,097 and 0 don't; 16, 17 and 32 heads pass, 0 and 33 don't (02, A4)
    ∷ accept (header 4096 1 ++ close 0x5878) (empty_job 4096 1)
    ∷ refuse (header 4097 33) 4
    ∷ refuse (header 0 1) 4
    ∷ accept (header 1 16 ++ close 0x6868) (empty_job 1 16)
    ∷ accept (header 1 17 ++ close 0x6867) (empty_job 1 17)
    ∷ accept (header 2 32 ++ close 0x6857) (empty_job 2 32)
    ∷ refuse (header 1 0) 5
    ∷ refuse (header 2 33) 5
    -- heads are checked behind places, and before the balance
    ∷ refuse (header 2 33 ++ close 0) 5
    ∷ refuse (header 0 33 ++ close 0) 4
    -- 32 heads have a head 31, read and written; 31 heads have none, for a request or for a run
    ∷ accept wide_file wide_job
    ∷ write wide_job wide_file
    ∷ refuse (header 2 31 ++ request 31 1 0 1) 6
    ∷ refuse (header 2 31 ++ run 31 1) 10
    -- a request that is cut short; then its fields left to right
    ∷ refuse (header 2 2 ++ take 7 (request 2 3 2 0)) 2
    ∷ refuse (header 2 2 ++ request 2 3 2 0) 6
    ∷ refuse (header 2 2 ++ request 1 3 2 0) 7
    ∷ refuse (header 2 2 ++ request 1 0 2 0) 7
    ∷ refuse (header 2 2 ++ request 1 1 2 0) 8
    ∷ refuse (header 2 2 ++ request 1 2 0 2) 8
    -- 512 requests pass; one more is refused if it is whole, before its head, kind and places, which are all wrong here
    ∷ accept (header 2 2 ++ times 512 (request 1 2 0 1) ++ close 0xC075)
    (job 2 2 (replicate 512 (record { head = 1; kind = SameSet; x = 0; y = 1 })) [] [])
    ∷ refuse (header 2 2 ++ times 512 (request 1 2 0 1) ++ request 2 3 2 2) 9
    ∷ refuse (header 2 2 ++ times 512 (request 1 2 0 1) ++ take 7 (request 2 3 2 2)) 2
    -- a run that is cut short; its head; no grants; a run before it that could have had them
    ∷ refuse (header 2 2 ++ take 3 (run 2 0)) 2
    ∷ refuse (header 2 2 ++ run 2 1) 10
    ∷ refuse (header 2 2 ++ run 1 0) 10
    ∷ refuse (header 2 2 ++ run 1 254 ++ run 1 1) 11
    ∷ accept (header 2 2 ++ run 1 255 ++ run 1 1 ++ close 0xC3E5) (job 2 2 [] [] (replicate 256 1))
    -- no grants is checked before the run before it
    ∷ refuse (header 2 2 ++ run 1 254 ++ run 1 0) 10
    -- a request behind a run, and no close
    ∷ refuse (header 2 2 ++ run 1 1 ++ request 0 1 0 1) 3
    ∷ refuse (header 2 2 ++ request 0 1 0 1 ++ run 1 1) 2
    -- a close that is cut short, bytes behind it, and its balance
    ∷ refuse (header 2 2 ++ take 3 (close 0)) 2
    ∷ refuse (header 2 2 ++ close 0 ++ (0 ∷ [])) 12
    ∷ refuse (header 2 2 ++ close 0) 13
    ∷ accept (header 2 2 ++ close 0x6875) (empty_job 2 2)
    ∷ []

-- 02, A3: jobs and files with pairs.
abbrev pub pairs : List Case
pairs =
    -- two requests of which the second waits for the first, read and written; and without the pair
    accept (front 2 ++ wait 1 0 ++ close 0x7D8B) (unions 2 (pair 1 0 ∷ []))
    ∷ write (unions 2 (pair 1 0 ∷ [])) (front 2 ++ wait 1 0 ++ close 0x7D8B)
    ∷ write (unions 2 []) (front 2 ++ close 0xC3CD)
    -- either request does not exist
    ∷ refuse (front 0 ++ wait 0 0) 18
    ∷ refuse (front 1 ++ wait 0 0) 18
    ∷ refuse (front 1 ++ wait 1 0) 18
    ∷ refuse (front 2 ++ wait 0 2) 18
    ∷ refuse (front 2 ++ wait 65535 0) 18
    -- the earlier number is not below the later
    ∷ refuse (front 2 ++ wait 1 1) 18
    ∷ refuse (front 2 ++ wait 0 1) 18
    -- the pairs rise strictly, by the later request and then by the earlier one
    ∷ refuse (front 2 ++ wait 1 0 ++ wait 1 0) 18
    ∷ refuse (front 3 ++ wait 2 1 ++ wait 2 0) 18
    ∷ refuse (front 3 ++ wait 2 0 ++ wait 1 0) 18
    ∷ accept (front 3 ++ wait 1 0 ++ wait 2 0 ++ wait 2 1 ++ close 0x9EB1) (unions 3 (pair 1 0 ∷ pair 2 0 ∷ pair 2 1 ∷ []))
    -- they stand between requests and grants
    ∷ refuse (front 2 ++ wait 1 0 ++ request 0 1 0 1) 3
    ∷ refuse (front 2 ++ run 0 1 ++ wait 1 0) 3
    -- a pair that is cut short; a pair is checked before the run behind it, and balance last
    ∷ refuse (front 2 ++ take 5 (wait 1 0)) 2
    ∷ refuse (front 2 ++ wait 1 1 ++ run 2 1) 18
    ∷ refuse (front 2 ++ wait 1 0 ++ run 2 1) 10
    ∷ refuse (front 2 ++ wait 1 0 ++ close 0) 13
    ∷ []

-- 02, A5: jobs and files with rights.
abbrev pub rights : List Case
rights =
    -- one may join and sees itself, the other may enquire and sees both, read and written; a mask may be empty
    accept (carriers_file (right 0 1 1 ++ right 1 2 3) 0x1048) (carriers (head 0 1 1 ∷ head 1 2 3 ∷ []))
    ∷ write (carriers (head 0 1 1 ∷ head 1 2 3 ∷ [])) (carriers_file (right 0 1 1 ++ right 1 2 3) 0x1048)
    ∷ accept (carriers_file (right 0 3 0 ++ right 1 3 2) 0x0D4A) (carriers (head 0 3 0 ∷ head 1 3 2 ∷ []))
    -- 32 heads and a mask of all bits; bit 31 stands for a head of 32, and for none of 31
    ∷ accept (header 2 32 ++ rights_bytes (every_sight 0xFFFFFFFF 0 32) ++ request 31 1 0 1 ++ run 31 13 ++ close 0xCA8F)
    (job_with 2 32 (every_sight 0xFFFFFFFF 0 32) (record { head = 31; kind = Union; x = 0; y = 1 } ∷ []) [] (replicate 13 31))
    ∷ accept (header 2 32 ++ rights_bytes (every_sight 0x80000000 0 32) ++ close 0x7C27)
    (job_with 2 32 (every_sight 0x80000000 0 32) [] [] [])
    ∷ refuse (header 2 31 ++ right 0 3 0x80000000) 19
    -- once begun, one a head: another mark, or the file's end before a mark
    ∷ refuse (claimed (right 0 3 3) ++ request 0 1 2 3) 3
    ∷ refuse (claimed (right 0 3 3) ++ close 0) 3
    ∷ refuse (claimed (right 0 3 3)) 2
    ∷ refuse (claimed (right 0 3 3) ++ (0x52 ∷ [])) 2
    -- a third of two, whole or not; a first one behind a request
    ∷ refuse (claimed (right 0 3 3 ++ right 1 3 3) ++ right 2 3 3 ++ close 0) 3
    ∷ refuse (claimed (right 0 3 3 ++ right 1 3 3) ++ word_bytes right_mark) 3
    ∷ refuse (claimed [] ++ request 0 1 2 3 ++ right 0 3 3) 3
    -- a right that is cut short; then the head, the rights and the mask
    ∷ refuse (claimed (take 7 (right 0 3 3))) 2
    ∷ refuse (claimed (take 7 (right 1 4 4))) 2
    ∷ refuse (claimed (right 1 3 3)) 19
    ∷ refuse (claimed (right 0 0 3)) 19
    ∷ refuse (claimed (right 0 4 3)) 19
    ∷ refuse (claimed (right 0 3 4)) 19
    ∷ refuse (claimed (right 0 3 0x80000000)) 19
    ∷ refuse (claimed (right 0 3 3 ++ right 0 3 3)) 19
    -- a kind that its head may not ask; head, kind and places are checked before
    ∷ refuse (claimed (right 0 2 3 ++ right 1 3 3) ++ request 0 1 2 3) 20
    ∷ refuse (claimed (right 0 1 3 ++ right 1 3 3) ++ request 0 2 2 3) 20
    ∷ refuse (claimed (right 0 2 3 ++ right 1 3 3) ++ request 0 1 4 3) 8
    ∷ refuse (claimed (right 0 2 3 ++ right 1 3 3) ++ request 0 3 2 3) 7
    ∷ refuse (claimed (right 0 2 3 ++ right 1 3 3) ++ request 2 1 2 3) 6
    -- balance is last
    ∷ refuse (carriers_file (right 0 1 1 ++ right 1 2 3) 0) 13
    -- pairs and grants follow as without rights
    ∷ accept (claimed (right 0 3 3 ++ right 1 3 2) ++ request 0 1 0 1 ++ request 1 2 0 1 ++ wait 1 0 ++ run 1 3 ++ run 0 13 ++ run 1 6
    ++ close 0xC109)
    (job_with 4 2 (head 0 3 3 ∷ head 1 3 2 ∷ [])
    (record { head = 0; kind = Union; x = 0; y = 1 } ∷ record { head = 1; kind = SameSet; x = 0; y = 1 } ∷ [])
    (pair 1 0 ∷ []) (1 ∷ 1 ∷ 1 ∷ replicate 13 0 ++ replicate 6 1))
    ∷ []

abbrev pub drafts : List Case
drafts =
    -- the last head of 16, 17 and 32 (02, A4), a same-set of the last two places of 4,096, and a grant for that head
    check (draft 4096 16 (15 ∷ 2 ∷ 4095 ∷ 4094 ∷ []) [] (15 ∷ [])) 0
    ∷ check (draft 4096 17 (16 ∷ 2 ∷ 4095 ∷ 4094 ∷ []) [] (16 ∷ [])) 0
    ∷ check (draft 4096 32 (31 ∷ 2 ∷ 4095 ∷ 4094 ∷ []) [] (31 ∷ [])) 0
    -- places are checked before heads
    ∷ check (draft 0 0 [] [] []) 4
    ∷ check (draft 0 33 [] [] []) 4
    -- heads, a 32-bit number, before a request and a grant that are wrong too
    ∷ check (draft 2 33 (33 ∷ 3 ∷ 2 ∷ 2 ∷ []) [] (33 ∷ [])) 5
    ∷ check (draft 2 4294967295 (33 ∷ 3 ∷ 2 ∷ 2 ∷ []) [] (33 ∷ [])) 5
    -- 31 heads have no head 31, for a request or for a grant
    ∷ check (draft 2 31 (31 ∷ 1 ∷ 0 ∷ 1 ∷ []) [] (31 ∷ [])) 6
    ∷ check (draft 2 31 [] [] (31 ∷ [])) 10
    -- a rest of one, two or three numbers is no request, so it can't be a wrong one
    ∷ check (draft 2 2 (2 ∷ []) [] []) 0
    ∷ check (draft 2 2 (2 ∷ 3 ∷ []) [] []) 0
    ∷ check (draft 2 2 (0 ∷ 1 ∷ 0 ∷ 1 ∷ 2 ∷ 3 ∷ 2 ∷ []) [] []) 0
    -- 512 requests pass; the count is checked before the first request and the grant, which are both wrong
    ∷ check (draft 2 2 (times 512 (1 ∷ 2 ∷ 0 ∷ 1 ∷ [])) [] []) 0
    ∷ check (draft 2 2 ((2 ∷ 3 ∷ 2 ∷ 2 ∷ []) ++ times 512 (1 ∷ 2 ∷ 0 ∷ 1 ∷ [])) [] (2 ∷ [])) 9
    -- each request before each grant
    ∷ check (draft 2 2 (1 ∷ 2 ∷ 0 ∷ 2 ∷ []) [] (2 ∷ [])) 8
    ∷ check (draft 2 2 (1 ∷ 2 ∷ 0 ∷ 1 ∷ []) [] (2 ∷ [])) 10
    -- each pair behind the requests and before each grant (02, A3); a rest of one number is no pair
    ∷ check (draft 4 2 (times 2 (0 ∷ 1 ∷ 0 ∷ 1 ∷ [])) (1 ∷ 0 ∷ []) []) 0
    ∷ check (draft 4 2 (times 2 (0 ∷ 1 ∷ 0 ∷ 1 ∷ [])) (1 ∷ []) []) 0
    ∷ check (draft 4 2 (0 ∷ 1 ∷ 0 ∷ 4 ∷ 0 ∷ 1 ∷ 0 ∷ 1 ∷ []) (1 ∷ 1 ∷ []) []) 8
    ∷ check (draft 4 2 (times 2 (0 ∷ 1 ∷ 0 ∷ 1 ∷ [])) (1 ∷ 1 ∷ []) (2 ∷ [])) 18
    ∷ check (draft 4 2 (times 3 (0 ∷ 1 ∷ 0 ∷ 1 ∷ [])) (2 ∷ 0 ∷ 1 ∷ 0 ∷ []) []) 18
    -- rights are none or one a head (02, A5), behind the heads and before the count of the requests
    ∷ check (draft_with 4 2 (0 ∷ 1 ∷ 1 ∷ 1 ∷ 2 ∷ 3 ∷ []) (0 ∷ 1 ∷ 0 ∷ 1 ∷ []) [] []) 0
    ∷ check (draft_with 4 2 (0 ∷ 3 ∷ 3 ∷ []) [] [] []) 19
    ∷ check (draft_with 4 2 (0 ∷ 3 ∷ 3 ∷ 1 ∷ 3 ∷ 3 ∷ 2 ∷ 3 ∷ 3 ∷ []) [] [] []) 19
    ∷ check (draft_with 4 33 (0 ∷ 3 ∷ 3 ∷ 1 ∷ 3 ∷ 3 ∷ 2 ∷ 3 ∷ 3 ∷ []) [] [] []) 5
    ∷ check (draft_with 4 2 (0 ∷ 4 ∷ 3 ∷ 1 ∷ 4 ∷ 3 ∷ []) (times 513 (1 ∷ 2 ∷ 0 ∷ 1 ∷ [])) [] []) 19
    -- a rest of one or two numbers is no right
    ∷ check (draft_with 4 2 (5 ∷ 5 ∷ []) [] [] []) 0
    ∷ check (draft_with 4 1 (0 ∷ 3 ∷ 1 ∷ 5 ∷ []) [] [] []) 0
    -- a kind that its head may not ask, before a wrong grant
    ∷ check (draft_with 4 2 (0 ∷ 2 ∷ 3 ∷ 1 ∷ 3 ∷ 3 ∷ []) (0 ∷ 1 ∷ 0 ∷ 1 ∷ []) [] (9 ∷ [])) 20
    ∷ check (draft_with 4 2 (0 ∷ 2 ∷ 3 ∷ 1 ∷ 3 ∷ 3 ∷ []) (0 ∷ 1 ∷ 4 ∷ 1 ∷ []) [] []) 8
    -- 8,190 runs make a file of 32,770 bytes; a wrong place and a wrong grant come before its length
    ∷ check (draft 2 2 [] [] (alternating 8190)) 1
    ∷ check (draft 2 2 (1 ∷ 2 ∷ 0 ∷ 2 ∷ []) [] (alternating 8190)) 8
    ∷ check (draft 2 2 [] [] (2 ∷ alternating 8190)) 10
    ∷ []

abbrev pub cases : List Case
cases = files ++ pairs ++ rights ++ drafts
