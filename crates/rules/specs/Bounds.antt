-- Document 02, A7: within how many of its own grants a request ends: the numbers, and what holds of every run; the statements, over
-- plain lists. Words in quotation marks are the document's own.
--
--   levels n              "the whole part of the base-2 logarithm of n"
--   Logarithm n l         l is that number
--   limit kind n l        the limit of a request of that kind on n places, where l is that number
--   limit_of kind n       the same, with n alone
--   grants_of h gs        how many of the grants gs are for head h
--   Bounded n qs report   no request has used more grants than its limit
--   Ends n qs report report' gs   with the grants gs, which lead from the one report to the other, requests have come to their ends
use Rattle.std.specs.Prelude.{◌≡◌, ◌≢◌, cond, List, [], ◌∷◌, ℕ, suc, ◌+◌, ◌*◌, ◌-◌, ◌^◌, ◌≤◌, ◌<◌, eqb, length}
use Rattle.std.specs.Int.Count.{count_leading_zeros}
use Rattle.job.specs.declared.Kind.{Kind}
use Rattle.job.specs.declared.Kind.TheVariants.{Union, SameSet}
use Rattle.job.specs.declared.Request.{Request}
use Rattle.rules.specs.declared.Row.{Row}
use Rattle.rules.specs.Report.{row_at}
use Rattle.rules.specs.State.{request_at}

-- "taken from the leading zeros of n", a number of 32 bits
abbrev pub levels : ℕ → ℕ
levels n = 31 - count_leading_zeros 32 n

pub record Logarithm (n l : ℕ) : Type 0 where
  pub least : 2 ^ l ≤ n
  pub most : n < 2 ^ suc l

-- "A same-set ends within 11 × n of its own grants, and a union within 22 × n + 10 × L"
abbrev pub limit : Kind → ℕ → ℕ → ℕ
limit Union n l = 22 * n + 10 * l
limit SameSet n l = 11 * n

abbrev pub limit_of : Kind → ℕ → ℕ
limit_of kind n = limit kind n (levels n)

abbrev pub grants_of : ℕ → List ℕ → ℕ
grants_of h [] = 0
grants_of h (g ∷ gs) = cond (eqb g h) (suc (grants_of h gs)) (grants_of h gs)

-- At every moment, of every request:
pub record Bounded (n : ℕ) (qs : List Request) (report : List Row) : Type 0 where
  -- it has used no more grants than its limit,
  pub most : (q : ℕ) → q < length qs → (row_at report q).used ≤ limit_of (request_at qs q).kind n
  -- and fewer while it is unfinished.
  pub fewer : (q : ℕ) → q < length qs → (row_at report q).answer ≡ 0 → (row_at report q).used < limit_of (request_at qs q).kind n

-- Between any two moments, "counted from its first grant, for every order of the others' grants":
pub record Ends (n : ℕ) (qs : List Request) (report report' : List Row) (gs : List ℕ) : Type 0 where
  -- a request that has begun is finished once its head has had as many grants more as it was short of its limit.
  pub finished : (q : ℕ) → q < length qs → (row_at report q).first ≢ 0
      → limit_of (request_at qs q).kind n ≤ (row_at report q).used + grants_of (request_at qs q).head gs → (row_at report' q).answer ≢ 0
