-- Heads within the lower of two limits are above neither, so both refuse alike; and without rights every section stands, and is
-- checked, as before.
--
-- Main laws: sizes_kept, rights_kept.
use mathlib.Core.Path.{◌≡◌, refl}
use mathlib.Core.List.{List, [], ◌∷◌}
use Prim.Native.Nat.{ℕ, ◌+◌}
use native.Mathlib.Omega.{arith}
use lib.ListN.{drop}
use borrow.Author.Tests.{le-ltb}
use Rattle.job.specs.Job.{Job}
use Rattle.jobfile.specs.Format.{right_mark, job_size, right_size, word, first_refusal}
use Rattle.jobfile.specs.Meaning.{nodes_in, heads_in, rights_refusal, missing_refusal, right_records, fields_at, request_refusal}
use Rattle.jobfile.specs.Meaning.{file_refusal, job_in}
use Rattle.jobfile.specs.Written.{file_with}
use Rattle.jobfile.specs.Kept.{SizesKept, former_requests, former_request_refusal, former_refusal, former_job, former_file, RightsKept}
use Rattle.jobfile.proofs.Refusals.{asked_free}
use Rattle.jobfile.proofs.Records.{records_end}

pub sizes_kept : SizesKept
sizes_kept lower upper nodes heads rise within = rw (le-ltb lower heads within, le-ltb upper heads (omega arith)) refl

-- ---- where there are no rights

checks_kept : (nodes heads number : ℕ) (ts : List (List ℕ))
    → first_refusal (request_refusal nodes heads []) (λ number t. number + 1) number ts
    ≡ first_refusal (former_request_refusal nodes heads) (λ number t. number + 1) number ts
unfolding first_refusal request_refusal
checks_kept nodes heads number [] = refl
checks_kept nodes heads number (t ∷ ts) = rw (asked_free nodes heads [] (fields_at t) refl, checks_kept nodes heads (number + 1) ts)

file_kept : (j : Job) (w : ℕ) → j.rights ≡ [] → file_with j w ≡ former_file j w
unfolding file_with
file_kept j w none = rw none

module _ (s : List ℕ) (other : word (drop job_size s) ≡ right_mark → ⊥) where
  no_records : right_records s ≡ []
  no_records = records_end right_size right_mark (omega arith) refl (drop job_size s) other

  none_refused : rights_refusal (heads_in s) 0 [] ≡ 0
  unfolding first_refusal
  none_refused = refl

  none_missing : (t : List ℕ) → missing_refusal (heads_in s) 0 t ≡ 0
  unfolding missing_refusal
  none_missing t = refl

  refusal_kept : file_refusal s ≡ former_refusal s
  unfolding file_refusal
  refusal_kept = rw (no_records, none_refused, none_missing, checks_kept (nodes_in s) (heads_in s) 0 (former_requests s))

  job_kept : job_in s ≡ former_job s
  unfolding job_in
  job_kept = rw no_records

pub rights_kept : RightsKept
rights_kept = record { refused = refusal_kept; means = job_kept; written = file_kept }
