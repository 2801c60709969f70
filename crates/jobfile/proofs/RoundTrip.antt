-- The job file's theorems. Document 01: the writer's file means what it was given, and an accepted file's meaning is
-- written as that file.
--
--   meaning_number      the number of a meaning is the refusal's, 0 for none
--   written_draft       the writer's file means the job of the draft: the reader refuses nothing that the writer wrote
--   written_meaning     the meaning of an accepted file is written as that file, byte for byte
--   admitted_meaning    the meaning of an accepted file is an admitted job
--   meaning_drafted     so the writer refuses no meaning of an accepted file
use mathlib.Core.Path.{◌≡◌, ◌∙◌, sym, ap}
use mathlib.Core.List.{List}
use Prim.Native.Nat.{ℕ}
use lib.Dec.{eqb}
use borrow.Author.Tests.{eqb-true, ne_eqb}
use Rattle.basics.proofs.Conditions.{split}
use Rattle.jobfile.specs.Meaning.{file_refusal, job_in, accepted, refused, meaning}
use Rattle.jobfile.specs.Written.{written}
use Rattle.jobfile.specs.Draft.{Draft, job_of, draft_refusal, draft_of}
use Rattle.jobfile.specs.Admitted.{Admitted, Bytes}
use Rattle.jobfile.proofs.Forward.{meaning_written}
use Rattle.jobfile.proofs.Passed.{file_passed}
use Rattle.jobfile.proofs.Backward.{written_job, admitted_job}
use Rattle.jobfile.proofs.Drafts.{admitted_draft, draft_passes}

pub meaning_number : (s : List ℕ) → (meaning s).number ≡ file_refusal s
unfolding meaning
meaning_number s = split (eqb (file_refusal s) 0) (λ e. rw e (sym (eqb-true (file_refusal s) 0 e))) (λ e. rw e)

pub meaning_accepted : (s : List ℕ) → file_refusal s ≡ 0 → meaning s ≡ accepted (job_in s)
unfolding meaning
meaning_accepted s e = rw e

pub meaning_refused : (s : List ℕ) → (file_refusal s ≡ 0 → ⊥) → meaning s ≡ refused (file_refusal s)
unfolding meaning
meaning_refused s e = rw (ne_eqb (file_refusal s) 0 e)

pub written_draft : (d : Draft) → draft_refusal d ≡ 0 → meaning (written (job_of d)) ≡ accepted (job_of d)
written_draft d e = meaning_written (job_of d) (admitted_draft d e)

module _ (s : List ℕ) (bytes : Bytes s) (accepts : (meaning s).number ≡ 0) where
  pub accepts_all : file_refusal s ≡ 0
  accepts_all = sym (meaning_number s) ∙ accepts

  pub job_meant : (meaning s).job ≡ job_in s
  job_meant = ap (λ m. m.job) (meaning_accepted s accepts_all)

  pub written_meaning : written (meaning s).job ≡ s
  written_meaning = rw job_meant (written_job s bytes (file_passed s accepts_all))

  pub admitted_meaning : Admitted (meaning s).job
  admitted_meaning = rw job_meant (admitted_job s bytes (file_passed s accepts_all))

  pub meaning_drafted : draft_refusal (draft_of (meaning s).job) ≡ 0
  meaning_drafted = draft_passes (meaning s).job admitted_meaning
