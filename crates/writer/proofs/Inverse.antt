-- Writer and reader are inverses: the round trips of the job file, at the writer's answer and its lent buffer.
--
-- Main law: inverse.
use Rattle.std.proofs.Common.{◌≡◌, ℕ, ◌≤◌, List, ◌++◌, length, drop, ap, ◌∙◌, le-ltb}
use Rattle.jobfile.specs.Meaning.{meaning}
use Rattle.jobfile.specs.Written.{written}
use Rattle.jobfile.specs.Draft.{job_of, draft_of}
use Rattle.jobfile.specs.Admitted.{Bytes}
use Rattle.jobfile.proofs.Drafts.{job_drafted}
use Rattle.jobfile.proofs.RoundTrip.{written_meaning, meaning_drafted}
use Rattle.writer.specs.Write.{buffer_refusal, write_refusal, answer, writes}
use Rattle.writer.specs.Inverse.{Inverse}
use Rattle.writer.proofs.File.{left_means}

-- The draft of a file's meaning has that file, and is not refused.
left_again : (file : List ℕ) → Bytes file → (meaning file).number ≡ 0 → (out : List ℕ) → length file ≤ length out
    → writes (draft_of (meaning file).job) out
    ≡ record { answer = record { number = 0; bytes = length file }; out = file ++ drop (length file) out }
unfolding buffer_refusal write_refusal answer writes
left_again file bytes accepts out room =
    let job = (meaning file).job in
    let same : written (job_of (draft_of job)) ≡ file = ap written (job_drafted job) ∙ written_meaning file bytes accepts in
    rw (meaning_drafted file bytes accepts, same, le-ltb (length out) (length file) room)

pub inverse : Inverse
inverse = record { means_given = left_means; writes_again = left_again }
