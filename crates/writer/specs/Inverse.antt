-- Document 01, "Job file", and 02, A3 and A5: writer and reader are inverses, in the writer's own terms.
--
--   Inverse             what is written means what was given, and what a file means is written as that file
use Rattle.std.specs.Prelude.{◌≡◌, ℕ, ◌≤◌, List, ◌++◌, length, take, drop}
use Rattle.jobfile.specs.Meaning.{accepted, meaning}
use Rattle.jobfile.specs.Draft.{Draft, job_of, draft_of}
use Rattle.jobfile.specs.Admitted.{Bytes}
use Rattle.writer.specs.Write.{writes}

pub record Inverse : Type 0 where
  -- "the writer's file means what it was given": whatever it did not refuse is an accepted file of the same job
  pub means_given : (d : Draft) (out : List ℕ) → (writes d out).answer.number ≡ 0
      → meaning (take (writes d out).answer.bytes (writes d out).out) ≡ accepted (job_of d)
  -- "an accepted file's meaning is written as that file": in any buffer with room for it, it is written in front, the
  -- rest stays as lent, and the answer is 0 and the file's length
  pub writes_again : (file : List ℕ) → Bytes file → (meaning file).number ≡ 0
      → (out : List ℕ) → length file ≤ length out
      → writes (draft_of (meaning file).job) out
      ≡ record { answer = record { number = 0; bytes = length file }; out = file ++ drop (length file) out }
