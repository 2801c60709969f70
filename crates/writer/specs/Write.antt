-- Document 01, "Job file" and "Turned down", and 02, A3 and A5: what the writer answers and what it leaves in the lent buffer.
--
--   given n h as rs ws gs   the draft that the writer is given
--   buffer_refusal s room   the refusal of a buffer of that length for the file s
--   write_refusal d room    the refusal of a draft and a buffer, 0 for none
--   refused n           the answer of a refusal
--   answer d room       what a host is told of the writer's answer
--   written_told r      the same of an answer by name
--   Left                the answer and the lent buffer
--   writes d out        what the writer leaves
--   right_from l at     the three numbers of l from a position on, as a right
--   fields_from l at    the four numbers of l from a position on, as a request's
--   pair_from l at      the two numbers of l from a position on, as a pair
--   Put n bs at l m     m is l with the n bytes bs stored at a place
--   close_bytes t       the close of a file whose other records are t
use Rattle.std.specs.Prelude.{◌≡◌, ℕ, ◌+◌, ◌-◌, ◌%◌, cond, List, ◌++◌, length, drop, ◌==◌, nat_lt, slice_index, Result}
use Rattle.std.proofs.lemmas.List.Edits.{sets}
use Rattle.std.specs.declared.result.Result.TheVariants.{Ok, Err}
use Rattle.job.specs.declared.refusal.Refusal.{Refusal}
use Rattle.job.specs.Refusal.{number_of}
use Rattle.job.specs.declared.Wait.{Wait}
use Rattle.job.specs.declared.Right.{Right}
use Rattle.jobfile.specs.declared.Fields.{Fields}
use Rattle.jobfile.specs.Format.{close_mark, word_bytes, word_sum, ◌then◌}
use Rattle.jobfile.specs.Written.{written}
use Rattle.jobfile.specs.Draft.{Draft, job_of, draft_refusal}
use Rattle.writer.specs.declared.Written.{Written}

-- Places, heads, rights (02, A5; three numbers each), requests (four numbers each), pairs (02, A3; two numbers each) and a list of
-- head numbers, one per grant.
abbrev pub given : ℕ → ℕ → List ℕ → List ℕ → List ℕ → List ℕ → Draft
given nodes heads rights requests waits grants =
    record { nodes = nodes; heads = heads; rights = rights; requests = requests; waits = waits; schedule = grants }

-- 14: the writer's buffer too short.
unfoldable pub buffer_refusal : List ℕ → ℕ → ℕ
buffer_refusal s room = cond (nat_lt room (length s)) 14 0

-- It checks what it is given, up to the file's length, then its buffer.
unfoldable pub write_refusal : Draft → ℕ → ℕ
write_refusal d room = draft_refusal d then buffer_refusal (written (job_of d)) room

-- A refusal gives its number and zero for every count.
abbrev pub refused : ℕ → Written
refused n = record { number = n; bytes = 0 }

-- The bytes written, or the refusal.
unfoldable pub answer : Draft → ℕ → Written
answer d room =
    cond (write_refusal d room == 0)
    (record { number = 0; bytes = length (written (job_of d)) })
    (refused (write_refusal d room))

-- What a host is told of an answer by name.
abbrev pub written_told : Result ℕ Refusal → Written
written_told (Ok bytes) = record { number = 0; bytes = bytes }
written_told (Err refusal) = refused (number_of refusal)

-- What the writer leaves: its answer and the lent buffer.
pub record Left : Type 0 where
  pub answer : Written
  pub out : List ℕ

-- Bytes beyond what is written stay; a refusal writes nothing.
unfoldable pub writes : Draft → List ℕ → Left
writes d out =
    let file = written (job_of d) in
    record {
      answer = answer d (length out);
      out = cond (write_refusal d (length out) == 0) (file ++ drop (length file) out) out;
    }

-- A right, a request's numbers and a pair in place in a list of numbers, and the close of a file: a right in place,
abbrev pub right_from : List ℕ → ℕ → Right
right_from l at = record { head = slice_index l at; rights = slice_index l (at + 1); sight = slice_index l (at + 2) }

-- a request's numbers in place,
abbrev pub fields_from : List ℕ → ℕ → Fields
fields_from l at = record { head = slice_index l at; kind = slice_index l (at + 1); x = slice_index l (at + 2); y = slice_index l (at + 3) }

-- a pair's numbers in place.
abbrev pub pair_from : List ℕ → ℕ → Wait
pair_from l at = record { later = slice_index l at; earlier = slice_index l (at + 1) }

-- The balance is the difference from zero, in 16 bits, of the words before it.
abbrev pub close_bytes : List ℕ → List ℕ
close_bytes t = word_bytes close_mark ++ word_bytes ((65536 - word_sum (t ++ word_bytes close_mark) % 65536) % 65536)

-- Bytes of a record's size, stored at a place.
pub record Put (size : ℕ) (bytes : List ℕ) (at : ℕ) (before after : List ℕ) : Type 0 where
  pub sized : length bytes ≡ size
  pub stored : after ≡ sets before at bytes
