-- One record of a file: whether it stands at a place, and the rights that stand in front of a request's.
--
--   is_record size m t  a whole record of that size, with the mark m, stands at the place t
--   Righted file r      r rights stand behind the first record of the file
use Rattle.std.specs.Prelude.{◌≡◌, Bool, false, cond, List, ℕ, ◌≤◌, eqb, ltb, length}
use Rattle.jobfile.specs.Format.{right_place, word}
use Rattle.jobfile.specs.Meaning.{right_records}

-- The whole of a record, with its mark.
abbrev pub is_record : ℕ → ℕ → List ℕ → Bool
is_record size m t = cond (ltb (length t) size) false (eqb (word t) m)

-- The rights of a file (02, A5), counted and whole.
pub record Righted (file : List ℕ) (rights : ℕ) : Type 0 where
  pub counted : rights ≡ length (right_records file)
  pub within : right_place rights ≤ length file
