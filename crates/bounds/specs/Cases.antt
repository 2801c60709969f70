-- Document 02, A7: numbers of places and their limits, as one table.
--
--   Case               a number of places and what is expected of it
--   outcome c          what the definitions give
--   wanted c           what is expected
--   limits n s u       n places, on which a same-set takes s grants at most and a union u
--   refused n          n places are refused with 4
--   cases              the table
use Rattle.std.specs.Prelude.{List, [], ◌∷◌, ℕ}
use Rattle.bounds.specs.declared.Limits.{Limits}
use Rattle.bounds.specs.Bounds.{limits_of}

pub record Case : Type 0 where
  pub nodes : ℕ
  pub expected : Limits

abbrev pub outcome : Case → Limits
outcome c = limits_of c.nodes

abbrev pub wanted : Case → Limits
wanted c = c.expected

abbrev pub limits : ℕ → ℕ → ℕ → Case
limits nodes same_set union =
    record { nodes = nodes; expected = record { number = 0; same_set_grants = same_set; union_grants = union } }

abbrev pub refused : ℕ → Case
refused nodes = record { nodes = nodes; expected = record { number = 4; same_set_grants = 0; union_grants = 0 } }

-- The first places, both sides of where the logarithm rises, and both ends.
abbrev pub cases : List Case
cases =
    refused 0
    ∷ limits 1 11 22
    ∷ limits 2 22 54
    ∷ limits 3 33 76
    ∷ limits 4 44 108
    ∷ limits 7 77 174
    ∷ limits 8 88 206
    ∷ limits 1023 11253 22596
    ∷ limits 1024 11264 22628
    ∷ limits 4095 45045 90200
    ∷ limits 4096 45056 90232
    ∷ refused 4097
    ∷ refused 4294967295
    ∷ []
