-- What the refusals leave.
--
--   Accepted words x y   the enquiry about x and y is not refused
use mathlib.Core.Path.{◌≡◌}
use mathlib.Core.List.{List, map}
use Prim.Native.Nat.{ℕ, ◌<◌}
use native.Mathlib.Omega.{arith}
use lib.Dec.{leb}
use lib.ListN.{length}
use borrow.Author.Tests.{leb-false}
use Rattle.word.specs.Word.{decode}
use Rattle.table.specs.Admitted.{Admitted}
use Rattle.table.proofs.Admitted.{passed, table_admitted}
use Rattle.query.specs.Query.{refusal}

pub record Accepted (words : List ℕ) (x y : ℕ) : Type 0 where
  pub left : x < length words
  pub right : y < length words
  pub table : Admitted (length words) (map decode words)

pub accepted : (words : List ℕ) (x y : ℕ) → refusal words x y ≡ 0 → Accepted words x y
unfolding refusal
accepted words x y none =
    let left = passed (leb (length words) x) (λ e. omega arith) none in
    let right = passed (leb (length words) y) (λ e. omega arith) left.others in
    record { left = leb-false _ _ left.first; right = leb-false _ _ right.first; table = table_admitted words right.others }
