-- The structs of this crate that the laws of `walks` take, and the array of the groups' sizes. No function of the crate needs a
-- walk by hand any more.
--
--   numbers_type     the array of the groups' sizes
--   numbers_value    its machine value
use mathlib.Core.List.{List}
use Prim.Native.Nat.{ℕ}
use mir.Syntax.{w16}
use mir.Val.{Val}
use denote.RattleType.{RattleType}
use denote.Builtin.{u16}
use denote.Array.{Array, array_vals}
use denote.Plain.{uint_vals}
use denote.Steps.{only}
use Rattle.walks.proofs.Carried.{Carried}
use Rattle.page.specs.contracts.Row as row_type
use Rattle.page.proofs.Row.TheLaws as row_laws
use Rattle.page.specs.contracts.Paged as paged_type
use Rattle.page.proofs.Paged.TheLaws as paged_laws

abbrev pub row_struct : Carried
row_struct =
    record { type = row_type.the_type; laws = row_laws.the_laws; plain = row_laws.the_plain; copyable = row_laws.the_copy }

abbrev pub paged_struct : Carried
paged_struct =
    record { type = paged_type.the_type; laws = paged_laws.the_laws; plain = paged_laws.the_plain; copyable = paged_laws.the_copy }

abbrev pub numbers_type : RattleType
numbers_type = Array u16 4096

abbrev pub numbers_value : List ℕ → Val
numbers_value numbers = only (array_vals (uint_vals w16) numbers)
