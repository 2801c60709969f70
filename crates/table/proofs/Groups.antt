-- The groups of an admitted table: the plain walk names each place's root.
use mathlib.Core.Path.{◌≡◌}
use mathlib.Core.List.{List}
use Prim.Native.Nat.{ℕ, suc, ◌*◌, ◌<◌}
use native.Mathlib.Omega.{arith}
use Rattle.word.specs.declared.Node.{Node}
use Rattle.word.specs.Word.{node_limit, most_rank}
use Rattle.forest.specs.Forest.{Leads}
use Rattle.forest.proofs.Forest.{leads_unique, leads_inside}
use Rattle.forest.proofs.Groups.{Leading, within_leads}
use Rattle.rules.specs.Table.{parent}
use Rattle.table.specs.Admitted.{Admitted}
use Rattle.table.specs.Groups.{root_in}
use Rattle.table.proofs.Admitted.{admitted_formed}

module _ {n : ℕ} {t : List Node} (admitted : Admitted n t) where
  root_leads : (i : ℕ) → i < n → Leads (parent t) i (root_in t i)
  unfolding root_in
  root_leads i l =
      within_leads (admitted_formed admitted) most_rank admitted.ranks (suc most_rank * node_limit) i l (omega arith)

  pub admitted_leading : Leading n (parent t) (root_in t)
  admitted_leading =
      record { inside = λ i l. leads_inside (admitted_formed admitted) (root_leads i l) l; leads = root_leads }

  -- what a walk to a root tells
  pub root_told : {i r : ℕ} → i < n → Leads (parent t) i r → r ≡ root_in t i
  root_told {i} l way = leads_unique way (root_leads i l)
