-- A group's root is a node, and its row is made of what is found of the group.
use Rattle.std.proofs.Common.{arith}
use Rattle.page.proofs.Rows.{root_inside, rank_read, row_made}
use Rattle.page.proofs.groups.row_at.Goals as goal

pub bounds-groups-place : goal.bounds-groups-place
bounds-groups-place c =
    omega (
      arith,
      c.from-place.ensures,
      c.args.table.admitted.few,
      root_inside c.args.table.admitted c.requires.gathered c.args.k c.requires.k_in_bounds,
    )

pub bounds-table-place : goal.bounds-table-place
bounds-table-place c =
    omega (arith, c.from-place.ensures, root_inside c.args.table.admitted c.requires.gathered c.args.k c.requires.k_in_bounds)

pub returns : goal.returns
returns c =
    let a = c.args.table in
    let inside = root_inside a.admitted c.requires.gathered c.args.k c.requires.k_in_bounds in
    row_made a.admitted c.requires.gathered c.args.k c.requires.k_in_bounds c.from-place.ensures c.from.ensures c.from-2.ensures
    c.from-3.ensures
    (rank_read a.words.now a.admitted _ c.rank.result (omega (arith, c.from-place.ensures, inside)) c.rank.ensures)
