-- The array is filled, looked at from x, and its front is given back.
use Rattle.std.proofs.Common.{arith, ap, ◌∙◌}
use Rattle.query.specs.Numbers.{ended}
use Rattle.query.proofs.Enquired.{enquiry_few, enquiry_array, enquiry_ready, enquiry_size, enquired}
use Rattle.query.proofs.enquire.Goals as goal

pub copy_in-requires : goal.copy_in-requires
copy_in-requires c = enquiry_few _ _ _ c.requires

pub pad-requires : goal.pad-requires
pad-requires c = enquiry_few _ _ _ c.requires

pub look-end-requires : goal.look-end-requires
look-end-requires c =
    let a = c.args in
    let array = enquiry_array a.table.now a.x a.y c.requires _ _ c.copy_in.ensures c.pad.ensures in
    enquiry_ready a.table.now _ _ c.requires _ _ array (omega (arith, c.ranges.budget))

pub copy_out-requires : goal.copy_out-requires
copy_out-requires c =
    let a = c.args in
    let array = enquiry_array a.table.now a.x a.y c.requires _ _ c.copy_in.ensures c.pad.ensures in
    (enquiry_few _ _ _ c.requires, enquiry_size a.table.now _ _ c.requires a.budget _ array _ _ (rw c.from.ensures at c.look-end.ensures))

pub returns : goal.returns
returns c =
    let a = c.args in
    let array = enquiry_array a.table.now a.x a.y c.requires _ _ c.copy_in.ensures c.pad.ensures in
    ap (ended c.look-end.result) c.copy_out.ensures
    ∙ enquired _ _ _ c.requires _ _ array _ _ (rw c.from.ensures at c.look-end.ensures)
