-- `request_here`: the numbers of the request fit their fields.
use Rattle.std.proofs.Common.{arith}
use Rattle.jobfile.specs.Admitted.{Bytes}
use Rattle.records.proofs.Fields.{narrow}
use Rattle.records.proofs.request_here.Goals as goal

pub overflow_cast-result-2 : goal.overflow_cast-result-2
overflow_cast-result-2 c =
    let bytes : Bytes c.args.file.now = λ i. omega (arith, c.type_inv.file i) in
    omega (arith, narrow c.args.file.now c.args.at _ c.fields_here-fields.ensures bytes)

pub overflow_cast-result-3 : goal.overflow_cast-result-3
overflow_cast-result-3 c =
    let bytes : Bytes c.args.file.now = λ i. omega (arith, c.type_inv.file i) in
    omega (arith, narrow c.args.file.now c.args.at _ c.fields_here-fields.ensures bytes)
