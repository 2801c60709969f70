-- `SheetParts::length`: every text can be counted.
use Rattle.std.proofs.Common.{arith}
use Rattle.text.proofs.Writing.{wrote_measured}
use Rattle.sheet.proofs.Buffers.{sheet_in_counted}
use Rattle.sheet.proofs.lines.SheetParts.length.Goals as goal

pub returns : goal.returns
returns c =
    let s = c.args.self in
    wrote_measured c.put.ensures
    (sheet_in_counted s.numbers.now s.report.now s.requests s.linearization.now s.entries s.narrow (omega arith) (omega arith))
