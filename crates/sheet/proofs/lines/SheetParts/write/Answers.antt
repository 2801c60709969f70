-- `SheetParts::write`: there is no room, or the text is written.
use Rattle.sheet.proofs.Call.{written_short, written_whole}
use Rattle.sheet.proofs.lines.SheetParts.write.Goals as goal

pub returns-then-out-bytes : goal.returns-then-out-bytes
returns-then-out-bytes c = written_short _ _ c.length-bytes.ensures c.if-out-bytes.true

pub returns : goal.returns
returns c = written_whole _ _ c.length-bytes.ensures c.if-out-bytes.false c.put.ensures
