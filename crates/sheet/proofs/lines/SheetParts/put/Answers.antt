-- `SheetParts::put`: the requests' lines, then the entries'.
use Rattle.text.proofs.Writing.{wrote_append}
use Rattle.sheet.proofs.lines.SheetParts.put.Goals as goal

pub returns : goal.returns
returns c = wrote_append c.put_requests-next.ensures c.put_entries.ensures
