-- The line of a request shows the numbers of its row.
use Rattle.std.proofs.Common.{[]}
use Rattle.listing.proofs.Rows.{report_row}
use Rattle.listing.proofs.sections.put_request.Goals as goal

pub returns : goal.returns
returns c = rw (report_row c.args.number c.args.i [] c.args.report.now _ c.as_chunks.ensures.front c.requires) c.put_line.ensures
