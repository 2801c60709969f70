-- `Sources::put_rows`: words, requests, entries.
use Rattle.std.proofs.Common.{rules}
use Rattle.text.proofs.Writing.{wrote_append}
use Rattle.listing.specs.Listing.{Words, Requests, Entries, row}
use Rattle.listing.proofs.sources.Sources.put_rows.Goals as goal

pub returns : goal.returns
returns c =
    let s = c.args.self in
    wrote_append (c.put_each-words.ensures (row Words s.table.now) (search rules))
    (wrote_append (c.put_each-requests.ensures (row Requests s.report.now) (search rules))
    (c.put_each.ensures (row Entries s.linearization.now) (search rules)))
