-- `list`: there is no room, or the text is written in front, and what was behind it stays.
use Rattle.std.proofs.Common.{arith}
use Rattle.listing.proofs.Listing.{listed_short, printed_whole}
use Rattle.listing.proofs.list.Goals as goal

pub returns-clause-text : goal.returns-clause-text
returns-clause-text c =
    let same = c.in_ok-sources.ensures.same in
    simp (← same.0, ← same.1.0, ← same.1.1.0, ← same.1.1.1)
    (printed_whole c.in_ok-sources.sources.enough (omega (arith, c.length-bytes.ensures)) c.put.ensures)

pub returns-then-out-bytes-clause-answer : goal.returns-then-out-bytes-clause-answer
returns-then-out-bytes-clause-answer c =
    let same = c.in_ok-sources.ensures.same in
    simp (← same.0, ← same.1.0, ← same.1.1.0, ← same.1.1.1)
    (listed_short _ c.in_ok-sources.sources.enough (rw (← c.length-bytes.ensures) c.if-out-bytes.true))
