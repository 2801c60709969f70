-- `Sources::length`: every text can be counted.
use Rattle.std.proofs.Common.{arith}
use Rattle.text.proofs.Writing.{wrote_measured}
use Rattle.listing.proofs.Listing.{Fitting, listing_counted}
use Rattle.listing.proofs.sources.Sources.length.Goals as goal

pub returns : goal.returns
returns c =
    let s = c.args.self in
    let fitting : Fitting s.played s.table.now s.report.now s.linearization.now =
    record {
      number = omega arith;
      job = (omega arith, (omega arith, (omega arith, (omega arith, tt))));
      entries = omega arith;
      tally = (omega arith, (omega arith, (omega arith, (omega arith, tt))));
      words = s.narrow.words;
      rows = s.narrow.requests;
      points = s.narrow.entries;
    } in
    wrote_measured c.put.ensures (listing_counted s.played s.table.now s.report.now s.linearization.now fitting)
