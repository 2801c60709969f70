-- `dock::put_text`: the buffers hold what the text shows and the text fits, so that `list` does not refuse.
use Rattle.std.proofs.Common.{arith, rules}
use Rattle.listing.proofs.Listing.{Fitting}
use Rattle.dock.proofs.Dock.{put_whole}
use Rattle.dock.proofs.put_text.Goals as goal

pub returns : goal.returns
returns c =
    let a = c.args in
    let fitting : Fitting a.played a.table.now a.report.now a.linearization.now =
    record {
      number = search rules;
      job = search rules;
      entries = search rules;
      tally = search rules;
      words = λ k. omega (arith, c.type_inv.table k);
      rows = λ k. omega (arith, c.type_inv.report k);
      points = λ k. omega (arith, c.type_inv.linearization k);
    } in
    put_whole a.played a.table.now a.report.now a.linearization.now a.out.now c.requires.printable c.requires.longest_in_bounds fitting
    _ _ _ c.unwrap_or.ensures c.list.ensures.answer c.list.ensures.text
