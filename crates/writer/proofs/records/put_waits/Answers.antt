-- `records::put_waits`: the rows hold the pairs, and each pair fits its fields.
use Rattle.std.proofs.Common.{rules, refl}
use Rattle.jobfile.specs.Written.{wait_bytes}
use Rattle.writer.proofs.Pairs.{pair_in, pairs_of_rows}
use Rattle.writer.proofs.Rows.{rows_written}
use Rattle.writer.proofs.Stores.{pairs_in_rows}
use Rattle.writer.proofs.records.put_waits.Goals as goal

pub put_rows-requires-clause-calls : goal.put_rows-requires-clause-calls
put_rows-requires-clause-calls c = λ i row out at among is room.
    let all = rw (← c.as_chunks.ensures.front) at (pairs_of_rows c.args.waits.now) in
    (room, pairs_in_rows _ _ all c.requires.waits_admitted i row among is)

pub returns-clause-written : goal.returns-clause-written
returns-clause-written c =
    let all = rw (← c.as_chunks.ensures.front) at (pairs_of_rows c.args.waits.now) in
    rows_written wait_bytes pair_in _ _ _ _ _ all
    (c.put_rows.ensures.written (λ row. wait_bytes (pair_in row))
    (λ i row before at after among is stored. record { sized = refl; stored = search rules }))
