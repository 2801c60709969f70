-- `records::put_rights`: the rows hold the rights, and each right fits its fields.
use Rattle.std.proofs.Common.{rules, refl}
use Rattle.jobfile.specs.Written.{right_bytes}
use Rattle.writer.proofs.Rights.{right_in, rights_of_rows}
use Rattle.writer.proofs.Rows.{rows_written}
use Rattle.writer.proofs.Stores.{rights_in_rows}
use Rattle.writer.proofs.records.put_rights.Goals as goal

pub put_rows-requires-clause-calls : goal.put_rows-requires-clause-calls
put_rows-requires-clause-calls c = λ i row out at among is room.
    let all = rw (← c.as_chunks.ensures.front) at (rights_of_rows c.args.rights.now) in
    let fits = rights_in_rows _ _ all c.requires.rights_len_bound c.requires.rights_admitted i row among is in
    (room, (fits.head, fits.rights))

pub returns-clause-written : goal.returns-clause-written
returns-clause-written c =
    let all = rw (← c.as_chunks.ensures.front) at (rights_of_rows c.args.rights.now) in
    rows_written right_bytes right_in _ _ _ _ _ all
    (c.put_rows.ensures.written (λ row. right_bytes (right_in row))
    (λ i row before at after among is stored. record { sized = refl; stored = search rules }))
