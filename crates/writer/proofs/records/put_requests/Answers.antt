-- `records::put_requests`: the rows hold the requests, and each request fits its fields.
use Rattle.std.proofs.Common.{rules, refl, [], ap, ◌∙◌}
use Rattle.std.proofs.lemmas.List.Edits.{sets}
use Rattle.job.specs.Job.{most_nodes, most_heads}
use Rattle.jobfile.specs.Format.{request_of}
use Rattle.jobfile.specs.Written.{request_bytes}
use Rattle.jobfile.specs.Draft.{fields_of, each_refusal}
use Rattle.writer.proofs.Requests.{fields_in, fields_of_rows}
use Rattle.writer.proofs.Rows.{records_of_rows, rows_written}
use Rattle.writer.proofs.Stores.{requests_in_rows}
use Rattle.writer.proofs.records.put_requests.Goals as goal

pub put_rows-requires-clause-calls : goal.put_rows-requires-clause-calls
put_rows-requires-clause-calls c = λ i row out at among is room.
    let all = rw (← c.as_chunks.ensures.front) at (fields_of_rows c.args.requests.now) in
    let passes = ap (each_refusal most_nodes most_heads []) all ∙ c.requires.requests_admitted in
    (room, requests_in_rows _ passes i row among is)

pub returns-clause-written : goal.returns-clause-written
returns-clause-written c =
    let all = rw (← c.as_chunks.ensures.front) at (fields_of_rows c.args.requests.now) in
    rows_written (λ fields. request_bytes (request_of fields)) fields_in _ _ _ _ _ all
    (c.put_rows.ensures.written (λ row. request_bytes (request_of (fields_in row)))
    (λ i row before at after among is stored. record { sized = refl; stored = search rules }))
    ∙ ap (sets c.args.out.now c.args.start) (records_of_rows request_bytes request_of (fields_of c.args.requests.now))
