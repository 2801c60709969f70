-- `reader::check_records`: the first section that is refused answers, and where none is, the counts are the job's.
--
--   rights, requests, waits, runs      what is known where that part of the file was read
--   asked, counted, paired, granted    and where none of it is refused
use Rattle.std.proofs.Common.{ℕ, refl, ◌∙◌, arith}
use Rattle.std.proofs.lemmas.Result.{err_from_is_err_and}
use Rattle.job.proofs.Refusals.{refuses}
use Rattle.jobfile.proofs.Passed.{header_passed}
use Rattle.reader.specs.Reader.{Records, section_told, run_section_told}
use Rattle.reader.proofs.Checks.{RightsRead, rights_told, rights_answer, righted, RequestsRead, requests_told, requests_answer}
use Rattle.reader.proofs.Checks.{waits_room, WaitsRead, waits_told, waits_answer, runs_room, RunsRead, runs_told, runs_answer}
use Rattle.reader.proofs.Checks.{close_room, close_told, close_answers, counts_answer}
use Rattle.reader.proofs.check_records.Goals as goal
use Rattle.reader.proofs.check_records.Goals.{After-read_rights, After-read_requests, After-read_waits, After-read_runs}
use Rattle.reader.proofs.check_records.Goals.{In_ok-rights, In_ok-requests, In_ok-waits, In_ok-runs}

-- a section of which none is refused
abbrev all : ℕ → Records
all count = record { number = 0; count = count }

rights : (c : After-read_rights) → RightsRead c.args.file.now (section_told c.read_rights.result)
rights c =
    rights_told (c.requires.file_len_bound, c.requires.header_admitted) (c.from-heads.ensures ∙ c.word_at-2.ensures) c.read_rights.ensures

asked : (c : In_ok-rights) → RightsRead c.args.file.now (all c.in_ok-rights.rights)
asked c =
    rights_told (c.requires.file_len_bound, c.requires.header_admitted) (c.from-heads.ensures ∙ c.word_at-2.ensures) c.in_ok-rights.ensures

requests : (c : After-read_requests) → RightsRead c.args.file.now (all c.in_ok-rights.rights)
    → RequestsRead c.args.file.now (all c.in_ok-rights.rights) (section_told c.read_requests.result)
requests c before =
    requests_told before refl (c.from-nodes.ensures ∙ c.word_at.ensures) (c.from-heads.ensures ∙ c.word_at-2.ensures)
    c.read_requests.ensures

counted : (c : In_ok-requests) → RightsRead c.args.file.now (all c.in_ok-rights.rights)
    → RequestsRead c.args.file.now (all c.in_ok-rights.rights) (all c.in_ok-requests.requests)
counted c before =
    requests_told before refl (c.from-nodes.ensures ∙ c.word_at.ensures) (c.from-heads.ensures ∙ c.word_at-2.ensures)
    c.in_ok-requests.ensures

waits : (c : After-read_waits) → RequestsRead c.args.file.now (all c.in_ok-rights.rights) (all c.in_ok-requests.requests)
    → WaitsRead c.args.file.now (all c.in_ok-rights.rights) (all c.in_ok-requests.requests) (section_told c.read_waits.result)
waits c before = waits_told before refl c.request_place.ensures c.read_waits.ensures

paired : (c : In_ok-waits) → RequestsRead c.args.file.now (all c.in_ok-rights.rights) (all c.in_ok-requests.requests)
    → WaitsRead c.args.file.now (all c.in_ok-rights.rights) (all c.in_ok-requests.requests) (all c.in_ok-waits.waits)
paired c before = waits_told before refl c.request_place.ensures c.in_ok-waits.ensures

runs : (c : After-read_runs)
    → WaitsRead c.args.file.now (all c.in_ok-rights.rights) (all c.in_ok-requests.requests) (all c.in_ok-waits.waits)
    → RunsRead c.args.file.now (all c.in_ok-rights.rights) (all c.in_ok-requests.requests) (all c.in_ok-waits.waits)
    (run_section_told c.read_runs.result)
runs c before = runs_told before refl (c.from-heads.ensures ∙ c.word_at-2.ensures) c.wait_place.ensures c.read_runs.ensures

granted : (c : In_ok-runs)
    → WaitsRead c.args.file.now (all c.in_ok-rights.rights) (all c.in_ok-requests.requests) (all c.in_ok-waits.waits)
    → RunsRead c.args.file.now (all c.in_ok-rights.rights) (all c.in_ok-requests.requests) (all c.in_ok-waits.waits)
    (record { number = 0; count = c.in_ok-runs.runs.count; grants = c.in_ok-runs.runs.grants })
granted c before = runs_told before refl (c.from-heads.ensures ∙ c.word_at-2.ensures) c.wait_place.ensures c.in_ok-runs.ensures

pub read_rights-requires-clause-job_size_in_bounds : goal.read_rights-requires-clause-job_size_in_bounds
read_rights-requires-clause-job_size_in_bounds c = (header_passed _ c.requires.header_admitted).whole

pub returns-in_err-rights : goal.returns-in_err-rights
returns-in_err-rights c =
    let p = err_from_is_err_and c.from_residual.result c.from_residual.ensures.1 in
    let read = rights (goal.at.returns-in_err-rights c).After-read_rights in
    rw (p.1, p.2) (rights_answer (rw c.in_err-rights.was at read) (refuses _))

pub read_requests-requires-clause-righted : goal.read_requests-requires-clause-righted
read_requests-requires-clause-righted c = righted (asked (goal.at.read_requests-requires-clause-righted c).In_ok-rights) refl

pub returns-in_err-requests : goal.returns-in_err-requests
returns-in_err-requests c =
    let g = goal.at.returns-in_err-requests c in
    let p = err_from_is_err_and c.from_residual-in_err-requests.result c.from_residual-in_err-requests.ensures.1 in
    let read = requests g.After-read_requests (asked g.In_ok-rights) in
    rw (p.1, p.2) (requests_answer (rw c.in_err-requests.was at read) (refuses _))

pub read_waits-requires-clause-start_in_bounds : goal.read_waits-requires-clause-start_in_bounds
read_waits-requires-clause-start_in_bounds c =
    let g = goal.at.read_waits-requires-clause-start_in_bounds c in
    rw c.request_place.ensures (waits_room (counted g.In_ok-requests (asked g.In_ok-rights)) refl)

pub returns-in_err-waits : goal.returns-in_err-waits
returns-in_err-waits c =
    let g = goal.at.returns-in_err-waits c in
    let p = err_from_is_err_and c.from_residual-in_err-waits.result c.from_residual-in_err-waits.ensures.1 in
    let read = waits g.After-read_waits (counted g.In_ok-requests (asked g.In_ok-rights)) in
    rw (p.1, p.2) (waits_answer (rw c.in_err-waits.was at read) (refuses _))

pub read_runs-requires-clause-start_in_bounds : goal.read_runs-requires-clause-start_in_bounds
read_runs-requires-clause-start_in_bounds c =
    let g = goal.at.read_runs-requires-clause-start_in_bounds c in
    rw c.wait_place.ensures (runs_room (paired g.In_ok-waits (counted g.In_ok-requests (asked g.In_ok-rights))) refl)

pub returns-in_err-runs : goal.returns-in_err-runs
returns-in_err-runs c =
    let g = goal.at.returns-in_err-runs c in
    let p = err_from_is_err_and c.from_residual-in_err-runs.result c.from_residual-in_err-runs.ensures.1 in
    let read = runs g.After-read_runs (paired g.In_ok-waits (counted g.In_ok-requests (asked g.In_ok-rights))) in
    rw (p.1, p.2) (runs_answer (rw c.in_err-runs.was at read) (refuses _))

pub check_close-requires-clause-at_in_bounds : goal.check_close-requires-clause-at_in_bounds
check_close-requires-clause-at_in_bounds c =
    let g = goal.at.check_close-requires-clause-at_in_bounds c in
    let ran = granted g.In_ok-runs (paired g.In_ok-waits (counted g.In_ok-requests (asked g.In_ok-rights))) in
    rw c.run_place.ensures (close_room ran refl)

pub returns-in_err-check_close : goal.returns-in_err-check_close
returns-in_err-check_close c =
    let g = goal.at.returns-in_err-check_close c in
    let ran = granted g.In_ok-runs (paired g.In_ok-waits (counted g.In_ok-requests (asked g.In_ok-rights))) in
    let p = err_from_is_err_and c.from_residual-in_err-check_close.result c.from_residual-in_err-check_close.ensures.1 in
    rw (p.1, p.2) (close_answers (close_told ran refl c.run_place.ensures c.in_err-check_close.ensures) (refuses _))

pub returns : goal.returns
returns c =
    let g = goal.at.returns c in
    let ran = granted g.In_ok-runs (paired g.In_ok-waits (counted g.In_ok-requests (asked g.In_ok-rights))) in
    simp (c.from-nodes.ensures, c.word_at.ensures, c.from-heads.ensures, c.word_at-2.ensures)
    (counts_answer (close_told ran refl c.run_place.ensures c.in_ok-check_close.ensures) (λ i. omega (arith, c.type_inv.file i)) refl)
