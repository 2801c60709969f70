-- `check_request`: in a file without rights, a head may ask whatever its numbers allow.
use Rattle.std.proofs.Common.{sym, ◌∙◌, drop, length-drop, arith}
use Rattle.jobfile.specs.Meaning.{rights_in}
use Rattle.jobfile.proofs.Refusals.{asked_free}
use Rattle.records.proofs.Fields.{no_rights, asked_numbers}
use Rattle.records.proofs.check_request.Goals as goal

pub returns-then-rights-eq0 : goal.returns-then-rights-eq0
returns-then-rights-eq0 c =
    let a = c.args in
    let rights = rights_in a.file.now in
    sym (asked_numbers a.nodes a.heads rights a.number _ (drop a.at a.file.now) c.fields_here-fields.ensures
    (rw length-drop (omega arith)) (omega arith)
    ∙ asked_free a.nodes a.heads rights _ (no_rights c.requires.righted c.if-rights-eq0.true)
    ∙ sym c.in_ok-check_fields.ensures)
