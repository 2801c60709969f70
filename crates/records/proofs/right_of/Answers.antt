-- `right_of`: the head's record stands in its place.
use Rattle.std.proofs.Common.{ap, ◌∙◌, drop}
use Rattle.jobfile.specs.Meaning.{right_at}
use Rattle.records.proofs.Fields.{right_stood}
use Rattle.records.proofs.right_of.Goals as goal

pub returns : goal.returns
returns c =
    right_stood c.requires c.args.head _ c.if-rights-head.false
    (c.right_here.ensures ∙ ap (λ at. right_at (drop at c.args.file.now)) c.right_place.ensures)
