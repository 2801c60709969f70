-- The cursor is opened, and the grant is the schedule's next.
use Rattle.std.proofs.Common.{refl}
use Rattle.turns.proofs.OneGrant.{turn_openable, turn_left, turn_grantable, turn_turned}
use Rattle.turns.proofs.turn.Goals as goal

pub open_run-cursor-requires : goal.open_run-cursor-requires
open_run-cursor-requires c = turn_openable c.requires

pub grant-granted-requires : goal.grant-granted-requires
grant-granted-requires c =
    turn_grantable c.requires c.open_run-cursor.result c.open_run-cursor.ensures

pub taken-requires : goal.taken-requires
taken-requires c = turn_left c.requires c.open_run-cursor.result c.open_run-cursor.ensures

pub returns : goal.returns
returns c =
    λ origin lent standing. let g = c.grant-granted.ensures origin _ lent standing in
    turn_turned c.requires c.open_run-cursor.result c.open_run-cursor.ensures _ _ origin lent refl c.taken.ensures
    g.buffers g.done
