-- `dock::print_input`: the input has the text of its part in the buffer, since the buffer is longer than every job file.
use Rattle.dock.proofs.Cut.{put_input}
use Rattle.dock.proofs.print_input.Goals as goal

pub returns-clause-put_input : goal.returns-clause-put_input
returns-clause-put_input c = put_input c.args.buffer.now c.args.bytes c.requires.most_bytes_in_bounds c.print_job.ensures
