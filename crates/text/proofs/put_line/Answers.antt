-- `text::put_line`: the name, the numbers, the line feed.
use Rattle.text.specs.Text.{line}
use Rattle.text.proofs.Writing.{wrote_append}
use Rattle.text.proofs.put_line.Goals as goal

pub returns : goal.returns
unfolding line
returns c = wrote_append c.put_bytes-named.ensures (wrote_append c.put_fields-numbered.ensures c.put_byte.ensures)
