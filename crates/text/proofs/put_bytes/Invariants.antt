-- `text::put_bytes`: the bytes before the one at hand are written.
use Rattle.std.proofs.Common.{length, take}
use Rattle.text.proofs.Writing.{Through}
use Rattle.text.proofs.put_bytes.Given as goal

abbrev pub invariant-loop-byte : goal.invariant-loop-byte
invariant-loop-byte l = Through (λ k. take k l.fn.bytes) (length l.fn.bytes) l.byte-index l.fn.at l.fn.out l.out l.next
