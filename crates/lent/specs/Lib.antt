-- A play on a lent tally: what stands before the first grant, one grant on the lent buffers, and the tally at the end.
pub mod Lent
