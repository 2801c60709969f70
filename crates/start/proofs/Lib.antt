-- What the loops of the code keep, and the laws of the start on the lent buffers.
pub mod Loops
mod Index
pub mod Start
