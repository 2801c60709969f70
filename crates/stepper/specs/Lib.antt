-- The lent buffers, how they show a state of the rules, an index of the requests, and what heads wait for.
pub mod Buffers
pub mod Shown
pub mod Index
pub mod Waits
pub mod Halves
