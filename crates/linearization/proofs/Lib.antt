-- The laws of the sequential specification, of entries, of their numbers and of replays.
pub mod Partition
pub mod Entries
pub mod Numbers
pub mod Buffer
pub mod Replay
