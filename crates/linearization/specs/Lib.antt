-- The sequential specification, and the linearization as a list of entries in a lent buffer.
pub mod Partition
pub mod Entry
