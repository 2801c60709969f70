-- Laws of a process.
pub mod Ended
