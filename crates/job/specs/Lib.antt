-- The definitions that every other crate shares: what a job is.
pub mod Job
pub mod Refusal
pub mod Played
pub mod Kinds
