-- A refusal told, and the cases of limits hold.
mod Refusals
pub mod Cases
