-- Laws of what the job crate defines.
pub mod Refusals
