-- The laws behind the enquiry, file by file from the bottom.
pub mod Labels
pub mod Refusal
pub mod Halving
pub mod Grants
pub mod Looks
pub mod Moves
pub mod Copies
pub mod Steps
pub mod Enough
pub mod Faithful
pub mod Padded
pub mod Enquired
pub mod Cases
