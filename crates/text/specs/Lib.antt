-- Texts, and what writing one leaves in a lent buffer.
pub mod Text
pub mod Writing
