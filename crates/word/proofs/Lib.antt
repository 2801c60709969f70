-- The laws of words that other crates cite.
pub mod Laws
