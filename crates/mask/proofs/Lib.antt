-- The laws of masks that other crates cite.
pub mod Laws
