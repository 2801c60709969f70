-- The loop over the grants of a file: its cursor, one turn, and what the whole schedule leaves.
pub mod Turns
