-- The table that the program asks about.
pub mod Chain
