-- The lemma that covers the table.
pub mod Starred
