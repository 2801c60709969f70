-- The laws of a table: its words and its nodes, those that are admitted, the walk to a root; one access, and why a head's
-- access is inside.
pub mod Words
pub mod Admitted
pub mod Groups
mod Roots
mod Accesses
pub mod Within
