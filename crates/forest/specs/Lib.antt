-- The definitions of roots, of the way to a root and of nodes in one set; of groups, their sizes and their lowest places.
pub mod Forest
pub mod Groups
