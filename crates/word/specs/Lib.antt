-- The definitions of words, ranks, parents and the order of nodes.
pub mod Word
