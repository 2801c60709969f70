-- The definitions of a mask of flags and its count.
pub mod Mask
