-- The theory of a table as a labelled forest, file by file from the bottom.
pub mod Forest
pub mod Size
pub mod Merge
pub mod Sound
pub mod Writes
pub mod Halving
pub mod Linking
pub mod Raising
pub mod Later
pub mod Roots
pub mod Low
pub mod Groups
