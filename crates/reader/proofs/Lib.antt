-- The laws behind the reader: the loops over sections, the checks in their order, and the records of a file that is played.
mod Loops
mod Checks
pub mod Playing
