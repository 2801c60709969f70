-- The definitions of a count, of the numbers counted, and of a sum.
pub mod Count
pub mod Sum
