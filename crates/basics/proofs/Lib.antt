-- General lemmas by subject.
pub mod Conditions
pub mod Lists
pub mod Counts
pub mod Passing
pub mod Sums
pub mod Taken
