-- What is asked of a file where one of its records is read.
pub mod Records
