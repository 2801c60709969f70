-- The laws of the writer: what it is given, the runs that it makes, and the bytes that it stores.
mod Rights
mod Requests
mod Pairs
mod Grants
mod Stores
mod Rows
mod Close
mod Answers
pub mod File
pub mod Inverse
