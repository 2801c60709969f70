-- The group page: rows, the page made from them, the call's outcome, what a host is told, what holds of it, cases; what the code
-- gathers and writes.
pub mod Rows
pub mod Page
pub mod Written
pub mod Told
pub mod Grouped
pub mod Gathered
pub mod Cases
