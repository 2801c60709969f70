-- The laws of the group page.
mod Gathering
mod Rows
mod Columns
pub mod Pages
pub mod Planning
mod Ruling
pub mod Grouping
pub mod Paging
mod Cases
pub mod Structs
