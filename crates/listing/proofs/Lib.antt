-- The laws of the listing, and its cases.
pub mod Listing
pub mod Cases
pub mod Rows
