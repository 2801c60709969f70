-- The listing of a played job: its text, refusal 14 where a buffer is too short for it, and a table of cases.
pub mod Listing
pub mod Cases
