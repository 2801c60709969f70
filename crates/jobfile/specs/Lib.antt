-- The job file: its format, what a file means, the file that is written for a job, what the writer is given, what a higher
-- limit of heads keeps, and a table of cases.
pub mod Format
pub mod Meaning
pub mod Written
pub mod Draft
pub mod Admitted
pub mod Kept
pub mod Cases
