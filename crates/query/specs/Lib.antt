-- The counter enquiry: its refusals, its steps and its result; what a host is told; what its inner functions' numbers stand
-- for; cases.
pub mod Query
pub mod Told
pub mod Numbers
pub mod Faithful
pub mod Cases
