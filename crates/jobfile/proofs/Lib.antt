-- The laws of job files: what a refusal of 0 says, what a higher limit of heads keeps, how records follow one another, runs,
-- and the round trips.
pub mod KindNumbers
pub mod Refusals
pub mod Records
pub mod Kept
pub mod Chains
pub mod Rights
pub mod Requests
pub mod Pairs
pub mod Runs
pub mod Passed
pub mod Layouts
pub mod Forward
pub mod Backward
pub mod Drafts
pub mod RoundTrip
pub mod Places
pub mod Cuts
mod Cases
