-- The limits of requests on a number of places, what planners are told of them, and cases of them.
pub mod Bounds
pub mod Told
pub mod Cases
