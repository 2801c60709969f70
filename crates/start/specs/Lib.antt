-- What stands before the first grant.
pub mod Start
