-- One process: the record of a head, a find, and a request's accesses and where each leads.
pub mod Process
pub mod Find
pub mod Access
pub mod Advance
