-- The rules of document 01: the table, the report, the state, the start, one step, the run and its history; what is promised of it.
pub mod Table
pub mod Report
pub mod State
pub mod Start
pub mod Step
pub mod Action
pub mod Run
pub mod History
pub mod Cases
pub mod Linearized
pub mod Laws
pub mod Waits
pub mod Bounds
pub mod Heads
