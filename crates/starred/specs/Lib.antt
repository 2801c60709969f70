-- The starred cases of document 01, as one table.
pub mod Starred
