-- A table that a host lends, what is admitted, its groups; what an access asks of a table (what it sees and leaves: `rules/specs/Table`).
pub mod Admitted
pub mod Touch
pub mod Groups
