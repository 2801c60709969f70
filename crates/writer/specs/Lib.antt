-- The writer of job files: its answer, what it leaves in the lent buffer, and that it is the reader's inverse.
pub mod Write
pub mod Inverse
