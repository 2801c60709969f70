-- Laws of the cursor, of the tally and of one turn, and the invariant of the loop.
pub mod Runs
pub mod Counters
pub mod OneGrant
pub mod Going
