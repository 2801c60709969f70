-- What is checked before a play, the start, the loop over the grants, demand 3 on the buffers, the cuts of a file, and what
-- jobs of up to 16 heads keep.
pub mod Refusals
pub mod Laid
pub mod Along
pub mod Demand
pub mod Cuts
pub mod Kept
