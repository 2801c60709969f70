-- What a play leaves, its parts, demand 3 and the laws of every moment on the buffers that it leaves, the cuts of a file, and
-- what jobs of up to 16 heads keep.
pub mod Player
pub mod Parts
pub mod Demand
pub mod Cuts
pub mod Kept
