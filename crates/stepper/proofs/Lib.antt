-- Laws of the lent buffers: what each access, row and entry does to what they show.
pub mod Lists
pub mod Shown
pub mod Raisable
pub mod Room
pub mod Seek
pub mod Pairs
pub mod Renewed
pub mod Halves
pub mod Waiting
pub mod Reached
pub mod Served
pub mod Needs
pub mod Parts
pub mod Known
