-- Every play can be printed, reading a little more than the longest job file is enough, and reads stand one behind the other.
pub mod Dock
pub mod Cut
pub mod Reading
