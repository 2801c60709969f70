-- What the program prints.
pub mod Dock
