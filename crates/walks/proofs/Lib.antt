-- The laws of walks by hand, file by file from the bottom.
pub mod Setting
pub mod Carried
pub mod Again
pub mod Stored
pub mod Copied
pub mod Shared
pub mod Context
pub mod Frame
pub mod Places
pub mod Slices
