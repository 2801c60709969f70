-- What walks by hand reckon with.
pub mod Laid
