-- What the play ends with, and the structs of the play as the laws of `walks` take them.
pub mod Ended
pub mod Structs
