-- The laws behind what reader and writer share: words and their sum.
mod Sums
