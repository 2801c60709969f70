-- The laws behind one record of a file: its numbers, by the bytes that they are read from.
mod Fields
