-- The seen numbers, the entries that a sheet shows, the texts, and the promises; the numbering, the text from buffers, what a
-- play leaves, the call and what is promised of it, the room; the tables.
pub mod Numbers
pub mod Entries
pub mod Texts
pub mod Sheets
pub mod Accepted
pub mod Numbered
pub mod Buffers
pub mod Played
pub mod Call
pub mod Calls
pub mod Room
mod Cases
