-- The text of a sheet, which requests a head sees, the call, tables of sheets and calls, what is promised of every sheet and
-- call, the room that a sheet needs, and a sheet from buffers.
pub mod Sheet
pub mod Sight
pub mod Call
pub mod Cases
pub mod Agree
pub mod Room
pub mod Buffers
