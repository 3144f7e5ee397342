pub mod Asked
pub mod Buffers
pub mod Cells
pub mod Moves
pub mod Paid
pub mod Sessions
