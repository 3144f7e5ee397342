pub mod Pieces
pub mod Copies
pub mod Moves
pub mod Causes
