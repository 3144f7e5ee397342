pub mod Asked
pub mod Begins
pub mod Heard
pub mod Tallies
