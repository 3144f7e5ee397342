pub mod Pairs
pub mod Saves
pub mod Slots
