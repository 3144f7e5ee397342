pub mod Shelves
pub mod Counts
pub mod Lifts
pub mod Packs
pub mod Lays
