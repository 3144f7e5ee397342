pub mod Causes
pub mod Faults
pub mod Images
pub mod Loaded
pub mod Saved
pub mod Standing
pub mod Steps
pub mod Weights
