pub mod Mounting
pub mod Refusing
pub mod Faults
pub mod Outcomes
pub mod Layers
pub mod Lines
