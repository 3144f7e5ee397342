pub mod Maps
pub mod Requests
pub mod Weights
