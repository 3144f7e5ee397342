pub mod Reading
pub mod Doing
pub mod Batching
pub mod Promise
