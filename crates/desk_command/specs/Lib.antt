pub mod Acts
pub mod Doing
pub mod Desking
pub mod Promise
