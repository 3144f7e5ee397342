pub mod Always
pub mod Ends
pub mod Served
pub mod Steps
pub mod Unserved
