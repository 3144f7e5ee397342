pub mod Refusals
pub mod Records
pub mod Tables
pub mod Loads
pub mod Logs
pub mod Items
pub mod Entries
