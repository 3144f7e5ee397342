pub mod Changes
pub mod Histories
pub mod Lawful
