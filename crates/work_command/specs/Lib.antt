pub mod Summaries
pub mod Asked
pub mod Working
pub mod Steps
