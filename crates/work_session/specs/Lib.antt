pub mod Counts
pub mod Works
pub mod Jobs
pub mod Servers
