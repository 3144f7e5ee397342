pub mod Paid
pub mod Calls
