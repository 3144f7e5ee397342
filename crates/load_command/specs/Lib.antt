pub mod Ends
pub mod Loading
pub mod Doing
