pub mod Upgrading
pub mod Doing
