pub mod Getting
pub mod Texts
pub mod Worked
pub mod Formatting
pub mod Dumped
