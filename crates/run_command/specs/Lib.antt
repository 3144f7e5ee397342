pub mod Headline
pub mod Sessions
