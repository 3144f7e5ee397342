pub mod Lists
pub mod CacheValues
pub mod Codes
pub mod Coherence
pub mod Gets
pub mod Inside
pub mod Examples
