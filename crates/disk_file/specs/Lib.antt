pub mod Hosts
pub mod Parts
pub mod Mounted
pub mod Bays
pub mod Streams
pub mod Words
