pub mod Heads
pub mod Dumps
pub mod Dumping
pub mod Loading
pub mod Placing
