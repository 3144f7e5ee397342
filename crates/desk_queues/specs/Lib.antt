pub mod Queues
pub mod Taken
pub mod Inside
