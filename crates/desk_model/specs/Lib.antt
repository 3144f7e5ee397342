pub mod Events
pub mod Answers
pub mod Desks
pub mod Orders
pub mod Worked
