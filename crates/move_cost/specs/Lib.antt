pub mod Costs
pub mod Lawful
pub mod Worked
