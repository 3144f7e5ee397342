pub mod Plain
pub mod Firsts
pub mod Changes
pub mod Objects
pub mod Opened
pub mod Refusals
