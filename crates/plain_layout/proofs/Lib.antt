pub mod SumSteps
pub mod ChargeSteps
pub mod ChangeLemmas
mod Reading
mod Tables
mod ObjectLaws
