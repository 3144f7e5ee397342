mod GettingLaws
mod DumpedLaws
mod LooksLaws
mod AnswerLaws
mod EmptyLaws
mod Formatting
mod TextLaws
mod GatherLaws
mod MapLaws
pub mod DumpableLaws
