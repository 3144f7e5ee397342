pub mod ListLaws
pub mod AnswerLaws
pub mod CoherenceLaws
mod GetLaws
pub mod DropLaws
