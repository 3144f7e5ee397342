pub mod Cuts
mod AskLemmas
pub mod AskLaws
pub mod InputLaws
pub mod ReplyLaws
