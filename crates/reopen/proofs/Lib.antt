mod RecordLaws
mod PieceLaws
mod TableLaws
pub mod StateLaws
mod RowLaws
mod ItemLaws
mod TakeLaws
mod EntryLaws
mod ReadLaws
mod NextLaws
mod LogLaws
mod ThroughLaws
pub mod BehindLaws
pub mod GapLaws
