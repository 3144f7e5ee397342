pub mod CutLaws
pub mod HeadLaws
pub mod TextLaws
pub mod ReadLaws
pub mod WriteLaws
mod PutLaws
mod GatherLaws
mod FillLaws
mod SoundLaws
pub mod SumLaws
pub mod FirstLaws
mod DumpLaws
