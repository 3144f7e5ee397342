mod FlushBeginLaws
mod ListedLaws
mod VolumeLemmas
