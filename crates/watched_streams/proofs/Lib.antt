pub mod BeginsLaws
pub mod TallyLemmas
