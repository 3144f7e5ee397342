pub mod LeftLaws
pub mod ListLaws
pub mod NameLaws
