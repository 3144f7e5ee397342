pub mod AskedLaws
pub mod WeighedLaws
pub mod MadeLaws
pub mod ChangeLaws
pub mod OtherLaws
pub mod SessionLaws
