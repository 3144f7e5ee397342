pub mod RefusedLaws
pub mod OpeningLaws
pub mod OverLaws
pub mod ShownLaws
pub mod FoundLaws
pub mod StepsLaws
pub mod StartLaws
pub mod AlwaysLaws
