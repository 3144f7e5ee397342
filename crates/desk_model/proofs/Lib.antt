pub mod TextLaws
pub mod ServedLaws
pub mod RunLaws
pub mod PlayLaws
pub mod OrderLaws
pub mod StepLaws
mod WorkedLaws
