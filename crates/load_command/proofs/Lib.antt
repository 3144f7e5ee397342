pub mod FaultLaws
pub mod LoadedLaws
pub mod StepLaws
pub mod AlwaysLaws
pub mod TakenLaws
