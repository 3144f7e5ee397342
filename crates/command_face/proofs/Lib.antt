pub mod StatusLaws
pub mod UnopenedLaws
pub mod MountLaws
pub mod StatusEnds
pub mod EndedLaws
