pub mod GoingLaws
pub mod EndedLaws
pub mod SlicedLaws
pub mod BytesLaws
