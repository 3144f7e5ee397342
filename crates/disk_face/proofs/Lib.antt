pub mod FrameLaws
pub mod ImageLaws
pub mod MomentLaws
pub mod WriteLaws
