pub mod AnswerLaws
mod BodyLaws
mod CauseLaws
mod FillLaws
mod FirstLaws
pub mod ImageLaws
mod LaidLaws
mod LoadLaws
mod LoopLaws
mod MapLaws
mod NextLaws
mod ObjectLaws
mod PlaceLaws
mod SaveLaws
mod SpotLaws
mod StopLaws
mod WeightLaws
