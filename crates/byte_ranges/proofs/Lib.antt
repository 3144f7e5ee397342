pub mod ListLaws
pub mod PieceLaws
pub mod RangeLaws
