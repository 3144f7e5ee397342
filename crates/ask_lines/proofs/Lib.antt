mod AheadLemmas
mod PieceLemmas
pub mod LineLaws
