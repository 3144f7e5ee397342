pub mod CostLaws
