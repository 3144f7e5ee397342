pub mod SearchLaws
pub mod TouchLaws
pub mod JoinLaws
