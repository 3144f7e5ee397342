pub mod LastLaws
pub mod KeepLaws
pub mod WentLaws
pub mod ScriptLaws
pub mod ReachLaws
pub mod DoneLaws
pub mod AlwaysLaws
pub mod HoldsLaws
