pub mod IdleLaws
pub mod DoneLaws
pub mod EndsLaws
pub mod HoldsLaws
pub mod AlwaysLaws
