pub mod Certifying
pub mod Inside
pub mod Blockers
pub mod Forgetting
pub mod Laws
