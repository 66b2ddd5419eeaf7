pub mod Sources
pub mod Cases
pub mod Ways
pub mod OneVerdict
