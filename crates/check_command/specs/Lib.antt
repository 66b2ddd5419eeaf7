pub mod Inputs
pub mod Files
pub mod Verdicts
pub mod Gate
