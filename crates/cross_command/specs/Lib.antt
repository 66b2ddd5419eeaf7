pub mod Rules
pub mod History
pub mod Crossed
pub mod Forest
pub mod Finish
pub mod Replayed
