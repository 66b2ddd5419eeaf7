pub mod Passes
pub mod Rising
pub mod Records
pub mod Handed
pub mod LeastLaws
