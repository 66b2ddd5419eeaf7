pub mod Rises
pub mod TakingBack
pub mod NewPasses
pub mod HandCounts
