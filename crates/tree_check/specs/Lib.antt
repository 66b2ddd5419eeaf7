pub mod Reads
pub mod Walked
pub mod Staying
pub mod Buckets
pub mod Agreeing
