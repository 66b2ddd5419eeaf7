pub mod Endings
pub mod Fetches
pub mod Splitting
pub mod Stops
pub mod Streaming
