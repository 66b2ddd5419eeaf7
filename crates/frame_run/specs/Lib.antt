pub mod Ahead
pub mod Ends
pub mod Frames
pub mod Sinks
pub mod Taking
