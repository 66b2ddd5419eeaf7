pub mod Calls
pub mod Hands
pub mod History
pub mod Kept
pub mod Plain
pub mod Tree
