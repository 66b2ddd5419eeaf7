pub mod Blocks
pub mod Fronts
pub mod Sums
pub mod Histories
pub mod Arrays
pub mod Reads
pub mod Replayed
pub mod Descent
