pub mod Lowering
pub mod Sums
pub mod PairTotals
pub mod Pairs
pub mod TableKept
pub mod Kept
pub mod Inserted
pub mod Lowered
pub mod Outcomes
mod Rows
