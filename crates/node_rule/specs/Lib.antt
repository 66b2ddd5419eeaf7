pub mod Views
pub mod Sums
pub mod Fronts
pub mod StampPart
pub mod ValuePart
pub mod Steps
pub mod Standing
pub mod Own
