pub mod Draws
pub mod Sizes
pub mod Patterns
pub mod Loads
pub mod Values
pub mod LoadLimits
pub mod Pens
pub mod Summary
