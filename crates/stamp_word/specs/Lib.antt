pub mod Word
pub mod Places
pub mod Stepping
pub mod Counting
