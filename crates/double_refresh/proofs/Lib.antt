pub mod Attempts
pub mod Standings
