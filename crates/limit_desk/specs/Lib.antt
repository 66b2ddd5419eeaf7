pub mod Hands
pub mod Least
pub mod LeastLaws
pub mod Officers
pub mod OneAnswer
pub mod Posted
pub mod Posting
pub mod Trees
