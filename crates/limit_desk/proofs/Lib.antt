pub mod LimitCalls
pub mod OfficerPosts
pub mod OfficerRows
pub mod OfficerReads
pub mod OfficerSound
pub mod OfficerSteps
pub mod OneAnswer
pub mod TreePosts
