pub mod Doing
pub mod ReadyTasks
pub mod PlacedCalls
pub mod Replays
pub mod ClearHistories
pub mod Ended
pub mod SameRuns
