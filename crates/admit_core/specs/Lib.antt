pub mod Hands
pub mod Tapes
pub mod Legs
pub mod Asking
pub mod Admission
pub mod Lowering
pub mod Admitted
pub mod Slices
