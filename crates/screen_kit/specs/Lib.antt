pub mod Collar
pub mod FirstOrders
pub mod Laws
pub mod Repeat
pub mod Screens
pub mod Sets
pub mod Size
