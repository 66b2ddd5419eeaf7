pub mod Laws
pub mod Whole
pub mod Sum
pub mod Max
pub mod SumLaws
pub mod MaxLaws
