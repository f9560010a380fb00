pub mod Refusals
pub mod Edges
pub mod Case
pub mod Random1
pub mod Random2
pub mod Random3
pub mod Random4
pub mod Random5
