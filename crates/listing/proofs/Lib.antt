mod Laws
pub mod ListingSizes
