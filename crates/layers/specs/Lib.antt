pub mod Rows
pub mod Layers
