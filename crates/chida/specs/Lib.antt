pub mod Inversion
pub mod Positions
