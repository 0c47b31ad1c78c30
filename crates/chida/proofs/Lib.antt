pub mod ChainBy
pub mod OpensInversion
pub mod Cut
pub mod Positions
pub mod InversionLayer
pub mod Turns
