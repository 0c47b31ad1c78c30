pub mod PartMaps
pub mod SubChunks
pub mod Alphas
pub mod Stepping
pub mod Numbers
