pub mod Filled
pub mod Fits
pub mod OpensProduct
