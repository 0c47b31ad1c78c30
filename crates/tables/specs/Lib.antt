pub mod Tables
pub mod Fits
