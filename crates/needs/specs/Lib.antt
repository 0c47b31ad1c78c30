pub mod Needs
pub mod Needed
pub mod Keys
