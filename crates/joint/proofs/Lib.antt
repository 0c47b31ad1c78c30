pub mod Exchanging
pub mod JointProduct
