pub mod Chain
pub mod Powers
