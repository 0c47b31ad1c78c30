pub mod Answers
pub mod Shares
pub mod Tables
