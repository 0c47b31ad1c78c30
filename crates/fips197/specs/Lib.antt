-- FIPS-197, "Advanced Encryption Standard", of 26 November 2001: sections and equations are numbered as there.
pub mod Field
pub mod Chain
pub mod State
pub mod Cipher
pub mod KeyExpansion
