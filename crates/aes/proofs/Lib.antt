pub mod RunFits
pub mod RunSteps
pub mod Rounds
