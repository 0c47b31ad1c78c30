pub mod Numbers
pub mod KeyParts
pub mod NeededAnswers
