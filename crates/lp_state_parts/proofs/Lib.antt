pub mod Parts
pub mod GotoArms
pub mod GotoAnswers
