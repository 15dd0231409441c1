pub mod AscentTrials
pub mod AscentReductions
pub mod AscentStarts
pub mod AscentMoves
pub mod AscentArms
pub mod AscentErrors
pub mod AscentGotos
pub mod AscentStates
