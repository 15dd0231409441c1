-- The law of a call, for recursive ascent.
pub mod Slots
pub mod Frames
pub mod Handing
pub mod Standing
pub mod Arms
pub mod Cases
pub mod Law
pub mod Turns
pub mod Back
pub mod Stretches
pub mod Shifted
