pub mod ScriptFaults
pub mod DatabaseFaults
pub mod ReplayFaults
pub mod Shown
pub mod Fronts
pub mod LabelText
pub mod Accepted
