pub mod Alike
pub mod UpTo
pub mod RuleSteps
pub mod Gathered
pub mod Sent
pub mod Claiming
