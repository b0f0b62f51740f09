pub mod RolesOf
pub mod Found
pub mod Whole
pub mod Framed
pub mod Named
pub mod Cases
pub mod Trees
pub mod Mandatory
