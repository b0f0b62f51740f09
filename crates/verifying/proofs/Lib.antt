pub mod Verified
pub mod Failing
pub mod Faulty
