pub mod Checks
pub mod Remarks
pub mod Lines
