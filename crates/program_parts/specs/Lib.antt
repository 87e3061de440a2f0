pub mod Inputs
pub mod CommandLine
pub mod Cause
pub mod ProgramError
pub mod Endings
