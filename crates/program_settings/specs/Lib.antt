pub mod Limits
pub mod Version
pub mod Settings
pub mod InputFault
