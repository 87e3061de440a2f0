pub mod Pos
pub mod Exchanges
pub mod Images
pub mod Lasts
pub mod Shifts
pub mod Symmetries
pub mod Worked
