pub mod Order
pub mod Books
pub mod Listing
pub mod Claims
pub mod Reading
pub mod Texts
pub mod Faults
