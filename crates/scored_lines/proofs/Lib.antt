-- Lemmas about what is written for each line of a list, and that scores are read back.
-- Begin with LineSteps; docs/architecture.md has the argument and the reading order.
pub mod Results
pub mod RemarkSteps
pub mod LeftOut
pub mod SmallClaims
pub mod EntryLines
pub mod LineSteps
pub mod Writable
