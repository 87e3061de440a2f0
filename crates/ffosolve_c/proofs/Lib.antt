-- The loop that looks for the first position of a list that is refused.
-- docs/architecture.md has the argument of this crate's contracts.
pub mod FirstRefused
-- What the call that reads a line returns.
pub mod LineMeaning
-- The symmetry that a number finds.
pub mod SymmetryNumbers
