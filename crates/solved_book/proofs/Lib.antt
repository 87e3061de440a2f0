-- Lemmas about the entries of a book, the loop that reads one, and its text read back.
-- Begin with KeptEntries and ClaimSteps; docs/architecture.md has the argument.
pub mod MaskSteps
pub mod KeptEntries
pub mod CanonicalAnswers
pub mod ClaimSteps
pub mod ListedAnswers
pub mod RoundTrip
pub mod OneOrder
pub mod LineLaws
pub mod BookTexts
pub mod Parts
pub mod LineSteps
