-- Lemmas about cutting a text and a line, the grammar against the reader, and written lines.
-- Begin with Fronts and OnlyMeaning; docs/architecture.md has the argument.
pub mod LineLemmas
pub mod RoomLemmas
pub mod PartLemmas
pub mod Fronts
pub mod TrimLemmas
pub mod ScoreLemmas
pub mod MoveLemmas
pub mod FieldLemmas
pub mod ListedLemmas
pub mod GreatestLemmas
pub mod OnlyMeaning
pub mod SomeMeaning
pub mod PlaceLemmas
pub mod FrontFaults
pub mod WriterLemmas
pub mod WriteSteps
pub mod WrittenBytes
pub mod WrittenFields
pub mod Reread
pub mod WrittenLines
pub mod PieceLemmas
