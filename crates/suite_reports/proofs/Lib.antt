-- Lemmas about the lines of a text, and about lines that list every best move.
-- Begin with TaskLemmas; docs/architecture.md has the argument and the reading order.
pub mod NameLemmas
pub mod RowLemmas
pub mod TaskLemmas
pub mod EntryLemmas
pub mod CheckLaws
