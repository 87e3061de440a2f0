-- Lemmas about the parts and the outcome of a run.
-- Begin with PartLemmas; docs/architecture.md has the argument and the reading order.
pub mod RunLemmas
pub mod PartLemmas
pub mod JoinLemmas
