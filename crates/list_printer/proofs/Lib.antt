-- Lemmas about chunks of whole lines, and about those that are started and printed in their order.
-- docs/architecture.md has the argument and the reading order.
pub mod ChunkLemmas
pub mod OutputSteps
