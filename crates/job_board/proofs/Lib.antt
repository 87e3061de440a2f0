-- Lemmas about what each step keeps of a board, and the laws of histories and of clients.
-- Begin with BoardFacts and StateSteps; docs/architecture.md has the argument.
pub mod BoardFacts
pub mod Deliveries
pub mod HistoryFacts
pub mod HistoryCalls
pub mod HistoryAppends
pub mod ServiceFacts
pub mod SharedFacts
pub mod StateSteps
pub mod TraceFacts
