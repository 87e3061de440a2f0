-- Lemmas about the list of a position's moves with their scores: its members and its order.
-- Begin with PutIn and ScoreLaws; docs/architecture.md has the argument.
pub mod PutIn
pub mod ScoreLaws
pub mod EitherSide
pub mod Orders
pub mod GreatestScores
pub mod RankLemmas
