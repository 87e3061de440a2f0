-- Lemmas about squares and rays, moves and the value; then colours, scorings and images.
-- Begin with TurnLaws and ValueLaws; docs/architecture.md has the argument.
pub mod BoardLaws
pub mod RayLaws
pub mod SquareLaws
pub mod ListLaws
pub mod TurnLaws
pub mod MoveLaws
pub mod PaintLaws
pub mod CountLaws
pub mod ValueLaws
pub mod BoundLaws
pub mod RangeLaws
pub mod TriedLaws
pub mod MaskLaws
pub mod ColourLaws
pub mod ColourAnswers
pub mod ScoringLaws
pub mod Reorder
pub mod Renaming
pub mod ImageMoves
pub mod ImageValue
pub mod StableLaws
pub mod StableValue
