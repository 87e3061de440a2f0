-- A range of scores, kept for the canonical position and shown for each of its images.
-- docs/architecture.md has the argument: most of it is the type of an entry's slot, not a lemma.
pub mod CanonicalRanges
