-- Lemmas about the parts of the programs: the numbers of their options, what they read, and how they end.
-- docs/architecture.md has the argument.
pub mod InputLemmas
pub mod NumberLemmas
pub mod DefaultLemmas
pub mod SettingsLemmas
pub mod EndingLemmas
pub mod OptionLemmas
