use Rattle.std.proofs.Common.{◌≡◌, Contains, take}
use Rattle.std.specs.Prelude.{◌↔◌, ◌⊎◌}
use Rattle.othello_bits.specs.Pos.{PosView}
use Rattle.suite_runs.specs.Outcome.{canonicals}
use Rattle.suite_runs.proofs.solved_files.add_all.Given as goal

-- the book holds what it held, and the canonical positions of what was added so far
abbrev pub invariant-loop-one : goal.invariant-loop-one
invariant-loop-one l = record {
  scoring : l.book.scoring ≡ l.initial.book.scoring;
  holds : (p : PosView) → Contains l.book.positions p ↔ (Contains l.initial.book.positions p ⊎ Contains (canonicals (take l.one-index l.solved)) p);
}
