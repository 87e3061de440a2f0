use Rattle.std.proofs.Common.{map, take}
use Rattle.suite_runs.specs.Outcome.{IsBookOf, tasks_of_views}
use Rattle.suite_runs.specs.Part.{part_view_of}
use Rattle.suite_runs.proofs.solved_files.SolvedFiles.book.Given as goal

abbrev pub invariant-loop-part : goal.invariant-loop-part
invariant-loop-part l = IsBookOf l.self.scoring (tasks_of_views (map part_view_of (take l.part-index l.self.parts.items))) l.book
