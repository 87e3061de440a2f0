-- The lines that report the progress of a run, and when one is due.
use Rattle.std.specs.Prelude.{◌≢◌, ◌+◌, ◌/◌, ◌≤◌, ℕ, List, [], ◌∷◌, ◌++◌, Option, Some, None, codes}
use Rattle.std.specs.Duration.{as_nanos}
use Rattle.std.specs.Fmt.{decimal}
use Rattle.suite_solver.specs.declared.progress.Progress.{Progress}

-- how many positions there are in all, if that is known
unfoldable pub total_text : Option ℕ → List ℕ
total_text None = []
total_text (Some total) = codes " of " ++ decimal total

unfoldable pub progress_text : ℕ → Option ℕ → ℕ → List ℕ
progress_text solved total seconds =
    codes "ffosolve: solved " ++ (decimal solved ++ (total_text total
    ++ (codes " in " ++ (decimal seconds ++ (codes " s" ++ 10 ∷ [])))))

-- the line of a progress, in whole seconds
abbrev pub progress_line : Progress → List ℕ
progress_line p = progress_text p.solved p.total (as_nanos p.elapsed / 1000000000)

-- A line is due: five seconds, in nanoseconds, have passed since the last line, and not all
-- positions are solved. That all are solved is said by the line at the end.
pub record IsDue (last : ℕ) (p : Progress) : Type 0 where
  pub later : last + 5000000000 ≤ as_nanos p.elapsed
  pub unsolved : p.total ≢ Some p.solved
