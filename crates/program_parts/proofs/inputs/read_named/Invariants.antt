use Rattle.std.proofs.Common.{◌≡◌, ◌+◌, length, min}
use Rattle.program_settings.specs.declared.limits.TheConstants.{MOST_FILES}
use Rattle.program_parts.proofs.inputs.read_named.Given as goal

-- a text for each name so far, up to one more than a run may have
abbrev pub invariant-loop-name : goal.invariant-loop-name
invariant-loop-name g l = length l.files.items ≡ min (MOST_FILES + 1) l.name-index
