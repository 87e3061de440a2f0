use Rattle.std.proofs.Common.{◌≡◌, map, take}
use Rattle.program_parts.specs.Inputs.{names_of}
use Rattle.program_parts.proofs.settings_args.copy_names.Given as goal

abbrev pub invariant-loop-name : goal.invariant-loop-name
invariant-loop-name l = names_of l.all.items ≡ map (λ name. name.now) (take l.name-index l.names)
