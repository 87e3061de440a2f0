use Rattle.std.proofs.Common.{◌≡◌, map, take}
use Rattle.program_settings.specs.Settings.{criteria_of}
use Rattle.suite_runs.specs.Part.{part_view, part_view_of}
use Rattle.obf_text.specs.LineText.{texts_of}
use Rattle.suite_runs.proofs.serial.solve_files_serially.Given as goal

abbrev pub invariant-loop-file : goal.invariant-loop-file
invariant-loop-file l =
    map part_view_of l.parts.items ≡ map (part_view l.settings.scoring (criteria_of l.settings)) (texts_of (take l.file-index l.files))
