use Rattle.std.proofs.Common.{◌≡◌, ◌≤◌, length, map, take, vec_len, vec_capacity}
use Rattle.program_settings.specs.Settings.{criteria_of}
use Rattle.suite_runs.specs.Part.{part_view}
use Rattle.suite_runs.specs.Threads.{promised_part}
use Rattle.obf_text.specs.LineText.{texts_of}
use Rattle.suite_runs.proofs.threads.solve_in_scope.Given as goal

abbrev pub invariant-loop-file : goal.invariant-loop-file
invariant-loop-file g l = record {
  sender : l.sender ≡ l.file-index;
  room : length l.files ≤ vec_capacity l.clients;
  count : vec_len l.clients ≡ l.file-index;
  started : map promised_part l.clients.items
      ≡ map (part_view l.crew.shared.now.table.scoring (criteria_of l.crew.shared.now.settings)) (texts_of (take l.file-index l.files));
}
