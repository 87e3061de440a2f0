-- The output for lines, which the threads of chunks give, and how much of it is printed.
use Rattle.std.specs.Prelude.{◌≡◌, ◌&&◌, ◌++◌, ◌∷◌, [], ℕ, List, Bool, true, Option, Result, IfOk}
use Rattle.std.specs.declared.alloc.AllocError.{AllocError}
use Rattle.othello_rules.specs.declared.scoring.Scoring.{Scoring}
use Rattle.obf_text.specs.LineText.{lines_of}
use Rattle.scored_lines.specs.Lines.{are_right, lines_text, lists_right, lists_text}
use Rattle.program_settings.specs.declared.criteria.Criteria.{Criteria}
use Rattle.scored_lines.specs.declared.lines.LinesText.{LinesText}
use Rattle.written_bytes.specs.WrittenBytes.{WritesBefore}
use Rattle.list_printer.specs.declared.chunk_threads.ChunkPromise.{ChunkPromise}

-- the text that is printed for some lines, and whether these lines are right
pub record Output : Type 0 where
  pub text : List ℕ
  pub right : Bool

-- one output, and another after it
abbrev pub both : Output → Output → Output
both a b = record { text = a.text ++ b.text; right = a.right && b.right }

-- the outputs of chunks, one after the other
unfoldable pub chunks_output : List Output → Output
chunks_output [] = record { text = []; right = true }
chunks_output (chunk ∷ chunks) = both chunk (chunks_output chunks)

-- what is left to print of queued chunks, where `right` says whether the printed lines are right
abbrev pub queue_output : Bool → List Output → Output
queue_output right chunks = both (record { text = []; right = right }) (chunks_output chunks)

-- the output for lines
abbrev pub lines_output : Scoring → Criteria → List (List ℕ) → Output
lines_output g by lines = record { text = lines_text g by lines; right = are_right g by lines }

-- the output for the lines of a text
abbrev pub text_output : Scoring → Criteria → List ℕ → Output
text_output g by text = lines_output g by (lines_of text)

-- the output for the lines of texts, one after the other
abbrev pub lists_output : Scoring → Criteria → List (List ℕ) → Output
lists_output g by texts = record { text = lists_text g by texts; right = lists_right g by texts }

-- the result is this output; or memory was refused
abbrev pub HasOutput : Output → Result LinesText AllocError → Type 0
HasOutput output r = IfOk r (λ found. (found.bytes.items ≡ output.text) × (found.right ≡ output.right))

-- the output that a chunk's thread promises
abbrev pub promised_output : ChunkPromise → Output
promised_output promise = text_output promise.scoring promise.criteria promise.text.now

-- Of the output `before`, a front is printed, and `after` is left to print.
pub record PrintsPart (old new : Option (List ℕ)) (before after : Output) : Type 0 where
  pub written : WritesBefore old new after.text before.text
  pub verdict : after.right ≡ before.right
