-- Why a line is refused, in words.
use Rattle.std.specs.Prelude.{ℕ, List, ◌++◌, codes}
use Rattle.std.specs.Fmt.{decimal}
use Rattle.obf_text.specs.declared.line_fault.LineFault.{LineFault}
use Rattle.obf_text.specs.declared.line_fault.LineFault.TheVariants.{Short, BadCell, BadSide, Memory}

-- the fault of a line
unfoldable pub line_fault_text : LineFault → List ℕ
line_fault_text (Short found) = codes "board has " ++ (decimal found ++ codes " of 64 squares")
line_fault_text (BadCell column) = codes "bad square at column " ++ decimal column
line_fault_text (BadSide column) = codes "bad side at column " ++ decimal column
line_fault_text Memory = codes "out of memory"

-- a position with `found` empty squares, more than the limit
unfoldable pub too_many_text : ℕ → ℕ → List ℕ
too_many_text found limit = decimal found ++ (codes " empties, limit " ++ decimal limit)
