-- Lines of OBF text as C reads them, and their statuses.
use Rattle.std.specs.Prelude.{◌≡◌, ◌⊎◌, ◌<◌, ◌++◌, ℕ, ℤ, pos, List, length, take, drop}
use Rattle.othello_rules.specs.declared.discs.Side.{Side}
use Rattle.othello_rules.specs.declared.discs.Side.TheVariants as side
use Rattle.othello_bits.specs.Pos.{discs_of}
use Rattle.obf_text.specs.Fields.{Field}
use Rattle.obf_text.specs.Obf.{Entry, Meaning, Skipped, Holds, Faulty}
use Rattle.obf_text.specs.declared.entries.ListedMove.{ListedMove}
use Rattle.obf_text.specs.declared.entries.ListedMove.TheVariants as listed
use Rattle.ffosolve_c.specs.declared.line.FfosolveLine.{FfosolveLine}
use Rattle.ffosolve_c.specs.declared.listed.FfosolveListed.{FfosolveListed}
use Rattle.ffosolve_c.specs.declared.call_refusal.CallRefusal.TheVariants as refusal
use Rattle.ffosolve_c.specs.CValues.{c_position}
use Rattle.ffosolve_c.specs.Refusals.{call_status, fault_refusal}

-- the side to move: 0 black, 1 white
abbrev pub side_number : Side → ℤ
side_number side.Black = pos 0
side_number side.White = pos 1

-- what a line lists, with the kinds of an answer: 0 a move, 1 a pass, 2 the end of the game; and the
-- square's number, 64 for a pass and for the end of the game
abbrev pub listed_kind : ListedMove → ℤ
listed_kind (listed.At square) = pos 0
listed_kind listed.Pass = pos 1
listed_kind listed.Over = pos 2

abbrev pub listed_square : ListedMove → ℕ
listed_square (listed.At square) = square
listed_square listed.Pass = 64
listed_square listed.Over = 64

abbrev pub c_listed : Field → FfosolveListed
c_listed field =
    record { score = field.1; kind = listed_kind field.0; square = listed_square field.0 }

-- the position of a line, its side to move, and how many moves it lists
abbrev pub c_line : Entry → FfosolveLine
c_line entry = record {
  position = c_position (discs_of entry.position);
  listed = length entry.listed;
  side = side_number entry.position.mover;
}

-- a list of places after values were written to it from the start, as many as fit
abbrev pub written_over : List FfosolveListed → List FfosolveListed → List FfosolveListed
written_over places values = take (length places) values ++ drop (length values) places

-- the status of a line by what it says: 0 a position, or that of its refusal; a line that lists
-- moves may have that of `NoMemory`
abbrev pub IsLineStatus : Meaning → ℤ → Type 0
IsLineStatus Skipped status = status ≡ call_status refusal.Skipped
IsLineStatus (Holds entry) status =
    (status ≡ pos 0) ⊎ ((status ≡ call_status refusal.NoMemory) × (0 < length entry.listed))
IsLineStatus (Faulty fault) status = status ≡ call_status (fault_refusal fault)

-- the status is that of a fault that has a place
abbrev pub IsOfLine : ℤ → Type 0
IsOfLine status = (status ≡ call_status refusal.ShortBoard)
    ⊎ ((status ≡ call_status refusal.BadSquare) ⊎ (status ≡ call_status refusal.BadSide))
