-- The eight symmetries of the square (its dihedral group), the images of a position, and the least of them.
use Rattle.std.specs.Prelude.{ℕ, ◌+◌, ◌-◌, ◌*◌, ◌^◌, nat_lt, List, [], ◌∷◌, map}
use Rattle.std.specs.List.{best_of}
use Rattle.othello_rules.specs.declared.discs.Side.TheVariants.{Black}
use Rattle.othello_rules.specs.declared.answer.Best.{Best}
use Rattle.othello_rules.specs.declared.answer.Best.TheVariants.{Moves, Pass, Over}
use Rattle.othello_rules.specs.Board.{square_at, column, row}
use Rattle.othello_rules.specs.Rules.{GridView}
use Rattle.othello_rules.specs.Renamed.{image_by}
use Rattle.othello_rules.specs.Masks.{mask_of, squares_of}
use Rattle.othello_bits.specs.Pos.{PosView, position_of, discs_of}
use Rattle.othello_bits.specs.declared.sym.Sym.{Sym}
use Rattle.othello_bits.specs.declared.sym.Sym.TheVariants.{Identity, FlipColumns, FlipRows, HalfTurn, Transpose, TurnRight, TurnLeft, AntiTranspose}

-- where the square in column c and row r goes
abbrev pub sends : Sym → ℕ → ℕ → ℕ
sends Identity c r = square_at c r
sends FlipColumns c r = square_at (7 - c) r
sends FlipRows c r = square_at c (7 - r)
sends HalfTurn c r = square_at (7 - c) (7 - r)
sends Transpose c r = square_at r c
sends TurnRight c r = square_at (7 - r) c
sends TurnLeft c r = square_at r (7 - c)
sends AntiTranspose c r = square_at (7 - r) (7 - c)

-- where square q goes
abbrev pub target : Sym → ℕ → ℕ
target s q = sends s (column q) (row q)

-- the symmetry that leads back
abbrev pub inverse : Sym → Sym
inverse Identity = Identity
inverse FlipColumns = FlipColumns
inverse FlipRows = FlipRows
inverse HalfTurn = HalfTurn
inverse Transpose = Transpose
inverse TurnRight = TurnLeft
inverse TurnLeft = TurnRight
inverse AntiTranspose = AntiTranspose

-- all but the identity, in their order
unfoldable pub others : List Sym
others = FlipColumns ∷ FlipRows ∷ HalfTurn ∷ Transpose ∷ TurnRight ∷ TurnLeft ∷ AntiTranspose ∷ []

-- all eight in their order
abbrev pub symmetries : List Sym
symmetries = Identity ∷ others

-- the place in that order, from 0
abbrev pub place : Sym → ℕ
place Identity = 0
place FlipColumns = 1
place FlipRows = 2
place HalfTurn = 3
place Transpose = 4
place TurnRight = 5
place TurnLeft = 6
place AntiTranspose = 7

-- the cell of P on a square stands where the symmetry sends that square; the side to move stays
abbrev pub image : Sym → GridView → GridView
image s P = image_by (target (inverse s)) P

-- the mask of the images of the squares of a mask
unfoldable pub mask_image : Sym → ℕ → ℕ
mask_image s m = mask_of (map (target s) (squares_of m))

-- the images of the best moves
abbrev pub best_image : Sym → Best → Best
best_image s (Moves m) = Moves (mask_image s m)
best_image s Pass = Pass
best_image s Over = Over

-- two masks as a pair of numbers, own first, written as one number: each mask is below 2 ^ 64
abbrev pub pair_of : PosView → ℕ
pair_of p = p.own * 2 ^ 64 + p.opp

-- the pair of the mover's mask and the opponent's on an image
abbrev pub image_pair : GridView → Sym → ℕ
image_pair P s = pair_of (discs_of (image s P))

-- the first symmetry whose image has the least pair
unfoldable pub first_symmetry : GridView → Sym
first_symmetry P = best_of (λ s t. nat_lt (image_pair P s) (image_pair P t)) Identity others

-- the canonical position: the image with the least pair
abbrev pub canonical : GridView → GridView
canonical P = image (first_symmetry P) P

-- the image of two masks
unfoldable pub image_of : Sym → PosView → PosView
image_of s p = discs_of (image s (position_of Black p))

-- the canonical position of two masks
unfoldable pub canonical_of : PosView → PosView
canonical_of p = discs_of (canonical (position_of Black p))
