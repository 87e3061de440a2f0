-- The masks of an image with the symmetry that leads to it, and which of two is less.
use Rattle.std.specs.Prelude.{ℕ, ◌+◌, ◌*◌, ◌^◌, Bool, nat_lt}
use Rattle.othello_bits.specs.Symmetries.{mask_image}
use Rattle.othello_bits.specs.declared.canonical.Image.{Image}
use Rattle.othello_bits.specs.declared.sym.Sym.{Sym}

-- the masks of the image under symmetry s, with s
abbrev pub image_with : ℕ → ℕ → Sym → Image
image_with own opp s = record { own = mask_image s own; opp = mask_image s opp; sym = s }

-- the pair of its masks as one number
abbrev pub key : Image → ℕ
key x = x.own * 2 ^ 64 + x.opp

-- the pair of x is less than that of y
abbrev pub is_less : Image → Image → Bool
is_less x y = nat_lt (key x) (key y)
