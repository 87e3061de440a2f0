-- The canonical position has the value of the position, so a range that is true of one is true of both.
use Rattle.std.proofs.Common.{◌≡◌, ◌∙◌, ap, Some, None, Option, IfSome}
use Rattle.std.specs.Option.{SomeIff}
use Rattle.othello_rules.specs.declared.discs.Side.TheVariants.{Black}
use Rattle.othello_rules.specs.declared.scoring.Scoring.{Scoring}
use Rattle.othello_bits.specs.Pos.{PosView, position_of, value_of}
use Rattle.othello_bits.specs.Symmetries.{first_symmetry, canonical_of}
use Rattle.othello_bits.proofs.ImageLaws.{canonical_of-is, canonical_of-image_of, value_of-image_of}
use Rattle.bound_table.specs.Range.{RangeView, IsTrueOf}
use Rattle.bound_table.specs.Table.{IsKnown}

value_of-canonical_of : (g : Scoring) (p : PosView) → value_of g (canonical_of p) ≡ value_of g p
value_of-canonical_of g p = ap (value_of g) (canonical_of-is p) ∙ value_of-image_of g (first_symmetry (position_of Black p)) p

canonical_of-canonical_of : (p : PosView) → canonical_of (canonical_of p) ≡ canonical_of p
canonical_of-canonical_of p = ap canonical_of (canonical_of-is p) ∙ canonical_of-image_of (first_symmetry (position_of Black p)) p

-- a range that is true of p is known of its canonical position
pub known_of_canonical : (g : Scoring) (p : PosView) (range : RangeView) → IsTrueOf g p range → IsKnown g (canonical_of p) range
known_of_canonical g p range holds = record {
  canonical = canonical_of-canonical_of p;
  holds = rw (value_of-canonical_of g p) holds;
}

-- what is known of q is shown of p only where q is the canonical position of p
pub shown_of_canonical : (shown : Option RangeView) (g : Scoring) (p q : PosView) (range : RangeView)
    → SomeIff shown (q ≡ canonical_of p) range → IsKnown g q range → IfSome shown (IsTrueOf g p)
shown_of_canonical None g p q range is known = tt
shown_of_canonical (Some r) g p q range (same, is) known = rw (is, ← value_of-canonical_of g p, ← same) known.holds
