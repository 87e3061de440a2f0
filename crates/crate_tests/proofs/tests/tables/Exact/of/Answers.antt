use Rattle.std.proofs.Common.{◌≡◌, ℤ, Some, Option, IfSome, rules, SFits, w8, to_z, of_z}
use Rattle.std.specs.Int.Signed.{≤ℤ_refl}
use Rattle.std.proofs.lemmas.Int.{to_z-of_z}
use Rattle.othello_rules.specs.declared.discs.Side.TheVariants.{Black}
use Rattle.othello_rules.specs.declared.scoring.Scoring.TheVariants.{Winner}
use Rattle.othello_rules.specs.Rules.{GridView}
use Rattle.othello_rules.specs.Value as worth
use Rattle.othello_bits.specs.Pos.{PosView, position_of, value_of}
use Rattle.bound_table.specs.Range.{RangeView, range_view, IsTrueOf}
use Rattle.crate_tests.proofs.tests.tables.Exact.of.Goals as goal

-- the range from the value to the value is true of the position
exact_is_true : (p : PosView) (grid : GridView) (z : ℤ) (made : Option RangeView) (range : RangeView) → SFits w8 z
    → z ≡ worth.value Winner grid → grid ≡ position_of Black p → made ≡ Some range
    → IfSome made (λ r. r ≡ range_view (to_z w8 (of_z w8 z)) (to_z w8 (of_z w8 z))) → IsTrueOf Winner p range
unfolding value_of
exact_is_true p grid z made range f v b m i =
    let is : range ≡ range_view (to_z w8 (of_z w8 z)) (to_z w8 (of_z w8 z)) = rw m at i in
    let value = worth.value Winner (position_of Black p) in
    rw (is, to_z-of_z w8 z f, v, b) (≤ℤ_refl value, ≤ℤ_refl value)

pub invariant_of-result : goal.invariant_of-result
invariant_of-result g c =
    let fits : SFits w8 c.plain_value-value.result = search rules in
    record {
      is_true =
          exact_is_true c.expect-position.result c.to_grid.result c.plain_value-value.result c.new-2.result
          c.unwrap-range.result fits c.plain_value-value.ensures.value c.to_grid.ensures c.unwrap-range.ensures c.new-2.ensures.value;
    }
