use Rattle.std.proofs.Common.{refl}
use Rattle.std.proofs.lemmas.Bool.{both_ways, false≢true}
use Rattle.othello_rules.specs.Rules as rules
use Rattle.othello_bits.specs.Pos.{position_of}
use Rattle.othello_bits.proofs.MaskMeaning.{a_move, idle, moving, no_move}
use Rattle.othello_bits.proofs.pos.Pos.play.Goals as goal

pub returns-then-flips-eq0-clause-legal : goal.returns-then-flips-eq0-clause-legal
returns-then-flips-eq0-clause-legal c = λ s. (
  λ e. absurd (false≢true e),
  λ m. absurd
      (both_ways (rules.is_move (position_of s c.args.self) c.args.square)
      (idle c.args.self c.args.square c.flips-flips.result c.flips-flips.type_inv c.flips-flips.ensures.squares s c.if-flips-eq0.true) m),
)

pub returns-then-flips-eq0-clause-when : goal.returns-then-flips-eq0-clause-when
returns-then-flips-eq0-clause-when c = (
  λ e. absurd (false≢true e),
  λ m. absurd (no_move c.args.self c.args.square c.flips-flips.result c.flips-flips.type_inv c.flips-flips.ensures.squares c.if-flips-eq0.true m),
)

pub after-requires-clause-legal : goal.after-requires-clause-legal
after-requires-clause-legal c = a_move c.args.self c.args.square c.flips-flips.result c.flips-flips.type_inv c.flips-flips.ensures.squares c.if-flips-eq0.false

pub returns-clause-legal : goal.returns-clause-legal
returns-clause-legal c =
    λ s. (λ e. moving c.args.self c.args.square c.flips-flips.result c.flips-flips.type_inv c.flips-flips.ensures.squares s c.if-flips-eq0.false, λ m. refl)

pub returns-clause-when : goal.returns-clause-when
returns-clause-when c =
    (λ e. a_move c.args.self c.args.square c.flips-flips.result c.flips-flips.type_inv c.flips-flips.ensures.squares c.if-flips-eq0.false, λ m. refl)

pub returns-clause-meaning : goal.returns-clause-meaning
returns-clause-meaning c = c.after.ensures.meaning

pub returns-clause-value : goal.returns-clause-value
returns-clause-value c = c.after.ensures.value
