use Rattle.std.proofs.Common.{◌<◌, length, ap, sym, subst, rules, ◌∙◌}
use Rattle.othello_bits.specs.Symmetries.{mask_image, symmetries}
use Rattle.ffosolve_c.proofs.SymmetryNumbers.{found_is, none_beyond, place_below}
use Rattle.ffosolve_c.proofs.calls.ffosolve_image.Goals as goal

pub returns-in-Some-clause-image : goal.returns-in-Some-clause-image
returns-in-Some-clause-image c s is =
    let found = sym c.numbered_symmetry.ensures ∙ c.in-Some.is in
    c.mask.ensures.value ∙ ap (λ t. mask_image t c.args.mask) (found_is c.args.symmetry c.in-Some.sym s found is)

pub returns-in-None-clause-done : goal.returns-in-None-clause-done
returns-in-None-clause-done c =
    let none = sym c.numbered_symmetry.ensures ∙ c.in-None.is in
    let status = c.status.ensures.number in
    (λ done. absurd (c.status.ensures.not_done (search rules)), λ below. absurd (none_beyond c.args.symmetry none below))

pub returns-in-None-clause-image : goal.returns-in-None-clause-image
returns-in-None-clause-image c s is =
    let none = sym c.numbered_symmetry.ensures ∙ c.in-None.is in
    absurd (none_beyond c.args.symmetry none (subst (λ n. n < length symmetries) (sym is) (place_below s)))
