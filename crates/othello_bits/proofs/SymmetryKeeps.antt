-- The eight symmetries keep rays, by tests that compute.
use Rattle.std.proofs.Common.{◌≡◌, Bool, true, eqb, refl, arith}
use Rattle.std.specs.List.{Contains, list_any, list_all}
use Rattle.std.proofs.lemmas.Bool.{agree_below, agree_below_at, eqb-true}
use Rattle.othello_rules.specs.Board.{squares, directions, ray}
use Rattle.othello_rules.specs.Rules.{GridView}
use Rattle.othello_rules.proofs.Reorder.{same_list, without, reordered, member-list_any, list_all-member}
use Rattle.othello_rules.proofs.Renaming.{Keeps, Keeps-from_tests, Renaming, image_by-image_by}
use Rattle.othello_bits.specs.Symmetries.{target, inverse, image, others, symmetries}
use Rattle.othello_bits.specs.declared.sym.Sym.{Sym}
use Rattle.othello_bits.specs.declared.sym.Sym.TheVariants.{Identity, FlipColumns, FlipRows, HalfTurn, Transpose, TurnRight, TurnLeft, AntiTranspose}

pub kept : (s : Sym) → Keeps (target s) (target (inverse s))
unfolding ray directions squares same_list without reordered
kept Identity = Keeps-from_tests (target Identity) (target Identity) refl refl
kept FlipColumns = Keeps-from_tests (target FlipColumns) (target FlipColumns) refl refl
kept FlipRows = Keeps-from_tests (target FlipRows) (target FlipRows) refl refl
kept HalfTurn = Keeps-from_tests (target HalfTurn) (target HalfTurn) refl refl
kept Transpose = Keeps-from_tests (target Transpose) (target Transpose) refl refl
kept TurnRight = Keeps-from_tests (target TurnRight) (target TurnLeft) refl refl
kept TurnLeft = Keeps-from_tests (target TurnLeft) (target TurnRight) refl refl
kept AntiTranspose = Keeps-from_tests (target AntiTranspose) (target AntiTranspose) refl refl

pub kept_back : (s : Sym) → Keeps (target (inverse s)) (target s)
kept_back Identity = kept Identity
kept_back FlipColumns = kept FlipColumns
kept_back FlipRows = kept FlipRows
kept_back HalfTurn = kept HalfTurn
kept_back Transpose = kept Transpose
kept_back TurnRight = kept TurnLeft
kept_back TurnLeft = kept TurnRight
kept_back AntiTranspose = kept AntiTranspose

abbrev pub renaming : Sym → Renaming
renaming s = record { to = target s; back = target (inverse s); there = kept s; here = kept_back s }

pub inverse-inverse : (s : Sym) → inverse (inverse s) ≡ s
inverse-inverse Identity = refl
inverse-inverse FlipColumns = refl
inverse-inverse FlipRows = refl
inverse-inverse HalfTurn = refl
inverse-inverse Transpose = refl
inverse-inverse TurnRight = refl
inverse-inverse TurnLeft = refl
inverse-inverse AntiTranspose = refl

Contains-symmetries : (s : Sym) → Contains symmetries s
unfolding others
Contains-symmetries Identity = (0, omega arith, refl)
Contains-symmetries FlipColumns = (1, omega arith, refl)
Contains-symmetries FlipRows = (2, omega arith, refl)
Contains-symmetries HalfTurn = (3, omega arith, refl)
Contains-symmetries Transpose = (4, omega arith, refl)
Contains-symmetries TurnRight = (5, omega arith, refl)
Contains-symmetries TurnLeft = (6, omega arith, refl)
Contains-symmetries AntiTranspose = (7, omega arith, refl)

-- each symmetry after another is one of the eight
abbrev composes : Sym → Sym → Sym → Bool
composes s t u = agree_below (λ q. eqb (target (inverse t) (target (inverse s) q)) (target (inverse u) q)) (λ q. true) 64

composed : (s t : Sym) → (u : Sym) × Contains symmetries u × (composes s t u ≡ true)
unfolding others
composed s t =
    member-list_any (composes s t) symmetries
    (list_all-member (λ t. list_any (composes s t) symmetries) symmetries t
    (list_all-member (λ s. list_all (λ t. list_any (composes s t) symmetries) symmetries) symmetries s refl (Contains-symmetries s))
    (Contains-symmetries t))

pub image-image : (s t : Sym) → (u : Sym) × ((P : GridView) → image s (image t P) ≡ image u P)
image-image s t =
    let c : (u : Sym) × Contains symmetries u × (composes s t u ≡ true) = composed s t in (
      c.0,
      λ P. image_by-image_by (target (inverse s)) (target (inverse t)) (target (inverse c.0)) P (kept_back s).on_board
          (λ q b. eqb-true (target (inverse t) (target (inverse s) q)) (target (inverse c.0) q)
          (agree_below_at (λ q. eqb (target (inverse t) (target (inverse s) q)) (target (inverse c.0) q)) (λ q. true) 64 q c.2 b)),
    )
