-- Histories one after another.
use Rattle.std.proofs.Common.{◌≡◌, List, [], ◌∷◌, ◌++◌, refl}
use Rattle.job_board.specs.declared.steps.Step.{Step}
use Rattle.job_board.specs.declared.steps.Reply.{Reply}
use Rattle.job_board.specs.Senders.{BoardView}
use Rattle.job_board.specs.Steps.{IsLawful, after, AreLawful, after_all}

pub after_all-push : (c : BoardView) (ss : List Step) (rs : List Reply) (s : Step) (r : Reply) → AreLawful c ss rs
    → after_all c (ss ++ s ∷ []) (rs ++ r ∷ []) ≡ after (after_all c ss rs) s r
after_all-push c [] [] s r h = refl
after_all-push c [] (r' ∷ rs) s r h = absurd h
after_all-push c (s' ∷ ss) [] s r h = absurd h
after_all-push c (s' ∷ ss) (r' ∷ rs) s r h = after_all-push (after c s' r') ss rs s r h.1

pub AreLawful-push : (c : BoardView) (ss : List Step) (rs : List Reply) (s : Step) (r : Reply) → AreLawful c ss rs
    → IsLawful (after_all c ss rs) s r → AreLawful c (ss ++ s ∷ []) (rs ++ r ∷ [])
AreLawful-push c [] [] s r h one = (one, tt)
AreLawful-push c [] (r' ∷ rs) s r h one = absurd h
AreLawful-push c (s' ∷ ss) [] s r h one = absurd h
AreLawful-push c (s' ∷ ss) (r' ∷ rs) s r h one = (h.0, AreLawful-push (after c s' r') ss rs s r h.1 one)

pub after_all-append : (c : BoardView) (ss ss' : List Step) (rs rs' : List Reply) → AreLawful c ss rs
    → after_all c (ss ++ ss') (rs ++ rs') ≡ after_all (after_all c ss rs) ss' rs'
after_all-append c [] ss' [] rs' h = refl
after_all-append c [] ss' (r ∷ rs) rs' h = absurd h
after_all-append c (s ∷ ss) ss' [] rs' h = absurd h
after_all-append c (s ∷ ss) ss' (r ∷ rs) rs' h = after_all-append (after c s r) ss ss' rs rs' h.1

pub AreLawful-append : (c : BoardView) (ss ss' : List Step) (rs rs' : List Reply) → AreLawful c ss rs
    → AreLawful (after_all c ss rs) ss' rs' → AreLawful c (ss ++ ss') (rs ++ rs')
AreLawful-append c [] ss' [] rs' h more = more
AreLawful-append c [] ss' (r ∷ rs) rs' h more = absurd h
AreLawful-append c (s ∷ ss) ss' [] rs' h more = absurd h
AreLawful-append c (s ∷ ss) ss' (r ∷ rs) rs' h more = (h.0, AreLawful-append (after c s r) ss ss' rs rs' h.1 more)
