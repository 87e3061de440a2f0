-- Claims that are kept under the masks of their positions, and the steps of the loop that reads them.
use Rattle.std.proofs.Common.{◌≡◌, ℕ, ◌+◌, ◌-◌, ◌≤◌, List, [], ◌∷◌, ◌++◌, map, length, suc, refl, ap, sym, ◌∙◌, true}
use Rattle.std.proofs.Common.{false, Bool, cond, Option, Some, None, arith}
use Rattle.std.specs.Prelude.{option_map, Result, Ok, Err}
use Rattle.std.specs.BTreeMap.{insert_entry}
use Rattle.std.specs.Map.{lookup}
use Rattle.std.specs.Ordering.{is_eq, is_gt, match_ordering, ordering_reverse}
use Rattle.std.specs.declared.cmp.Ordering.{Ordering}
use Rattle.std.specs.declared.cmp.Ordering.TheVariants.{Less, Equal, Greater}
use Rattle.std.proofs.lemmas.List.{append_assoc, append-nil, map-append}
use Rattle.std.specs.List.{AllByRecursion, slice_get}
use Rattle.std.specs.List.Sorted.{IsStrictlySortedBy}
use Rattle.std.proofs.lemmas.Bool.{false≢true}
use Rattle.othello_rules.specs.declared.discs.Side.TheVariants.{Black}
use Rattle.othello_rules.specs.declared.scoring.Scoring.{Scoring}
use Rattle.othello_bits.specs.Pos.{PosView, discs_of, position_of}
use Rattle.othello_bits.specs.Symmetries.{canonical_of, first_symmetry, inverse}
use Rattle.othello_bits.specs.declared.sym.Sym.{Sym}
use Rattle.obf_text.specs.LineText.{room_of}
use Rattle.obf_text.specs.Obf.{Meaning, Skipped, Holds, Faulty, item_of}
use Rattle.endgame_search.specs.declared.solved.Claim.{Claim}
use Rattle.solved_book.specs.Claims.{ClaimsView, PositionClaim, GivesAdvice, advice, claim_or_fault, claim_at}
use Rattle.solved_book.specs.Claims.{claims_from, claim_for, image_claim, is_canonical_entry, claim_in_line}
use Rattle.solved_book.specs.Claims.{last_position, lists_nothing, claims_after, claims_with}
use Rattle.solved_book.specs.Order.{AreRising, is_behind, Masks, position_at, positions_in}
use Rattle.solved_book.specs.Listing.{claim_of}
use Rattle.solved_book.specs.Reading.{GivesLine, position_claim, claimed_positions}
use Rattle.solved_book.specs.declared.book_fault.BookFault.{BookFault}
use Rattle.solved_book.specs.declared.book_fault.BookFault.TheVariants as fault
use Rattle.solved_book.proofs.KeptEntries.{masks_cmp, masks_total}

pub positions_claimed : (es : List (Masks × Claim)) → claimed_positions (map position_claim es) ≡ positions_in es
positions_claimed [] = refl
positions_claimed (e ∷ es) = ap (λ ps. position_at e.0 ∷ ps) (positions_claimed es)

claim_kept_at : (k : Masks) (es : List (Masks × Claim)) → claim_at (position_at k) (map position_claim es) ≡ lookup (λ q. is_eq (masks_cmp k q)) es
claim_kept_at k [] = refl
claim_kept_at k (e ∷ es) = ap (λ o. cond (is_eq (masks_cmp k e.0)) (Some e.1) o) (claim_kept_at k es)

pub claim_kept : (p : PosView) (k : Masks) (es : List (Masks × Claim)) → position_at k ≡ p
    → claim_at p (map position_claim es) ≡ lookup (λ q. is_eq (masks_cmp k q)) es
claim_kept p k es e = ap (λ q. claim_at q (map position_claim es)) (sym e) ∙ claim_kept_at k es

-- the claim that is found for the canonical position, mapped back, is the claim of the position
pub found_claim : (a : ClaimsView) (g : Scoring) (p : PosView) (k : Masks) (s : Sym) (es : List (Masks × Claim)) (found : Option Claim)
    → record { scoring = g; claims = map position_claim es } ≡ a
    → position_at k ≡ canonical_of p → s ≡ first_symmetry (position_of Black p)
    → found ≡ lookup (λ q. is_eq (masks_cmp k q)) es → option_map (image_claim (inverse s)) found ≡ claim_for a p
found_claim a g p k s es found ea ek same e =
    ap (option_map (image_claim (inverse s))) (e ∙ sym (claim_kept (canonical_of p) k es ek))
    ∙ (λ i. option_map (image_claim (inverse (same i))) (claim_at (canonical_of p) (ea i).claims))

-- ---- the last claim

pub last_is : (before : Option PosView) (es : List (Masks × Claim)) (e : Masks × Claim)
    → slice_get es (length es - 1) ≡ Some e → last_position before (map position_claim es) ≡ Some (position_at e.0)
last_is before [] e h = cc
last_is before (d ∷ []) e h = ap (option_map (λ (x : Masks × Claim). position_at x.0)) h
last_is before (d ∷ f ∷ more) e h =
    let less : length (d ∷ f ∷ more) - 1 ≡ suc (length (f ∷ more) - 1) = omega arith in
    last_is (Some (position_at d.0)) (f ∷ more) e (sym (ap (slice_get (d ∷ f ∷ more)) less) ∙ h)

-- ---- the loop that reads

-- the masks are greater than all that are stored
abbrev pub AreBelow : Masks → List (Masks × Claim) → Type 0
AreBelow k es = AllByRecursion (λ e. masks_cmp k e.0 ≡ Greater) es

insert_last : (k : Masks) (v : Claim) (es : List (Masks × Claim)) → AreBelow k es → insert_entry masks_cmp es k v ≡ es ++ (k, v) ∷ []
insert_last k v [] h = refl
insert_last k v (e ∷ es) h =
    ap (λ o. match_ordering o ((k, v) ∷ e ∷ es) ((e.0, v) ∷ es) (e ∷ insert_entry masks_cmp es k v)) h.0 ∙ ap (λ xs. e ∷ xs) (insert_last k v es h.1)

above : (x y z : Masks) → masks_cmp x y ≡ Greater → masks_cmp y z ≡ Greater → masks_cmp x z ≡ Greater
above x y z a b =
    let lower : masks_cmp y x ≡ Less = masks_total.antisymm y x ∙ ap ordering_reverse a in
    let low : masks_cmp z y ≡ Less = masks_total.antisymm z y ∙ ap ordering_reverse b in
    masks_total.antisymm x z ∙ ap ordering_reverse (masks_total.trans z y x low lower)

pub gt_is : (o : Ordering) → is_gt o ≡ true → o ≡ Greater
gt_is Less e = absurd (false≢true e)
gt_is Equal e = absurd (false≢true e)
gt_is Greater e = refl

-- what is greater than the last of rising positions is greater than all of them
below_last : (k : Masks) (es : List (Masks × Claim)) → AreRising (positions_in es)
    → is_behind (last_position None (map position_claim es)) (position_at k) ≡ true → AreBelow k es
unfolding IsStrictlySortedBy
below_last k [] rising h = tt
below_last k (e ∷ []) rising h = (gt_is (masks_cmp k e.0) h, tt)
below_last k (e ∷ f ∷ more) rising h =
    let rest = below_last k (f ∷ more) rising.1 h in
    let next : masks_cmp f.0 e.0 ≡ Greater = masks_total.antisymm f.0 e.0 ∙ ap ordering_reverse rising.0.0 in
    (above k f.0 e.0 rest.0 next, rest)

-- a claim whose position is greater than the last one is stored last
pub claims_more : (before : Option Masks) (es new : List (Masks × Claim)) (m : Masks) (v : Claim)
    → AreRising (positions_in es) → option_map position_at before ≡ last_position None (map position_claim es)
    → is_behind (option_map position_at before) (position_at m) ≡ true → new ≡ insert_entry masks_cmp es m v
    → map position_claim new ≡ map position_claim es ++ (position_at m, v) ∷ []
claims_more before es new m v rising last behind is =
    let below = below_last m es rising (ap (λ b. is_behind b (position_at m)) (sym last) ∙ behind) in
    ap (map position_claim) (is ∙ insert_last m v es below) ∙ map-append position_claim es ((m, v) ∷ [])

pub last_more : (before : Option PosView) (cs : List PositionClaim) (c : PositionClaim) → last_position before (cs ++ c ∷ []) ≡ Some c.0
last_more before [] c = refl
last_more before (d ∷ cs) c = last_more (Some d.0) cs c

-- the position of a line's claim is greater than the one before it
checked_behind : (n : ℕ) (nothing behind canonical : Bool) (claim c : PositionClaim)
    → claim_or_fault n nothing behind canonical claim ≡ Ok (Some c) → (behind ≡ true) × (claim ≡ c)
checked_behind n true behind canonical claim c h = cc
checked_behind n false false canonical claim c h = cc
checked_behind n false true false claim c h = cc
checked_behind n false true true claim c h = (refl, cc)

pub line_behind : (n : ℕ) (before : Option PosView) (m : Meaning) (c : PositionClaim) → claim_in_line n before m ≡ Ok (Some c) → is_behind before c.0 ≡ true
line_behind n before Skipped c h = cc
line_behind n before (Faulty f) c h = cc
line_behind n before (Holds entry) c h =
    let facts =
    checked_behind n (lists_nothing entry) (is_behind before (discs_of entry.position))
    (is_canonical_entry entry.position) (discs_of entry.position, claim_of entry.listed) c h in
    ap (λ (x : PositionClaim). is_behind before x.0) (sym facts.1) ∙ facts.0

-- the claims of lines by those of the first line and of the lines behind it
pub from_none : (n : ℕ) (before : Option PosView) (line : List ℕ) (lines : List (List ℕ))
    → claim_in_line n before (item_of line) ≡ Ok None → claims_from n before (line ∷ lines) ≡ claims_from (n + 1) before lines
unfolding claims_from
from_none n before line lines e = ap (λ r. claims_with before r (λ last. claims_from (n + 1) last lines)) e

pub from_some : (n : ℕ) (before : Option PosView) (line : List ℕ) (lines : List (List ℕ)) (c : PositionClaim)
    → claim_in_line n before (item_of line) ≡ Ok (Some c)
    → claims_from n before (line ∷ lines) ≡ claims_after (c ∷ []) (claims_from (n + 1) (Some c.0) lines)
unfolding claims_from
from_some n before line lines c e = ap (λ r. claims_with before r (λ last. claims_from (n + 1) last lines)) e

pub from_err : (n : ℕ) (before : Option PosView) (line : List ℕ) (lines : List (List ℕ)) (f : BookFault)
    → claim_in_line n before (item_of line) ≡ Err f → claims_from n before (line ∷ lines) ≡ Err f
unfolding claims_from
from_err n before line lines f e = ap (λ r. claims_with before r (λ last. claims_from (n + 1) last lines)) e

pub from_end : (n : ℕ) (before : Option PosView) → claims_from n before [] ≡ Ok []
unfolding claims_from
from_end n before = refl

pub onto_onto : (xs ys : List PositionClaim) (r : Result (List PositionClaim) BookFault) → claims_after xs (claims_after ys r) ≡ claims_after (xs ++ ys) r
onto_onto xs ys (Ok zs) = ap Ok (sym (append_assoc xs ys zs))
onto_onto xs ys (Err f) = refl

pub onto_nil : (r : Result (List PositionClaim) BookFault) → claims_after [] r ≡ r
onto_nil (Ok zs) = refl
onto_nil (Err f) = refl

-- the claims so far, and then those of the lines that are left, are those of all lines
pub record ReadsOn (n : ℕ) (before : Option Masks) (es : List (Masks × Claim)) (left : List (List ℕ))
    (all : Result (List PositionClaim) BookFault) : Type 0 where
  pub whole : claims_after (map position_claim es) (claims_from n (option_map position_at before) left) ≡ all

pub reads_start : (n : ℕ) (before : Option Masks) (es : List (Masks × Claim)) (cs : List PositionClaim) (left : List (List ℕ)) → map position_claim es ≡ cs
    → option_map position_at before ≡ last_position None (map position_claim es)
    → ReadsOn n before es left (claims_after cs (claims_from n (last_position None cs) left))
reads_start n before es cs left same last = record {
  whole =
      ap (λ b. claims_after (map position_claim es) (claims_from n b left)) last ∙ ap (λ xs. claims_after xs (claims_from n (last_position None xs) left)) same;
}

pub reads_none : (n : ℕ) (before : Option Masks) (es : List (Masks × Claim)) (line : List ℕ)
    (left lines : List (List ℕ)) (all : Result (List PositionClaim) BookFault)
    → left ≡ line ∷ lines → claim_in_line n (option_map position_at before) (item_of line) ≡ Ok None
    → ReadsOn n before es left all → ReadsOn (n + 1) before es lines all
reads_none n before es line left lines all cut e h = record {
  whole =
      ap (claims_after (map position_claim es))
      (sym (ap (claims_from n (option_map position_at before)) cut ∙ from_none n (option_map position_at before) line lines e)) ∙ h.whole;
}

pub reads_some : (n : ℕ) (before : Option Masks) (es new : List (Masks × Claim)) (m : Masks) (v : Claim) (line : List ℕ)
    (left lines : List (List ℕ)) (all : Result (List PositionClaim) BookFault)
    → left ≡ line ∷ lines → claim_in_line n (option_map position_at before) (item_of line) ≡ Ok (Some (position_at m, v))
    → map position_claim new ≡ map position_claim es ++ (position_at m, v) ∷ []
    → ReadsOn n before es left all → ReadsOn (n + 1) (Some m) new lines all
reads_some n before es new m v line left lines all cut e more h =
    let rest = claims_from (n + 1) (Some (position_at m)) lines in
    let step : claims_from n (option_map position_at before) left ≡ claims_after ((position_at m, v) ∷ []) rest =
    ap (claims_from n (option_map position_at before)) cut ∙ from_some n (option_map position_at before) line lines (position_at m, v) e in
    record {
      whole = ap (λ cs. claims_after cs rest) more
          ∙ sym (onto_onto (map position_claim es) ((position_at m, v) ∷ []) rest) ∙ ap (claims_after (map position_claim es)) (sym step) ∙ h.whole;
    }

-- the fault that is returned is that of the lines, or `Memory`
abbrev pub GivesFault : BookFault → Result (List PositionClaim) BookFault → Type 0
GivesFault fault.Memory all = Unit {0}
GivesFault f all = all ≡ Err f

pub reads_err : (n : ℕ) (before : Option Masks) (es : List (Masks × Claim)) (line : List ℕ) (left lines : List (List ℕ))
    (f : BookFault) (all : Result (List PositionClaim) BookFault)
    → left ≡ line ∷ lines → GivesLine (Err f) (claim_in_line n (option_map position_at before) (item_of line)) → ReadsOn n before es left all → GivesFault f all
reads_err n before es line left lines f all cut e h = by f e
  where
    fails : (f : BookFault) → claim_in_line n (option_map position_at before) (item_of line) ≡ Err f → all ≡ Err f
    fails f e =
        sym h.whole
        ∙ ap (claims_after (map position_claim es))
        (ap (claims_from n (option_map position_at before)) cut ∙ from_err n (option_map position_at before) line lines f e)

    by : (f : BookFault) → GivesLine (Err f) (claim_in_line n (option_map position_at before) (item_of line)) → GivesFault f all
    by fault.Memory e = tt
    by (fault.Line k l) e = fails (fault.Line k l) e
    by (fault.NoMoves k) e = fails (fault.NoMoves k) e
    by (fault.Unsorted k) e = fails (fault.Unsorted k) e
    by (fault.NotCanonical k) e = fails (fault.NotCanonical k) e
    by fault.Header e = fails fault.Header e

pub reads_end : (n : ℕ) (before : Option Masks) (es : List (Masks × Claim)) (left : List (List ℕ)) (all : Result (List PositionClaim) BookFault)
    → left ≡ [] → ReadsOn n before es left all → all ≡ Ok (map position_claim es)
reads_end n before es left all cut h =
    sym h.whole
    ∙ ap (claims_after (map position_claim es)) (ap (claims_from n (option_map position_at before)) cut ∙ from_end n (option_map position_at before))
    ∙ ap Ok (append-nil (map position_claim es))

-- one more line leaves enough room for the lines behind it
pub room_more : (n most : ℕ) (line : List ℕ) (left lines : List (List ℕ)) → left ≡ line ∷ lines → n + room_of left ≤ most
    → (n + 1 ≤ most) × (n + 1 + room_of lines ≤ most)
room_more n most line left lines cut h = let k = rw cut at h in (omega arith, omega arith)

-- ---- no line is an unknown header

checked_known : (n : ℕ) (nothing behind canonical : Bool) (claim : PositionClaim) → claim_or_fault n nothing behind canonical claim ≡ Err fault.Header → ⊥
checked_known n true behind canonical claim h = cc
checked_known n false false canonical claim h = cc
checked_known n false true false claim h = cc
checked_known n false true true claim h = cc

line_known : (n : ℕ) (before : Option PosView) (m : Meaning) → claim_in_line n before m ≡ Err fault.Header → ⊥
line_known n before Skipped h = cc
line_known n before (Faulty f) h = cc
line_known n before (Holds entry) h =
    checked_known n (lists_nothing entry) (is_behind before (discs_of entry.position))
    (is_canonical_entry entry.position) (discs_of entry.position, claim_of entry.listed) h

pub onto_err : (xs : List PositionClaim) (r : Result (List PositionClaim) BookFault) (f : BookFault) → claims_after xs r ≡ Err f → r ≡ Err f
onto_err xs (Ok ys) f h = cc
onto_err xs (Err g) f h = h

abbrev failed : BookFault → Result (List PositionClaim) BookFault
failed f = Err f

err_same : (f g : BookFault) → failed f ≡ failed g → f ≡ g
err_same f g h = cc

advice_err : (g : Scoring) (r : Result (List PositionClaim) BookFault) (f : BookFault) → advice g r ≡ Err f → r ≡ Err f
advice_err g (Ok cs) f h = cc
advice_err g (Err e) f h = cc

pub lines_known : (n : ℕ) (before : Option PosView) (lines : List (List ℕ)) → claims_from n before lines ≡ Err fault.Header → ⊥
lines_known n before [] h = let e = sym (from_end n before) ∙ h in cc
lines_known n before (line ∷ lines) h = by (claim_in_line n before (item_of line)) refl (λ b k. lines_known (n + 1) b lines k)
  where
    by : (r : Result (Option PositionClaim) BookFault) → claim_in_line n before (item_of line) ≡ r
        → ((b : Option PosView) → claims_from (n + 1) b lines ≡ Err fault.Header → ⊥) → ⊥
    by (Err f) e more = line_known n before (item_of line) (e ∙ ap (λ x. Err x) (err_same f fault.Header (sym (from_err n before line lines f e) ∙ h)))
    by (Ok None) e more = more before (sym (from_none n before line lines e) ∙ h)
    by (Ok (Some c)) e more =
        more (Some c.0) (onto_err (c ∷ []) (claims_from (n + 1) (Some c.0) lines) fault.Header (sym (from_some n before line lines c e) ∙ h))

pub gives_fault : (g : Scoring) (f : BookFault) (cs : List PositionClaim) (n : ℕ) (before : Option PosView) (lines : List (List ℕ))
    → GivesFault f (claims_after cs (claims_from n before lines))
    → GivesAdvice (Err f) (advice g (claims_after cs (claims_from n before lines)))
gives_fault g fault.Memory cs n before lines e =
    λ h. lines_known n before lines
    (onto_err cs (claims_from n before lines) fault.Header (advice_err g (claims_after cs (claims_from n before lines)) fault.Header h))
gives_fault g (fault.Line k l) cs n before lines e = ap (advice g) e
gives_fault g (fault.NoMoves k) cs n before lines e = ap (advice g) e
gives_fault g (fault.Unsorted k) cs n before lines e = ap (advice g) e
gives_fault g (fault.NotCanonical k) cs n before lines e = ap (advice g) e
gives_fault g fault.Header cs n before lines e = ap (advice g) e
