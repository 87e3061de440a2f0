-- The fields that are written are read back.
use Rattle.std.proofs.Common.{◌≡◌, ℕ, ℤ, pos, negsuc, ◌+◌, ◌/◌, ◌%◌, ◌<◌, ◌≤◌, ◌==◌, zero, suc, Bool, true, false, List}
use Rattle.std.proofs.Common.{[], ◌∷◌, ◌++◌, cond, length, map, refl, sym, inl, inr, ◌∙◌, ap, subst, arith}
use Rattle.std.specs.Prelude.{nat_abs, neg_ℤ, ◌⊎◌}
use Rattle.std.specs.List.{All, AllPass, before_first, filter, position_or_len, range_with_len, slice_split}
use Rattle.std.proofs.Math.Seq.{take-length}
use Rattle.std.proofs.lemmas.Int.{ints}
use Rattle.std.proofs.lemmas.List.{append-nil, append_assoc}
use Rattle.std.proofs.lemmas.List.Sums.{position_or_len_is}
use Rattle.std.proofs.lemmas.List.Splits.{slice_split_at}
use Rattle.othello_rules.specs.declared.answer.Best.{Best}
use Rattle.othello_rules.specs.declared.answer.Best.TheVariants as best
use Rattle.othello_rules.specs.Board.{name_of, squares}
use Rattle.othello_rules.specs.Masks.{in_mask, squares_of}
use Rattle.othello_rules.specs.Answer.{IsScore}
use Rattle.obf_text.specs.Bytes.{is_blank}
use Rattle.obf_text.specs.Fields.{Field, IsField, IsMoveText, IsNumber, IsScoreText, Lists, pieces_of}
use Rattle.obf_text.specs.Written.{AreWritable, IsWritable, IsWritableMove, best_fields, field_text, fields_text, move_text, score_part, score_text}
use Rattle.obf_text.specs.declared.entries.ListedMove.{ListedMove}
use Rattle.obf_text.specs.declared.entries.ListedMove.TheVariants.{At, Pass, Over}
use Rattle.obf_text.proofs.ListedLemmas.{empty_is_none, lists_skip}
use Rattle.obf_text.proofs.WrittenBytes.{IsMark, Lacks, lacks_cons, lacks_nil, plain_apart}

pub gap_is_blank : AllPass is_blank (32 ∷ [])
gap_is_blank zero d lt = refl
gap_is_blank (suc k) d lt = absurd (omega arith)

pub none_blank : AllPass is_blank []
none_blank k d lt = absurd (omega arith)

move_back : (m : ListedMove) → IsWritableMove m → IsMoveText (move_text m) m
unfolding move_text
move_back (At square) h = (h, inl refl)
move_back Pass h = record { first = 80; second = 83; whole = refl; p = inl refl; s = inl refl }
move_back Over h = refl

number_back : (n : ℕ) → n ≤ 64 → IsNumber ((48 + n / 10) ∷ (48 + n % 10) ∷ []) n
number_back n h = record { tens = n / 10; ones = n % 10; first_digit = (refl, omega arith); second_digit = (refl, omega arith); value = omega arith }

one_more : (n : ℕ) → suc n ≡ n + 1
one_more n = omega arith

score_back : (z : ℤ) → nat_abs z ≤ 64 → IsScoreText (score_text z) z
unfolding score_text
score_back (pos n) h = record {
  sign = 43 ∷ [];
  digits = (48 + n / 10) ∷ (48 + n % 10) ∷ [];
  size = n;
  whole = refl;
  number = number_back n h;
  within = h;
  signed = inr (inl refl, refl);
}
score_back (negsuc n) h = record {
  sign = 45 ∷ [];
  digits = (48 + (n + 1) / 10) ∷ (48 + (n + 1) % 10) ∷ [];
  size = n + 1;
  whole = refl;
  number = number_back (n + 1) (omega arith);
  within = omega arith;
  signed = inl (refl, ap (λ k. neg_ℤ (pos k)) (one_more n));
}

-- a field's text without its semicolon
abbrev pub piece_text : Field → List ℕ
piece_text field = 32 ∷ (move_text field.0 ++ 58 ∷ score_text field.1)

pub piece_back : (f : Field) → IsWritable f → IsField (piece_text f) f
piece_back f h = record {
  before = 32 ∷ [];
  move = move_text f.0;
  score = score_text f.1;
  after = [];
  whole = ap (λ t. 32 ∷ t) (sym (append-nil (move_text f.0 ++ 58 ∷ score_text f.1)));
  before_blank = gap_is_blank;
  after_blank = none_blank;
  is_move_text = move_back f.0 h.0;
  is_score_text = score_back f.1 h.1;
}

move_onto : (c : ℕ) (m : ListedMove) (tail : List ℕ) → IsWritableMove m → IsMark c → Lacks c tail → Lacks c (move_text m ++ tail)
unfolding move_text name_of
move_onto c (At q) tail h mark rest =
    lacks_cons c _ _ (plain_apart c (65 + q % 8) mark (omega arith, omega arith, omega arith))
    (lacks_cons c _ _ (plain_apart c (49 + q / 8) mark (omega arith, omega arith, omega arith)) rest)
move_onto c Pass tail h mark rest =
    lacks_cons c _ _ (plain_apart c 80 mark (omega arith, omega arith, omega arith))
    (lacks_cons c _ _ (plain_apart c 83 mark (omega arith, omega arith, omega arith)) rest)
move_onto c Over tail h mark rest =
    lacks_cons c _ _ (plain_apart c 45 mark (omega arith, omega arith, omega arith))
    (lacks_cons c _ _ (plain_apart c 45 mark (omega arith, omega arith, omega arith)) rest)

digits_onto : (c n : ℕ) (tail : List ℕ) → n ≤ 64 → IsMark c → Lacks c tail → Lacks c ((48 + n / 10) ∷ (48 + n % 10) ∷ tail)
digits_onto c n tail h mark rest =
    lacks_cons c _ _ (plain_apart c (48 + n / 10) mark (omega arith, omega arith, omega arith))
    (lacks_cons c _ _ (plain_apart c (48 + n % 10) mark (omega arith, omega arith, omega arith)) rest)

score_onto : (c : ℕ) (z : ℤ) (tail : List ℕ) → nat_abs z ≤ 64 → IsMark c → Lacks c tail → Lacks c (score_text z ++ tail)
unfolding score_text
score_onto c (pos n) tail h mark rest =
    lacks_cons c _ _ (plain_apart c 43 mark (omega arith, omega arith, omega arith)) (digits_onto c n tail h mark rest)
score_onto c (negsuc n) tail h mark rest =
    lacks_cons c _ _ (plain_apart c 45 mark (omega arith, omega arith, omega arith)) (digits_onto c (n + 1) tail (omega arith) mark rest)

pub piece_onto : (c : ℕ) (f : Field) (tail : List ℕ) → IsWritable f → IsMark c → Lacks c tail → Lacks c (piece_text f ++ tail)
piece_onto c f tail h mark rest =
    let scored = score_onto c f.1 tail h.1 mark rest in
    let after = lacks_cons c 58 (score_text f.1 ++ tail) (plain_apart c 58 mark (omega arith, omega arith, omega arith)) scored in
    let named : Lacks c (move_text f.0 ++ (58 ∷ score_text f.1 ++ tail)) = move_onto c f.0 (58 ∷ score_text f.1 ++ tail) h.0 mark after in
    let joined : Lacks c ((move_text f.0 ++ 58 ∷ score_text f.1) ++ tail) = rw (append_assoc (move_text f.0) (58 ∷ score_text f.1) tail) named in
    lacks_cons c 32 ((move_text f.0 ++ 58 ∷ score_text f.1) ++ tail) (plain_apart c 32 mark (omega arith, omega arith, omega arith)) joined

field_parts : (f : Field) → field_text f ≡ piece_text f ++ 59 ∷ []
unfolding field_text score_part
field_parts f = ap (λ t. 32 ∷ t) (sym (append_assoc (move_text f.0) (58 ∷ score_text f.1) (59 ∷ [])))

pub fields_none : fields_text [] ≡ []
unfolding fields_text
fields_none = refl

pub fields_cons : (f : Field) (fields : List Field) → fields_text (f ∷ fields) ≡ piece_text f ++ 59 ∷ fields_text fields
unfolding fields_text
fields_cons f fields = ap (λ t. t ++ fields_text fields) (field_parts f) ∙ append_assoc (piece_text f) (59 ∷ []) (fields_text fields)

lists_back : (fields : List Field) → AreWritable fields → Lists (slice_split (λ b. b == 59) (fields_text fields)) fields
lists_back [] h = rw fields_none (empty_is_none, tt)
lists_back (f ∷ fields) h =
    let plain : All (λ b. (b == 59) ≡ false) (piece_text f) =
    (subst (λ t. Lacks 59 t) (append-nil (piece_text f)) (piece_onto 59 f [] h.0 (inr (inr refl)) (lacks_nil 59))).each in
    let cut : slice_split (λ b. b == 59) (fields_text (f ∷ fields)) ≡ piece_text f ∷ slice_split (λ b. b == 59) (fields_text fields) =
    ap (slice_split (λ b. b == 59)) (fields_cons f fields) ∙ slice_split_at (λ b. b == 59) (piece_text f) 59 (fields_text fields) plain refl in
    rw cut (inl (piece_back f h.0, lists_back fields h.1))

-- no LF and no `%` stands in fields
pub fields_lack : (c : ℕ) (fields : List Field) → AreWritable fields → (c ≡ 10) ⊎ (c ≡ 37) → Lacks c (fields_text fields)
fields_lack c [] h mark = rw fields_none (lacks_nil c)
fields_lack c (f ∷ fields) h (inl e) =
    rw (fields_cons f fields)
    (piece_onto c f (59 ∷ fields_text fields) h.0 (inl e) (lacks_cons c 59 (fields_text fields) (rw e (omega arith)) (fields_lack c fields h.1 (inl e))))
fields_lack c (f ∷ fields) h (inr e) =
    rw (fields_cons f fields)
    (piece_onto c f (59 ∷ fields_text fields) h.0 (inr (inl e))
    (lacks_cons c 59 (fields_text fields) (rw e (omega arith)) (fields_lack c fields h.1 (inr e))))

whole_before : (xs : List ℕ) → All (λ b. (b == 37) ≡ false) xs → before_first (λ b. b == 37) xs ≡ xs
whole_before xs h =
    let n : position_or_len (λ b. b == 37) xs ≡ length xs =
    position_or_len_is (λ b. b == 37) xs (length xs) 0 (omega arith) (λ k lt. h k 0 lt) (λ lt. absurd (omega arith)) in
    rw n (take-length xs)

-- the pieces behind the side
pub all_back : (fields : List Field) → AreWritable fields → Lists (pieces_of (59 ∷ fields_text fields)) fields
all_back fields h =
    let plain = (lacks_cons 37 59 (fields_text fields) (omega arith) (fields_lack 37 fields h (inr refl))).each in
    rw (whole_before (59 ∷ fields_text fields) plain)
    (lists_skip [] (slice_split (λ b. b == 59) (fields_text fields)) fields empty_is_none (lists_back fields h))

pub score_size : (z : ℤ) → IsScore z → nat_abs z ≤ 64
score_size (pos n) h = let high = h.high in omega (arith, ints)
score_size (negsuc n) h = let low = h.low in omega (arith, ints)

abbrev AreBelow : List ℕ → Type 0
AreBelow [] = Unit {0}
AreBelow (q ∷ qs) = (q < 64) × AreBelow qs

kept_below : (p : ℕ → Bool) (a n : ℕ) → a + n ≤ 64 → AreBelow (filter p (range_with_len a n))
kept_below p a zero h = tt
kept_below p a (suc n) h =
    let rest = kept_below p (a + 1) n (omega arith) in
    elim (p a) as (λ t. AreBelow (cond t (a ∷ filter p (range_with_len (a + 1) n)) (filter p (range_with_len (a + 1) n)))) [
      | true ↦ (omega arith, rest)
      | false ↦ rest
    ]

squares_below : (mask : ℕ) → AreBelow (squares_of mask)
unfolding squares_of squares
squares_below mask = kept_below (in_mask mask) 0 64 (omega arith)

squares_writable : (z : ℤ) (qs : List ℕ) → nat_abs z ≤ 64 → AreBelow qs → AreWritable (map (λ square. (At square, z)) qs)
squares_writable z [] small h = tt
squares_writable z (q ∷ qs) small h = ((h.0, small), squares_writable z qs small h.1)

pub best_writable : (z : ℤ) (b : Best) → nat_abs z ≤ 64 → AreWritable (best_fields z b)
best_writable z (best.Moves mask) small = squares_writable z (squares_of mask) small (squares_below mask)
best_writable z best.Pass small = ((tt, small), tt)
best_writable z best.Over small = ((tt, small), tt)
