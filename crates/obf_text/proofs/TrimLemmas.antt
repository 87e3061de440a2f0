-- A piece without the blanks at its ends.
use Rattle.std.proofs.Common.{◌≡◌, ℕ, ◌+◌, ◌-◌, ◌<◌, ◌≤◌, true, false, List, ◌++◌, length, take, drop, sym, ◌∙◌, ap, arith, get_or}
use Rattle.std.specs.Prelude.{reverse}
use Rattle.std.specs.List.{AllPass, position_or_len, suffix_len}
use Rattle.std.proofs.lemmas.Bool.{not-false}
use Rattle.std.proofs.lemmas.Grind.{common_steps}
use Rattle.std.proofs.lemmas.List.{get_or-drop, get_or-reverse, get_or-take, take-append-drop}
use Rattle.std.proofs.lemmas.List.Sums.{fails_before_first, prefix_len_passes, prefix_len-le-length, suffix_len-le-length, suffix_len_is}
use Rattle.std.proofs.Math.ListN.{get_or-append}
use Rattle.std.proofs.Math.Seq.{drop-append_seam, take-append_seam}
use Rattle.obf_text.specs.Bytes.{is_blank, is_content}
use Rattle.obf_text.specs.Fields.{without_blanks, without_first_blanks, without_last_blanks}
use Rattle.obf_text.proofs.Fronts.{Stops, blanks_len}

-- blanks round a text whose ends are no blanks
pub trimmed_is : (before text after : List ℕ) → AllPass is_blank before → AllPass is_blank after → Stops is_content (text ++ after) → 0 < length text
    → is_blank (get_or text (length text - 1) 0) ≡ false → without_blanks (before ++ (text ++ after)) ≡ text
trimmed_is before text after b a first some last =
    let front : without_first_blanks (before ++ (text ++ after)) ≡ text ++ after =
    ap (λ n. drop n (before ++ (text ++ after))) (blanks_len before (text ++ after) b first) ∙ drop-append_seam before (text ++ after) in
    let long : length (text ++ after) ≡ length text + length after = grind (arith, common_steps) in
    let back : suffix_len is_blank (text ++ after) ≡ length (text ++ after) - length text =
    suffix_len_is is_blank (text ++ after) (length text) 0 (omega arith)
    (λ k low high. let at : get_or (text ++ after) k 0 ≡ get_or after (k - length text) 0 = grind (arith, common_steps) in
    rw at (a (k - length text) 0 (omega arith)))
    (λ lt. let at : get_or (text ++ after) (length text - 1) 0 ≡ get_or text (length text - 1) 0 = get_or-append text after 0 (length text - 1) (omega arith) in
    rw at last) in
    let kept : length (text ++ after) - suffix_len is_blank (text ++ after) ≡ length text = omega arith in
    ap without_last_blanks front ∙ ap (λ n. take n (text ++ after)) kept ∙ take-append_seam text after

-- the bytes that are dropped at the front are blanks
pub front_blank : (piece : List ℕ) → AllPass is_blank (take (position_or_len is_content piece) piece)
front_blank piece k d lt =
    let n = position_or_len is_content piece in
    let within : n ≤ length piece = prefix_len-le-length _ piece in
    let long : length (take n piece) ≡ n = grind (arith, common_steps) in
    let at : get_or (take n piece) k d ≡ get_or piece k d = get_or-take n piece k d (omega arith) in
    rw at (not-false _ (fails_before_first is_content piece k d (omega arith)))

-- the bytes that are dropped at the end are blanks
end_blank : (piece : List ℕ) → AllPass is_blank (drop (length piece - suffix_len is_blank piece) piece)
end_blank piece k d lt =
    let m = suffix_len is_blank piece in
    let n = length piece - m in
    let within : m ≤ length piece = suffix_len-le-length is_blank piece in
    let long : length (drop n piece) ≡ m = grind (arith, common_steps) in
    let from_end : get_or (reverse piece) (length piece - 1 - (n + k)) d ≡ get_or piece (length piece - 1 - (length piece - 1 - (n + k))) d =
    get_or-reverse piece (length piece - 1 - (n + k)) d (omega arith) in
    let back : length piece - 1 - (length piece - 1 - (n + k)) ≡ n + k = omega arith in
    let passes : is_blank (get_or (reverse piece) (length piece - 1 - (n + k)) d) ≡ true =
    prefix_len_passes is_blank (reverse piece) (length piece - 1 - (n + k)) d (omega arith) in
    ap is_blank (get_or-drop n piece k d ∙ ap (λ j. get_or piece j d) (sym back) ∙ sym from_end) ∙ passes

abbrev pub dropped_behind : List ℕ → List ℕ
dropped_behind piece = drop (length (without_first_blanks piece) - suffix_len is_blank (without_first_blanks piece)) (without_first_blanks piece)

pub back_blank : (piece : List ℕ) → AllPass is_blank (dropped_behind piece)
back_blank piece = end_blank (without_first_blanks piece)

pub trimmed_whole : (piece : List ℕ) → piece ≡ take (position_or_len is_content piece) piece ++ (without_blanks piece ++ dropped_behind piece)
trimmed_whole piece =
    sym (take-append-drop (position_or_len is_content piece) piece)
    ∙ ap (λ t. take (position_or_len is_content piece) piece ++ t)
    (sym (take-append-drop (length (without_first_blanks piece) - suffix_len is_blank (without_first_blanks piece)) (without_first_blanks piece)))
