-- Bytes written by several writes, one after another: after a fault a front of them is written.
use Rattle.std.proofs.Common.{◌≡◌, ℕ, List, [], ◌++◌, Option, refl, sym, ap, ◌∙◌, subst}
use Rattle.std.proofs.lemmas.List.{append_assoc, append-nil}
use Rattle.std.specs.Prelude.{Result, Ok, Err, OnErr}
use Rattle.std.specs.Io.KnownBytes.{Appends}
use Rattle.std.proofs.KnownBytes.{Appends-nil, Appends-trans}
use Rattle.written_bytes.specs.WrittenBytes.{AppendsFront, WritesBefore}

pub prints_start : (old : Option (List ℕ)) (all : List ℕ) → WritesBefore old old all all
prints_start old all = record { done = []; whole = refl; written = Appends-nil old }

pub prints_end : (old now : Option (List ℕ)) (all : List ℕ) → WritesBefore old now [] all
    → Appends old now all
prints_end old now all h = subst (Appends old now) (sym (h.whole ∙ append-nil h.done)) h.written

pub prints_both : (old now next : Option (List ℕ)) (rest left all : List ℕ)
    → WritesBefore old now rest all → WritesBefore now next left rest → WritesBefore old next left all
prints_both old now next rest left all h k = record {
  done = h.done ++ k.done;
  whole = h.whole ∙ ap (λ t. h.done ++ t) k.whole ∙ sym (append_assoc h.done k.done left);
  written = Appends-trans old now next h.done k.done h.written k.written;
}

-- more follows what is written
pub prints_part : (old now : Option (List ℕ)) (before after more : List ℕ)
    → WritesBefore old now after before → WritesBefore old now (after ++ more) (before ++ more)
prints_part old now before after more h = record {
  done = h.done;
  whole = ap (λ t. t ++ more) h.whole ∙ append_assoc h.done after more;
  written = h.written;
}

to_front : (old now : Option (List ℕ)) (rest all : List ℕ) → WritesBefore old now rest all
    → AppendsFront old now all
to_front old now rest all h =
    record { front = h.done; rest = rest; whole = h.whole; written = h.written }

of_front : (old now : Option (List ℕ)) (all : List ℕ) (k : AppendsFront old now all)
    → WritesBefore old now k.rest all
of_front old now all k = record { done = k.front; whole = k.whole; written = k.written }

-- all bytes are a front of themselves
pub front_all : (old now : Option (List ℕ)) (all : List ℕ) → Appends old now all
    → AppendsFront old now all
front_all old now all w =
    record { front = all; rest = []; whole = sym (append-nil all); written = w }

pub front_none : (old : Option (List ℕ)) (all : List ℕ) → AppendsFront old old all
front_none old all = to_front old old all all (prints_start old all)

-- of what was left, a front is written
pub front_both : (old now next : Option (List ℕ)) (rest all : List ℕ) → WritesBefore old now rest all
    → AppendsFront now next rest → AppendsFront old next all
front_both old now next rest all h k =
    to_front old next k.rest all
    (prints_both old now next rest k.rest all h (of_front now next rest k))

pub front_part : (old now : Option (List ℕ)) (before more : List ℕ) → AppendsFront old now before
    → AppendsFront old now (before ++ more)
front_part old now before more h =
    to_front old now (h.rest ++ more) (before ++ more)
    (prints_part old now before h.rest more (of_front old now before h))

-- a call writes a front of what was left, and fails
pub stops : {T E : Type 0} (r : Result T E) (old now next : Option (List ℕ)) (rest all : List ℕ)
    → WritesBefore old now rest all → AppendsFront now next rest → OnErr r (AppendsFront old next all)
stops (Ok x) old now next rest all h k = tt
stops (Err e) old now next rest all h k = front_both old now next rest all h k

-- a piece of what was left is written
pub next_piece : (old now next : Option (List ℕ)) (piece more rest all : List ℕ) → rest ≡ piece ++ more
    → WritesBefore old now rest all → Appends now next piece → WritesBefore old next more all
next_piece old now next piece more rest all cut h w =
    prints_both old now next rest more all h (record { done = piece; whole = cut; written = w })

-- a call writes a front of a piece of what was left, and fails
pub stops_in_piece : {T E : Type 0} (r : Result T E) (old now next : Option (List ℕ))
    (piece more rest all : List ℕ) → rest ≡ piece ++ more → WritesBefore old now rest all
    → AppendsFront now next piece → OnErr r (AppendsFront old next all)
stops_in_piece r old now next piece more rest all cut h k =
    stops r old now next rest all h
    (subst (AppendsFront now next) (sym cut) (front_part now next piece more k))
