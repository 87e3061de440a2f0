-- The value that clap finds for an option that has a default.
use Rattle.std.proofs.Common.{◌≡◌, ◌∙◌, ◌<◌, ◌≤◌, ◌&&◌, ap, ℕ, Bool, true, false, not, zero, suc, List, [], ◌∷◌, length}
use Rattle.std.proofs.Common.{map, is_some, Option, true≢false, Some, None, refl, sym, subst, inl, inr, arith, codes}
use Rattle.std.specs.List.{All, list_all, slice_index_or}
use Rattle.std.specs.Prelude.{find, option_map, slice_get, unwrap_or}
use Rattle.std.specs.Borrow.{Bor}
use Rattle.std.specs.Str.{bytes_eq}
use Rattle.std.proofs.lemmas.List.{length-map}
use Rattle.std.proofs.lemmas.List.Elements.{All-get_or}
use Rattle.std.proofs.lemmas.Slice.Eq.{bytes_eq-Decides}
use Rattle.clap.specs.Built.{IsAuto, IsParsedFrom, SameRules}
use Rattle.clap.specs.Facts.{Entry, EntryPasses, HasIn, IsFilledEntry, IsKnownGroup, PassesArg, WantsDefault, args_of}
use Rattle.clap.specs.Facts.{groups_of, least_values, parser_of, parser_of_value}
use Rattle.clap.specs.Matches.{first_value, found_of, matched_of, one_text}
use Rattle.clap.specs.Simple.{HasReadyLeaves, IsSimpleArg, is_ready, shape_of}
use Rattle.clap.specs.Texts.{items_of}
use Rattle.clap.specs.Values.{Accepts, read_as, reading_of}
use Rattle.clap.specs.Walk.{Rule, Text, rule_of}
use Rattle.clap.specs.declared.builder.action.ArgAction.TheVariants.{Count, Set}
use Rattle.clap.specs.declared.builder.arg.Arg.{Arg}
use Rattle.clap.specs.declared.builder.command.Command.{Command}
use Rattle.clap.specs.declared.builder.value_parser.Reading.{Reading}
use Rattle.clap.specs.declared.builder.value_parser.ValueParser.{ValueParser}
use Rattle.clap.specs.declared.parser.matches.ArgMatches.{ArgMatches}
use Rattle.clap.specs.declared.parser.matches.Found.{Found}
use Rattle.clap.specs.declared.parser.matches.MatchedArg.{MatchedArg}
use Rattle.clap.proofs.CallerLemmas.{default_present, entry_by_id, same_rules_by_id}
use Rattle.clap.proofs.SimpleLemmas.{ready_simple, simple_groups}
use Rattle.clap.proofs.WalkLemmas.{both}

-- ---- the rule of an option, and the argument with that rule

-- no rule of the list has this id
abbrev pub has_none : Text → List Rule → Bool
has_none id = list_all (λ r. not (bytes_eq r.id id))

-- no rule but the one at k has this id
abbrev pub is_only : ℕ → Text → List Rule → Bool
is_only k id [] = true
is_only zero id (r ∷ rs) = has_none id rs
is_only (suc k) id (r ∷ rs) = not (bytes_eq r.id id) && is_only k id rs

differs : (b : Bool) → not b ≡ true → b ≡ true → ⊥
differs true n e = cc
differs false n e = cc

none_there : (xs : List Arg) (id : Text) → has_none id (map rule_of xs) ≡ true
    → (j : ℕ) (e : Arg) → j < length xs → bytes_eq (slice_index_or xs j e).id.now id ≡ true → ⊥
none_there [] id h j e lt same = absurd (omega arith)
none_there (x ∷ xs) id h zero e lt same = differs _ (both _ _ h).0 same
none_there (x ∷ xs) id h (suc j) e lt same = none_there xs id (both _ _ h).1 j e (omega arith) same

only_there : (xs : List Arg) (k : ℕ) (id : Text) → is_only k id (map rule_of xs) ≡ true
    → (j : ℕ) (e : Arg) → j < length xs → bytes_eq (slice_index_or xs j e).id.now id ≡ true → j ≡ k
only_there [] k id h j e lt same = absurd (omega arith)
only_there (x ∷ xs) zero id h zero e lt same = refl
only_there (x ∷ xs) zero id h (suc j) e lt same = absurd (none_there xs id h j e (omega arith) same)
only_there (x ∷ xs) (suc k) id h zero e lt same = absurd (differs _ (both _ _ h).0 same)
only_there (x ∷ xs) (suc k) id h (suc j) e lt same = ap suc (only_there xs k id (both _ _ h).1 j e (omega arith) same)

arg_with_rule : (xs : List Arg) (k : ℕ) (r : Rule) → slice_get (map rule_of xs) k ≡ Some r
    → (a : Arg) × (rule_of a ≡ r) × (slice_index_or xs k a ≡ a) × (k < length xs)
arg_with_rule [] k r at = absurd (true≢false (sym (ap is_some at)))
arg_with_rule (x ∷ xs) zero r at = (x, ap (λ (o : Option Rule). unwrap_or o r) at, refl, omega arith)
arg_with_rule (x ∷ xs) (suc k) r at =
    let f = arg_with_rule xs k r at in
    let lt = f.3 in
    (f.0, f.1, f.2, omega arith)

-- ---- the entry of such an argument

-- each argument of the command with this id keeps the rules of a
abbrev IsOnlyOne : Command → Arg → Type 0
IsOnlyOne c a = (j : ℕ) (x : Arg) → j < length (args_of c) → slice_index_or (args_of c) j x ≡ x
    → bytes_eq x.id.now a.id.now ≡ true → SameRules a x

-- a value of the entry passed the parser of the option
accepted : (c : Command) (a : Arg) (q : ValueParser) (v : Text) → IsOnlyOne c a → a.value_parser ≡ Some q
    → PassesArg c a.id.now v → Accepts a.ignore_case q v
accepted c a q v only parser pass =
    let s = only pass.0 pass.1 pass.2 pass.3 pass.4.0 in
    let is_q : parser_of pass.1 ≡ q = ap parser_of_value (s.parser q parser) in
    subst (λ (b : Bool). Accepts b q v) s.ignore_case (subst (λ (w : ValueParser). Accepts pass.1.ignore_case w v) is_q pass.4.1)

-- the entry of an option that takes a value has one
has_value : (c : Command) (a : Arg) (e : Entry) → groups_of c ≡ [] → (a.id.now ≡ [] → ⊥) → e.0.now ≡ a.id.now
    → IsOnlyOne c a → a.action ≡ Some Set → a.val_delim ≡ None → 1 ≤ least_values a → IsFilledEntry c e
    → 0 < length e.1.vals.items
has_value c a e no_groups named key only set delim least (inl group) = elim group.1 [
  | inl empty ↦ absurd (named (sym key ∙ empty))
  | inr some ↦
      let bad : 0 < 0 = rw no_groups at some in
      absurd (omega arith)
]
has_value c a e no_groups named key only set delim least (inr (inl some)) = some
has_value c a e no_groups named key only set delim least (inr (inr (inl counts))) =
    let any = counts.1 in
    let s = only any.0 any.1 any.2 any.3 (rw key at any.4.0) in
    let is_set : any.1.action ≡ Some Set = s.action Set set in
    let bad : Set ≡ Count = rw is_set at any.4.1 in
    cc
has_value c a e no_groups named key only set delim least (inr (inr (inr none))) =
    let s = only none.0 none.1 none.2 none.3 (rw key at none.4.0) in
    elim none.4.1 [
      | inl zero_values ↦
          let one = s.least set least in
          absurd (omega arith)
      | inr has ↦
          let bad : false ≡ true = rw (s.val_delim, delim) at has in
          cc
    ]

first_of_some : (xs : List (Bor Text)) → 0 < length xs → (v : Bor Text) × (slice_get xs 0 ≡ Some v) × (slice_index_or xs 0 v ≡ v)
first_of_some [] lt = absurd (omega arith)
first_of_some (x ∷ xs) lt = (x, refl, refl)

-- what a parse that succeeds has for the option a, which is read by q
abbrev HasFirst : Found → Arg → ValueParser → Type 0
HasFirst f a q = (t : Text) × (first_value f a.id.now ≡ Some t) × (one_text f a.id.now ≡ Some (read_as (reading_of q) t))
    × Accepts a.ignore_case q t

first_at : (f : Found) (id : Text) (x : MatchedArg) (v : Bor Text) → matched_of f id ≡ Some x → slice_get x.vals.items 0 ≡ Some v
    → first_value f id ≡ Some v.now
first_at f id x v found at = rw (found, at) refl

one_at : (f : Found) (id : Text) (x : MatchedArg) (v : Bor Text) (how : Reading) → matched_of f id ≡ Some x
    → slice_get x.vals.items 0 ≡ Some v → x.reading ≡ how → one_text f id ≡ Some (read_as how v.now)
one_at f id x v how found at is = rw (found, at, is) refl

no_group : (c : Command) (id : Text) → groups_of c ≡ [] → (id ≡ [] → ⊥) → IsKnownGroup c id → ⊥
no_group c id none named (inl empty) = named empty
no_group c id none named (inr some) =
    let bad : 0 < 0 = rw none at some in
    omega arith

has_first : (c : Command) (f : Found) (a : Arg) (q : ValueParser) (e : Entry) → matched_of f a.id.now ≡ Some e.1
    → groups_of c ≡ [] → (a.id.now ≡ [] → ⊥) → e.0.now ≡ a.id.now → IsOnlyOne c a → a.action ≡ Some Set → a.val_delim ≡ None
    → 1 ≤ least_values a → a.value_parser ≡ Some q → EntryPasses c e → HasFirst f a q
has_first c f a q e found no_groups named key only set delim least parser pass =
    let lt = has_value c a e no_groups named key only set delim least pass.1 in
    let v = first_of_some e.1.vals.items lt in
    let single : e.1.is_group ≡ true → ⊥ = λ g. no_group c e.0.now no_groups (λ empty. named (sym key ∙ empty)) (pass.3 g) in
    let all : All (λ w. PassesArg c e.0.now w.now) e.1.vals.items = elim pass.0 [
      | inl g ↦ absurd (single g)
      | inr vals ↦ vals
    ] in
    let one : PassesArg c e.0.now v.0.now = subst (λ (w : Bor Text). PassesArg c e.0.now w.now) v.2
    (All-get_or (λ w. PassesArg c e.0.now w.now) e.1.vals.items 0 v.0 lt all) in
    let how : e.1.reading ≡ reading_of q = elim pass.4 [
      | inl g ↦ absurd (single g)
      | inr read ↦
          let s = only read.0 read.1 read.2 read.3 (rw key at read.4.0) in
          sym read.4.1 ∙ ap reading_of (ap parser_of_value (s.parser q parser))
    ] in (
      v.0.now,
      first_at f a.id.now e.1 v.0 found v.1,
      one_at f a.id.now e.1 v.0 (reading_of q) found v.1 how,
      accepted c a q v.0.now only parser (subst (λ (w : Text). PassesArg c w v.0.now) key one),
    )

-- ---- the option of a command that was parsed

behind : (x : Entry) (xs : List Entry) (id : Text) → bytes_eq x.0.now id ≡ false
    → (i : ℕ) → i < length (x ∷ xs) → ((d : Entry) → bytes_eq (slice_index_or (x ∷ xs) i d).0.now id ≡ true) → HasIn xs id
behind x xs id other zero lt at = absurd (true≢false (sym (at x) ∙ other))
behind x xs id other (suc i) lt at = (i, omega arith, at)

matched_there : (xs : List Entry) (id : Text) → HasIn xs id
    → (x : MatchedArg) × (option_map (λ e. e.1) (find (λ e. bytes_eq e.0.now id) xs) ≡ Some x)
matched_there [] id h =
    let lt = h.1 in
    absurd (omega arith)
matched_there (x ∷ xs) id h = go (bytes_eq x.0.now id) refl (matched_there xs id)
  where
    go : (b : Bool) → bytes_eq x.0.now id ≡ b
        → (HasIn xs id → (y : MatchedArg) × (option_map (λ e. e.1) (find (λ e. bytes_eq e.0.now id) xs) ≡ Some y))
        → (y : MatchedArg) × (option_map (λ e. e.1) (find (λ e. bytes_eq e.0.now id) (x ∷ xs)) ≡ Some y)
    go true here later = (x.1, rw here refl)
    go false here later =
        let rest = later (behind x xs id here h.0 h.1 h.2) in
        (rest.0, rw here rest.1)

-- a parse that succeeds has a value for the argument a, which has a default and stands at k
arg_read : (c : Command) (m : ArgMatches) (k : ℕ) (a : Arg) (q : ValueParser) → IsParsedFrom c m
    → is_ready (shape_of c) ≡ true → HasReadyLeaves c → k < length (args_of c) → slice_index_or (args_of c) k a ≡ a
    → ((j : ℕ) (e : Arg) → j < length (args_of c) → bytes_eq (slice_index_or (args_of c) j e).id.now a.id.now ≡ true → j ≡ k)
    → a.action ≡ Some Set → a.num_vals ≡ None → 0 < length (items_of a.default_vals) → a.value_parser ≡ Some q
    → (a.id.now ≡ [] → ⊥) → (IsAuto a → ⊥) → HasFirst (found_of m) a q
arg_read c m k a q p ready leaves lt is unique set range some parser named own =
    let least : 1 ≤ least_values a = rw range (omega arith) in
    let simple = ready_simple c ready leaves in
    let kept = subst (λ (x : Arg). IsSimpleArg x) is (simple.args k a lt) in
    let id : (slice_index_or (args_of c) k a).id.now ≡ a.id.now = ap (λ (x : Arg). x.id.now) is in
    let wants : WantsDefault (slice_index_or (args_of c) k a) = subst (λ (x : Arg). WantsDefault x) (sym is) (kept.default_ifs, some) in
    let has = subst (λ (t : Text). HasIn (found_of m).entries.items t) id (default_present c m p simple.globals k a lt wants) in
    let x = matched_there (found_of m).entries.items a.id.now has in
    let parsed = p.parsed (p.from.globals ∙ simple.globals) in
    let e = entry_by_id (EntryPasses p.built) (found_of m).entries.items a.id.now x.0 parsed.values x.1 in
    let no_groups : groups_of p.built ≡ [] = (p.from.same_groups (simple_groups c (both _ _ (both _ _ ready).0).1)).1 ∙ simple.groups in
    let only : IsOnlyOne p.built a = λ j y low at same.
    subst (λ (z : Arg). SameRules z y) is (same_rules_by_id c m p k a lt
    (λ i w under s. unique i w under (rw id at s))
    (λ auto. own (subst (λ (z : Arg). IsAuto z) is auto)) j y low at (rw id same)) in
    has_first p.built (found_of m) a q e.0 (x.1 ∙ ap Some (sym e.1)) no_groups named ((bytes_eq-Decides e.0.0.now a.id.now).0 e.2)
    only set kept.delimiter least parser e.3

-- the id is that of no group, and of no flag that clap adds
abbrev pub is_own : Text → Bool
is_own id = not (bytes_eq id []) && (not (bytes_eq id (codes "help")) && not (bytes_eq id (codes "version")))

is_other : (id other : Text) → not (bytes_eq id other) ≡ true → id ≡ other → ⊥
is_other id other h e = differs (bytes_eq id other) h ((bytes_eq-Decides id other).1 e)

-- the rule is that of an option with a default, which takes one value that q reads
pub record IsDefaulted (r : Rule) (q : ValueParser) : Type 0 where
  pub action : r.action ≡ Some Set
  pub range : r.range ≡ None
  pub defaults : 0 < length r.defaults
  pub parser : r.parser ≡ Some q
  pub own : is_own r.id ≡ true

rule_read : (c : Command) (m : ArgMatches) (k : ℕ) (a : Arg) (q : ValueParser) → IsParsedFrom c m
    → is_ready (shape_of c) ≡ true → HasReadyLeaves c → k < length (args_of c) → slice_index_or (args_of c) k a ≡ a
    → is_only k a.id.now (shape_of c).rules ≡ true → IsDefaulted (rule_of a) q → HasFirst (found_of m) a q
rule_read c m k a q p ready leaves lt is single rule =
    let some : 0 < length (items_of a.default_vals) = rw length-map at rule.defaults in
    let own = both _ _ rule.own in
    let auto_ids = both _ _ own.1 in
    arg_read c m k a q p ready leaves lt is (only_there (args_of c) k a.id.now single) rule.action rule.range some rule.parser
    (is_other a.id.now [] own.0) (λ auto. elim auto [
      | inl h ↦ is_other a.id.now (codes "help") auto_ids.0 h
      | inr h ↦ is_other a.id.now (codes "version") auto_ids.1 h
    ])

-- A parse that succeeds has a value for an option with a default.
pub default_read : (c : Command) (m : ArgMatches) (k : ℕ) (r : Rule) (q : ValueParser) → IsParsedFrom c m
    → is_ready (shape_of c) ≡ true → HasReadyLeaves c → slice_get (shape_of c).rules k ≡ Some r
    → is_only k r.id (shape_of c).rules ≡ true → IsDefaulted r q
    → (t : Text) × (first_value (found_of m) r.id ≡ Some t) × (one_text (found_of m) r.id ≡ Some (read_as (reading_of q) t))
    × Accepts r.ignore_case q t
default_read c m k r q p ready leaves at single rule =
    let here = arg_with_rule (args_of c) k r at in
    subst (λ (x : Rule). (t : Text) × (first_value (found_of m) x.id ≡ Some t) × (one_text (found_of m) x.id ≡ Some (read_as (reading_of q) t))
    × Accepts x.ignore_case q t) here.1
    (rule_read c m k here.0 q p ready leaves here.3 here.2
    (subst (λ (x : Rule). is_only k x.id (shape_of c).rules ≡ true) (sym here.1) single)
    (subst (λ (x : Rule). IsDefaulted x q) (sym here.1) rule))
