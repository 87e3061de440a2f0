-- The refusal of a run.
use Rattle.std.proofs.Common.{◌≡◌, ℕ, ◌<◌, ◌≤◌, inl, inr, List, length, refl, sym, ◌∙◌, ap, arith}
use Rattle.std.specs.Prelude.{◌↔◌, Option, Some, None, Result, Ok, Err, IsErrOf, option_map}
use Rattle.program_settings.specs.InputFault.{first_large, refusal_of}
use Rattle.program_settings.specs.declared.input_fault.InputFault.{InputFault}
use Rattle.program_settings.specs.declared.input_fault.InputFault.TheVariants as input
use Rattle.program_settings.specs.declared.limits.TheConstants.{MOST_FILES}
use Rattle.program_settings.proofs.InputFaultLemmas.{refusal_cases}
use Rattle.suite_runs.specs.RunFault.{run_fault_of}
use Rattle.suite_runs.specs.Runs.{Answers}
use Rattle.suite_runs.specs.declared.run_fault.RunFault.{RunFault}
use Rattle.suite_runs.specs.declared.run_fault.RunFault.TheVariants.{Memory, Mixed, TooManyFiles, FileTooLarge}

abbrev refused : {X : Type 0} → Result X RunFault → Option InputFault
refused (Ok given) = None
refused (Err Memory) = None
refused (Err Mixed) = None
refused (Err TooManyFiles) = Some input.TooManyFiles
refused (Err (FileTooLarge s)) = Some (input.FileTooLarge s)

answers_refused : {X : Type 0} (P : X → Type 0) (r : Result X RunFault) (texts : List (List ℕ)) → Answers P texts r → refused r ≡ refusal_of texts
answers_refused P (Ok given) texts a = sym a.0
answers_refused P (Err Memory) texts a = sym a
answers_refused P (Err Mixed) texts a = sym a
answers_refused P (Err TooManyFiles) texts a = sym a
answers_refused P (Err (FileTooLarge n)) texts a = sym a

err_many : {X : Type 0} (r : Result X RunFault) → refused r ≡ Some input.TooManyFiles → r ≡ Err TooManyFiles
err_many (Ok given) e = cc
err_many (Err Memory) e = cc
err_many (Err Mixed) e = cc
err_many (Err TooManyFiles) e = refl
err_many (Err (FileTooLarge s)) e = cc

err_large : {X : Type 0} (r : Result X RunFault) (s : ℕ) → refused r ≡ Some (input.FileTooLarge s) → r ≡ Err (FileTooLarge s)
err_large (Ok given) s e = cc
err_large (Err Memory) s e = cc
err_large (Err Mixed) s e = cc
err_large (Err TooManyFiles) s e = cc
err_large (Err (FileTooLarge t)) s e = cc

not_many : (o : Option ℕ) → option_map input.FileTooLarge o ≡ Some input.TooManyFiles → ⊥
not_many None e = cc
not_many (Some s) e = cc

is_first : (o : Option ℕ) (s : ℕ) → option_map input.FileTooLarge o ≡ Some (input.FileTooLarge s) → o ≡ Some s
is_first None s e = cc
is_first (Some t) s e = cc

none_first : (o : Option ℕ) → option_map input.FileTooLarge o ≡ None → o ≡ None
none_first None e = refl
none_first (Some t) e = cc

pub many_iff : {X : Type 0} (P : X → Type 0) (r : Result X RunFault) (texts : List (List ℕ)) → Answers P texts r
    → IsErrOf r TooManyFiles ↔ MOST_FILES < length texts
many_iff P r texts a =
    let same = answers_refused P r texts a in (
      (λ e. elim (refusal_cases texts) [
        | inl h ↦ h.0
        | inr h ↦ absurd (not_many (first_large texts) (sym h.1 ∙ sym same ∙ ap refused e))
      ]),
      (λ many. elim (refusal_cases texts) [
        | inl h ↦ err_many r (same ∙ h.1)
        | inr h ↦ absurd (omega arith)
      ]),
    )

pub large_iff : {X : Type 0} (P : X → Type 0) (r : Result X RunFault) (n : ℕ) (texts : List (List ℕ)) → length texts ≡ n → Answers P texts r → (s : ℕ)
    → IsErrOf r (FileTooLarge s) ↔ ((n ≤ MOST_FILES) × (first_large texts ≡ Some s))
large_iff P r n texts len a s =
    let same = answers_refused P r texts a in (
      (λ e. elim (refusal_cases texts) [
        | inl h ↦ absurd (let bad : Some input.TooManyFiles ≡ Some (input.FileTooLarge s) = sym h.1 ∙ sym same ∙ ap refused e in cc)
        | inr h ↦ (let few = h.0 in omega arith, is_first (first_large texts) s (sym h.1 ∙ sym same ∙ ap refused e))
      ]),
      (λ p. elim (refusal_cases texts) [
        | inl h ↦ absurd (let few = p.0 in let many = h.0 in omega arith)
        | inr h ↦ err_large r s (same ∙ h.1 ∙ ap (option_map input.FileTooLarge) p.1)
      ]),
    )

-- texts that are not refused are few, and none is large
pub none_refused : (texts : List (List ℕ)) → refusal_of texts ≡ None → (length texts ≤ MOST_FILES) × (first_large texts ≡ None)
none_refused texts none = elim (refusal_cases texts) [
  | inl h ↦ absurd (let bad : Some input.TooManyFiles ≡ None = sym h.1 ∙ none in cc)
  | inr h ↦ (h.0, none_first (first_large texts) (sym h.1 ∙ none))
]

-- what is refused is the answer
pub refused_answers : {X : Type 0} (P : X → Type 0) (refused : InputFault) (fault : RunFault) (texts : List (List ℕ))
    → refusal_of texts ≡ Some refused → fault ≡ run_fault_of refused → Answers {X = X} P texts (Err fault)
refused_answers P input.TooManyFiles fault texts e same = rw same e
refused_answers P (input.FileTooLarge n) fault texts e same = rw same e

pub refused_unmixed : (refused : InputFault) (fault : RunFault) → fault ≡ run_fault_of refused → fault ≡ Mixed → ⊥
refused_unmixed input.TooManyFiles fault same h = let bad : TooManyFiles ≡ Mixed = sym same ∙ h in cc
refused_unmixed (input.FileTooLarge n) fault same h = let bad : FileTooLarge n ≡ Mixed = sym same ∙ h in cc
