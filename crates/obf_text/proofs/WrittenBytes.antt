-- Bytes that never occur in a written line.
use Rattle.std.proofs.Common.{◌≡◌, ◌≢◌, ℕ, ◌==◌, zero, suc, false, List, [], ◌∷◌, inl, inr, arith}
use Rattle.std.specs.Prelude.{◌⊎◌}
use Rattle.std.specs.List.{All}
use Rattle.std.proofs.lemmas.Bool.Decides.{nat_tests}

pub record Lacks (c : ℕ) (xs : List ℕ) : Type 0 where
  pub each : All (λ b. (b == c) ≡ false) xs

each_cons : (c x : ℕ) (xs : List ℕ) → (x == c) ≡ false → All (λ b. (b == c) ≡ false) xs → All (λ b. (b == c) ≡ false) (x ∷ xs)
each_cons c x xs e h zero d lt = e
each_cons c x xs e h (suc k) d lt = h k d (omega arith)

pub lacks_cons : (c x : ℕ) (xs : List ℕ) → x ≢ c → Lacks c xs → Lacks c (x ∷ xs)
lacks_cons c x xs apart h = record { each = each_cons c x xs (grind (arith, nat_tests)) h.each }

pub lacks_nil : (c : ℕ) → Lacks c []
lacks_nil c = record { each = λ k d lt. absurd (omega arith) }

-- a mark: LF, `%` or `;`
abbrev pub IsMark : ℕ → Type 0
IsMark c = (c ≡ 10) ⊎ ((c ≡ 37) ⊎ (c ≡ 59))

-- a byte that is not a mark
abbrev IsPlain : ℕ → Type 0
IsPlain b = (b ≢ 10) × (b ≢ 37) × (b ≢ 59)

pub plain_apart : (c b : ℕ) → IsMark c → IsPlain b → b ≢ c
plain_apart c b (inl e) p = rw e p.0
plain_apart c b (inr (inl e)) p = rw e p.1
plain_apart c b (inr (inr e)) p = rw e p.2
