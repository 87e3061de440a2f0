-- Six steps by doubling are a chain of six.
use Rattle.std.proofs.Common.{◌≡◌, ℕ, Bool, true, false, ◌&&◌, ◌||◌, bit_and, bit_or, refl}
use Rattle.othello_rules.specs.Masks.{in_mask}
use Rattle.othello_bits.specs.Shifts.{chain}
use Rattle.othello_bits.proofs.Bits.{in_mask-and, in_mask-or}

doubling : (p0 l0 s1 p1 l1 s2 p2 l2 s3 p3 l3 s4 p4 l4 s5 p5 l5 s6 : Bool)
    → ((((p0 && (l0 && s1)) || (p0 && (l0 && (p1 && (l1 && s2)))))
    || ((p0 && (l0 && p1)) && (l0 && (l1 && ((p2 && (l2 && s3)) || (p2 && (l2 && (p3 && (l3 && s4)))))))))
    || ((p0 && (l0 && p1))
    && (l0 && (l1
    && (((p2 && (l2 && s3)) || (p2 && (l2 && (p3 && (l3 && s4)))))
    || ((p2 && (l2 && p3)) && (l2 && (l3 && ((p4 && (l4 && s5)) || (p4 && (l4 && (p5 && (l5 && s6)))))))))))))
    ≡ (p0 && (l0 && (s1 || (p1 && (l1 && (s2 || (p2 && (l2 && (s3 || (p3 && (l3 && (s4 || (p4 && (l4 && (s5 || (p5 && (l5 && (s6 || false))))))))))))))))))
doubling false l0 s1 p1 l1 s2 p2 l2 s3 p3 l3 s4 p4 l4 s5 p5 l5 s6 = refl
doubling true false s1 p1 l1 s2 p2 l2 s3 p3 l3 s4 p4 l4 s5 p5 l5 s6 = refl
doubling true true true p1 l1 s2 p2 l2 s3 p3 l3 s4 p4 l4 s5 p5 l5 s6 = refl
doubling true true false false l1 s2 p2 l2 s3 p3 l3 s4 p4 l4 s5 p5 l5 s6 = refl
doubling true true false true false s2 p2 l2 s3 p3 l3 s4 p4 l4 s5 p5 l5 s6 = refl
doubling true true false true true true p2 l2 s3 p3 l3 s4 p4 l4 s5 p5 l5 s6 = refl
doubling true true false true true false false l2 s3 p3 l3 s4 p4 l4 s5 p5 l5 s6 = refl
doubling true true false true true false true false s3 p3 l3 s4 p4 l4 s5 p5 l5 s6 = refl
doubling true true false true true false true true true p3 l3 s4 p4 l4 s5 p5 l5 s6 = refl
doubling true true false true true false true true false false l3 s4 p4 l4 s5 p5 l5 s6 = refl
doubling true true false true true false true true false true false s4 p4 l4 s5 p5 l5 s6 = refl
doubling true true false true true false true true false true true true p4 l4 s5 p5 l5 s6 = refl
doubling true true false true true false true true false true true false false l4 s5 p5 l5 s6 = refl
doubling true true false true true false true true false true true false true false s5 p5 l5 s6 = refl
doubling true true false true true false true true false true true false true true true p5 l5 s6 = refl
doubling true true false true true false true true false true true false true true false false l5 s6 = refl
doubling true true false true true false true true false true true false true true false true false s6 = refl
doubling true true false true true false true true false true true false true true false true true true = refl
doubling true true false true true false true true false true true false true true false true true false = refl

module _ (can : ℕ → Bool) (back : ℕ → ℕ) (S P : ℕ → Bool) where
  abbrev one : ℕ → Bool
  one i = P i && (can i && S (back i))

  abbrev two : ℕ → Bool
  two i = one i || (P i && (can i && one (back i)))

  abbrev pairs : ℕ → Bool
  pairs i = P i && (can i && P (back i))

  abbrev four : ℕ → Bool
  four i = two i || (pairs i && (can i && (can (back i) && two (back (back i)))))

  abbrev six : ℕ → Bool
  six i = four i || (pairs i && (can i && (can (back i) && four (back (back i)))))

  six_is_chain : (i : ℕ) → six i ≡ chain 6 can back S P i
  unfolding chain
  six_is_chain i =
      doubling (P i) (can i) (S (back i)) (P (back i)) (can (back i)) (S (back (back i))) (P (back (back i)))
      (can (back (back i))) (S (back (back (back i)))) (P (back (back (back i)))) (can (back (back (back i))))
      (S (back (back (back (back i))))) (P (back (back (back (back i))))) (can (back (back (back (back i)))))
      (S (back (back (back (back (back i)))))) (P (back (back (back (back (back i))))))
      (can (back (back (back (back (back i)))))) (S (back (back (back (back (back (back i)))))))

-- the fill from its parts
module _ (can : ℕ → Bool) (back : ℕ → ℕ) (from within s1 s2 s3 s4 s5 s6 s7 : ℕ)
    (e1 : (i : ℕ) → in_mask s1 i ≡ (can i && in_mask from (back i)))
    (e2 : (i : ℕ) → in_mask s2 i ≡ (can i && in_mask (bit_and within s1) (back i)))
    (e3 : (i : ℕ) → in_mask s3 i ≡ (can i && in_mask within (back i)))
    (e4 : (i : ℕ) → in_mask s4 i ≡ (can i && in_mask (bit_or (bit_and within s1) (bit_and within s2)) (back i)))
    (e5 : (i : ℕ) → in_mask s5 i ≡ (can i && in_mask s4 (back i)))
    (e6 : (i : ℕ) → in_mask s6 i ≡ (can i && in_mask (bit_or (bit_or (bit_and within s1) (bit_and within s2)) (bit_and (bit_and within s3) s5)) (back i)))
    (e7 : (i : ℕ) → in_mask s7 i ≡ (can i && in_mask s6 (back i)))
  where
    abbrev b2 : ℕ
    b2 = bit_or (bit_and within s1) (bit_and within s2)

    abbrev b4 : ℕ
    b4 = bit_or b2 (bit_and (bit_and within s3) s5)

    is_one : (i : ℕ) → in_mask (bit_and within s1) i ≡ one can back (in_mask from) (in_mask within) i
    is_one i = cc (in_mask-and within s1 i, e1 i)

    is_two : (i : ℕ) → in_mask b2 i ≡ two can back (in_mask from) (in_mask within) i
    is_two i = cc (in_mask-or (bit_and within s1) (bit_and within s2) i, is_one i, in_mask-and within s2 i, e2 i, is_one (back i))

    is_pairs : (i : ℕ) → in_mask (bit_and within s3) i ≡ pairs can back (in_mask from) (in_mask within) i
    is_pairs i = cc (in_mask-and within s3 i, e3 i)

    is_four : (i : ℕ) → in_mask b4 i ≡ four can back (in_mask from) (in_mask within) i
    is_four i =
        cc (
          in_mask-or b2 (bit_and (bit_and within s3) s5) i,
          is_two i,
          in_mask-and (bit_and within s3) s5 i,
          is_pairs i,
          e5 i,
          e4 (back i),
          is_two (back (back i)),
        )

    pub filled : (i : ℕ) → in_mask (bit_or b4 (bit_and (bit_and within s3) s7)) i ≡ chain 6 can back (in_mask from) (in_mask within) i
    filled i =
        cc (
          in_mask-or b4 (bit_and (bit_and within s3) s7) i,
          is_four i,
          in_mask-and (bit_and within s3) s7 i,
          is_pairs i,
          e7 i,
          e6 (back i),
          is_four (back (back i)),
          six_is_chain can back (in_mask from) (in_mask within) i,
        )
