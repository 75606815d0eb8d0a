-- Registers, and numbers in operands.
use Rattle.std.proofs.Common.{ℕ, ℤ, suc, zero, ◌≡◌, ◌≤◌, ◌-◌, min, List, [], ◌∷◌, ◌++◌, length, take, refl, ap, sym, ◌∙◌, arith, append_assoc, append-nil, take_all}
use Rattle.std.specs.Prelude.{codes, nat_abs}
use Rattle.std.specs.List.{flat_map}
use Rattle.dexlisting.specs.FullListing.{register_text, registers_text}

-- the first register, and the others after commas
pub registers_first : (n : ℕ) (ns : List ℕ) → register_text n ++ flat_map (λ k. codes ", " ++ register_text k) ns ≡ registers_text (n ∷ ns)
registers_first n [] = append-nil (register_text n)
registers_first n (k ∷ ks) = ap (λ r. register_text n ++ (codes ", " ++ r)) (registers_first k ks)

-- no more than five of five
pub first_five : (n : ℕ) (xs : List ℕ) → length xs ≡ 5 → take (min n 5) xs ≡ take n xs
first_five n xs five = by_count (n - 5) refl
  where
    by_count : (k : ℕ) → k ≡ n - 5 → take (min n 5) xs ≡ take n xs
    by_count zero e = let less : min n 5 ≡ n = omega (arith, e) in ap (λ m. take m xs) less
    by_count (suc k) e = take_all (min n 5) xs (omega (arith, e, five)) ∙ sym (take_all n xs (omega (arith, e, five)))

pub size_is : (x y : ℤ) (n : ℕ) → n ≡ nat_abs x → x ≡ y → n ≡ nat_abs y
size_is x y n is same = is ∙ ap nat_abs same
