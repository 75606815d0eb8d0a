-- Members of a class, by the numbers of their rows.
use Rattle.dexmembers.proofs.Common.{◌≡◌, ℕ, ◌^◌, ◌<◌, List, length, get_or, sym, ap, ◌∙◌, subst, Result, Ok, Err, IsTrue, ◌==◌, ◌↔◌, true, eq-eqb, eqb-true, IsTotalOrder, nat_cmp-IsAntisymmetric, Ordering, tied_itself, rises, Text, text_cmp, Mentions, text_total, IsAt, IsNumbering, places_agree, field_at, method_at}
use Rattle.dexmembers.specs.internal.EncodedMembers.{IsOwnField, IsOwnMethod}

-- what is there is not missing
pub ok_no_err : {A E : Type 0} (r : Result A E) (x : A) (e : E) → r ≡ Ok x → r ≡ Err e → ⊥
ok_no_err r x e p q = absurd cc

-- a member of a rising list is at one place
pub one_place : {K : Type 0} (R : K → K → Ordering) → IsTotalOrder R → (xs : List K) → rises R xs ≡ true → (i j : ℕ) (d : K) → i < length xs → j < length xs → get_or xs i d ≡ get_or xs j d → i ≡ j
one_place R o xs rise i j d lt lt' same = nat_cmp-IsAntisymmetric i j (places_agree R o xs rise i j d d lt lt' ∙ ap (R (get_or xs i d)) (sym same) ∙ tied_itself o (get_or xs i d))

-- a type has one number
pub one_type_number : (m : Mentions) → IsNumbering m → (i j : ℕ) (t : Text) → IsAt m.types i t → IsAt m.types j t → i ≡ j
one_type_number m is i j t h g = one_place text_cmp text_total m.types is.rising.types_rise i j t h.within g.within (h.is t ∙ sym (g.is t))

module _ (m : Mentions) (is : IsNumbering m) (class i number : ℕ) (short : i < 2 ^ 32) where
  -- a field is one of the class where its row has the number of the class
  pub field_owned : i < length m.fields → IsAt m.types number (field_at m i).class → IsTrue (number == class) ↔ IsOwnField m class i
  field_owned lt at = (
    λ e. record { short = short; within = lt; class_is = subst (λ (k : ℕ). IsAt m.types k (field_at m i).class) (eqb-true number class e) at },
    λ own. eq-eqb number class (one_type_number m is number class (field_at m i).class at own.class_is),
  )

  -- a method too
  pub method_owned : i < length m.methods → IsAt m.types number (method_at m i).class → IsTrue (number == class) ↔ IsOwnMethod m class i
  method_owned lt at = (
    λ e. record { short = short; within = lt; class_is = subst (λ (k : ℕ). IsAt m.types k (method_at m i).class) (eqb-true number class e) at },
    λ own. eq-eqb number class (one_type_number m is number class (method_at m i).class at own.class_is),
  )
