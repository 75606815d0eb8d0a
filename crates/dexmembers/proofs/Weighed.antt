-- What members weigh by their numbers is what the members that they denote weigh.
use Rattle.dexmembers.proofs.Common.{◌≡◌, ℕ, ◌+◌, List, [], ◌∷◌, ◌++◌, map, Option, Some, None, option_to_list, refl, ap, ◌∙◌, arith, sum_by, IfSome, All, option_map, length-map, map-append, All-head, All-tail, All-append, sum_by-cons, Mentions, code_weight, debug_weight, set_weight, ref_list_weight, field_weight, method_weight, NumberedSet, set_in, numbered_set_weight, numbered_sets_weight, set_weight_is, statics_weigh, NumberedItem, debug_in, IsKnownDebug, code_in, IsKnownCode, Code}
use Rattle.dexdebug.specs.Debug.{NumberedDebug}
use Rattle.dexcode.specs.CodePut.{numbered_code_weight}
use Rattle.dexmembers.specs.{NumberedMethod, NumberedMembers, field_in, method_in, members_in, fields_of, methods_of, IsKnownMethod, AreKnownMembers, members_weight, numbered_field_weight, numbered_debug_weight, numbered_whole_weight, numbered_method_weight, numbered_members_weight}

-- a numbering of no symbol: by which the weights of sets and values are as by any other
abbrev pub no_symbols : Mentions
no_symbols = record { texts = []; types = []; protos = []; fields = []; methods = [] }

-- ---- sums

-- sums are the same whose members are
sums_are : {X Y : Type 0} (P : X → Type 0) (f : X → ℕ) (g : Y → ℕ) (h : X → Y) → ((x : X) → P x → f x ≡ g (h x)) → (xs : List X) → All P xs → sum_by f xs ≡ sum_by g (map h xs)
sums_are P f g h step [] all = refl
sums_are P f g h step (x ∷ xs) all = omega (arith, sum_by-cons f x xs, sum_by-cons g (h x) (map h xs), step x (All-head P x xs all), sums_are P f g h step xs (All-tail P x xs all))

-- so are those of one member or none
optional_are : {X Y : Type 0} (P : X → Type 0) (f : X → ℕ) (g : Y → ℕ) (h : X → Y) → ((x : X) → P x → f x ≡ g (h x)) → (o : Option X) → IfSome o P → sum_by f (option_to_list o) ≡ sum_by g (option_to_list (option_map h o))
optional_are P f g h step None known = refl
optional_are P f g h step (Some x) known = omega (arith, sum_by-cons f x [], sum_by-cons g (h x) [], step x known)

-- ---- sets and values

-- sets of parameters
pub sets_are : (m : Mentions) (xs : List NumberedSet) → numbered_sets_weight xs ≡ ref_list_weight (map (set_in m) xs)
sets_are m [] = refl
sets_are m (x ∷ xs) = omega (arith, length-map xs (set_in m), sums_are (λ y. Unit {0}) numbered_set_weight set_weight (set_in m) (λ y u. set_weight_is m y) (x ∷ xs) (λ i d lt. tt))

-- ---- members

-- what code weighs with its debug program
abbrev whole_weight : Code → ℕ
whole_weight c = code_weight c + sum_by debug_weight (option_to_list c.debug)

module _ (m : Mentions) (code_is : (c : NumberedItem) → IsKnownCode m c → numbered_code_weight c ≡ code_weight (code_in m c)) (debug_is : (d : NumberedDebug) → IsKnownDebug m d → numbered_debug_weight d ≡ debug_weight (debug_in m d)) where
  whole_is : (c : NumberedItem) → IsKnownCode m c → numbered_whole_weight c ≡ whole_weight (code_in m c)
  whole_is c known = omega (arith, code_is c known, optional_are (IsKnownDebug m) numbered_debug_weight debug_weight (debug_in m) debug_is c.debug known.debug_known)

  method_is : (x : NumberedMethod) → IsKnownMethod m x → numbered_method_weight x ≡ method_weight (method_in m x)
  method_is x known =
      omega (arith, optional_are (IsKnownCode m) numbered_whole_weight whole_weight (code_in m) whole_is x.code known.code_known, set_weight_is m x.annotations, sets_are m x.parameter_annotations)

  -- all of them
  pub members_are : (x : NumberedMembers) → AreKnownMembers m x → numbered_members_weight x ≡ members_weight (members_in m x)
  members_are x known =
      let fs : sum_by numbered_field_weight (fields_of x) ≡ sum_by field_weight (map (field_in m) x.static_fields ++ map (field_in m) x.instance_fields) =
      sums_are (λ f. Unit {0}) numbered_field_weight field_weight (field_in m) (λ f u. ap (λ (n : ℕ). 18 + n) (set_weight_is m f.annotations)) (fields_of x) (λ i d lt. tt) ∙ ap (sum_by field_weight) (map-append (field_in m) x.static_fields x.instance_fields) in
      let all = All-append (IsKnownMethod m) x.direct_methods x.virtual_methods known.direct_methods_known known.virtual_methods_known in
      let ms : sum_by numbered_method_weight (methods_of x) ≡ sum_by method_weight (map (method_in m) x.direct_methods ++ map (method_in m) x.virtual_methods) =
      sums_are (IsKnownMethod m) numbered_method_weight method_weight (method_in m) method_is (methods_of x) all ∙ ap (sum_by method_weight) (map-append (method_in m) x.direct_methods x.virtual_methods) in
      omega (arith, set_weight_is m x.annotations, fs, ms, statics_weigh m x.static_values)
