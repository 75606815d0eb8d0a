-- The symbols of a class's own types and text, and of what follows them.
use Rattle.dexclass.proofs.Common.{◌≡◌, ℕ, ◌<◌, List, [], ◌∷◌, ◌++◌, length, map, Option, Some, None, option_to_list, refl, arith, All, AllZip, option_map, All-head, All-tail, All-append, Symbol, TypeSymbol, Mentions, optional_text, optional_type, Marks, AreMarksOf, Use, HasMark, IsUseOf, all_map, zip-append, texts_in, types_in, text_at, type_at}
use Rattle.dexpool.proofs.Numbers.{member_at}
use Rattle.dexclass.specs.{type_use, text_use}

-- ---- one for one

module _ (m : Mentions) where
  types_zip : (is : List ℕ) → All (λ i. i < length m.types) is → AllZip (IsUseOf m) (map type_use is) (map TypeSymbol (map (type_at m) is))
  types_zip [] h = tt
  types_zip (i ∷ is) h = ((member_at m.types i [] (All-head (λ i. i < length m.types) i is h), tt), types_zip is (All-tail (λ i. i < length m.types) i is h))

  module _ (us : List Use) (ss : List Symbol) (rest : AllZip (IsUseOf m) us ss) where
    by_source : (source : Option ℕ) → All (λ i. i < length m.texts) (option_to_list source) → AllZip (IsUseOf m) (map text_use (option_to_list source) ++ us) (optional_text (option_map (text_at m) source) ++ ss)
    by_source None h = rest
    by_source (Some s) h = ((member_at m.texts s [] (All-head (λ i. i < length m.texts) s [] h), tt), rest)

    module _ (interfaces : List ℕ) (source : Option ℕ) (texts_in : All (λ i. i < length m.texts) (option_to_list source)) where
      abbrev uses_after : List Use
      uses_after = map text_use (option_to_list source) ++ us

      abbrev symbols_after : List Symbol
      symbols_after = optional_text (option_map (text_at m) source) ++ ss

      by_superclass : (superclass : Option ℕ) → All (λ i. i < length m.types) (option_to_list superclass ++ interfaces)
          → AllZip (IsUseOf m) (map type_use (option_to_list superclass ++ interfaces) ++ uses_after) (optional_type (option_map (type_at m) superclass) ++ (map TypeSymbol (map (type_at m) interfaces) ++ symbols_after))
      by_superclass None h = zip-append (IsUseOf m) (map type_use interfaces) (map TypeSymbol (map (type_at m) interfaces)) uses_after symbols_after (types_zip interfaces h) (by_source source texts_in)
      by_superclass (Some p) h = ((member_at m.types p [] (All-head (λ i. i < length m.types) p interfaces h), tt), zip-append (IsUseOf m) (map type_use interfaces) (map TypeSymbol (map (type_at m) interfaces)) uses_after symbols_after (types_zip interfaces (All-tail (λ i. i < length m.types) p interfaces h)) (by_source source texts_in))

      -- the symbols of own types and text, and what follows
      pub own_zip : (name : ℕ) (superclass : Option ℕ) → All (λ i. i < length m.types) (name ∷ (option_to_list superclass ++ interfaces))
          → AllZip (IsUseOf m) (map type_use (name ∷ (option_to_list superclass ++ interfaces)) ++ uses_after)
          (TypeSymbol (type_at m name) ∷ (optional_type (option_map (type_at m) superclass) ++ (map TypeSymbol (map (type_at m) interfaces) ++ symbols_after)))
      own_zip name superclass types_in =
          let P : ℕ → Type 0 = λ i. i < length m.types in
          ((member_at m.types name [] (All-head P name (option_to_list superclass ++ interfaces) types_in), tt), by_superclass superclass (All-tail P name (option_to_list superclass ++ interfaces) types_in))

-- there is a mark for each
pub own_marks : (m : Mentions) (marks : Marks) (types texts : List ℕ) (us : List Use) → AreMarksOf m marks → All (λ i. i < length m.types) types → All (λ i. i < length m.texts) texts → All (HasMark marks) us
    → All (HasMark marks) (map type_use types ++ (map text_use texts ++ us))
own_marks m marks types texts us are types_in texts_in rest =
    All-append (HasMark marks) (map type_use types) (map text_use texts ++ us) (all_map (λ i. i < length m.types) (HasMark marks) type_use types (λ i lt. omega (arith, lt, are.types_count)) types_in)
    (All-append (HasMark marks) (map text_use texts) us (all_map (λ i. i < length m.texts) (HasMark marks) text_use texts (λ i lt. omega (arith, lt, are.strings_count)) texts_in) rest)

-- the symbols of a class, one list after the other
pub parts_are : (name : ℕ) (superclass : Option ℕ) (interfaces : List ℕ) (us : List Use) → type_use name ∷ (map type_use (option_to_list superclass) ++ (map type_use interfaces ++ us)) ≡ map type_use (name ∷ (option_to_list superclass ++ interfaces)) ++ us
parts_are name None interfaces us = refl
parts_are name (Some p) interfaces us = refl
