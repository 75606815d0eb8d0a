-- Lists of types whose letters a text spells.
use Rattle.dexids.proofs.Common.{◌≡◌, ◌≢◌, ℕ, ◌<◌, List, [], ◌∷◌, length, get_or, refl, sym, ap, ◌∙◌, subst, arith, inl, inr, map, All, AllZip, cases_lt, cases_eq, get_or-map, get_or_past, length-map, All-nil, All-cons, All-head, All-tail, Text, IsValueType, shorty_letter, OrNone, TypeRow, TypeListAt, one_type, IsAscii, Span, CheckedList, text_of, type_of, span_of, AreNames, IsParameter, IsPlaced, file_numbers, listed, letters_of, AreLetters, letter_in, letters_in, NoVoid, IsSpelled, IsChecked, NotListedAs}
use Rattle.dexids.proofs.FirstUnits.{letter_void, void_letter, letters_ascii}
use Rattle.dexids.proofs.TypeLists.{listed_is}

-- a list that was checked, whose shorty is the same
pub known_checked : (b : List ℕ) (texts : List Text) (types : List ℕ) (o : ℕ) (known j : CheckedList) → IsChecked b texts types o known → IsPlaced b o j.span → known.shorty ≡ j.shorty → known.letter ≡ j.letter → IsChecked b texts types o j
known_checked b texts types o known j h placed number letter =
    record { listed = record { parameters = h.listed.parameters; span = placed.span; is = placed.is }; shorty = ap (text_of texts) (sym number) ∙ h.shorty ∙ (λ i. letter i ∷ letters_of texts types ((h.listed.is ∙ sym placed.is) i)) }

listed_zip : (b : List ℕ) (o : ℕ) (ts : List Text) → OrNone TypeListAt [] b o ts → AllZip (TypeRow b) (listed b o) ts
listed_zip b o ts (inl none) = subst (AllZip (TypeRow b) (listed b o)) (sym none.1) (subst (λ (n : ℕ). AllZip (TypeRow b) (listed b n) []) (sym none.0) tt)
listed_zip b o ts (inr some) = subst (λ (l : List ℕ). AllZip (TypeRow b) l ts) (sym (listed_is b o some.0)) some.1.types

module _ (b : List ℕ) (texts : List Text) (types letters : List ℕ) (names : AreNames b texts types) (are : AreLetters texts types letters) where
  letter_is : (n : ℕ) → n < length types → letter_in letters n ≡ shorty_letter (type_of texts types n)
  letter_is n lt = ap (λ (l : List ℕ). get_or l n 0x56) are ∙ get_or-map (λ m. shorty_letter (text_of texts m)) types n 0 0x56 lt

  -- a number with a letter that is not void's names a type
  names_type : (n : ℕ) → letter_in letters n ≢ 0x56 → n < length types
  names_type n some = elim (cases_lt n (length types)) [
    | inl small ↦ small
    | inr large ↦ absurd (some (get_or_past letters n 0x56 (omega (arith, large, ap (λ (l : List ℕ). length l) are, length-map types (λ m. shorty_letter (text_of texts m))))))
  ]

  -- and that of a parameter
  is_parameter : (n : ℕ) → letter_in letters n ≢ 0x56 → IsParameter b texts types n
  is_parameter n some =
      let lt = names_type n some in
      let row : TypeRow b n (type_of texts types n) = (names.types_are.each n 0 (omega (arith, lt, names.types_are.count))).is in
      record { row = row; value = letter_void (type_of texts types n) row.descriptor (λ e. some (letter_is n lt ∙ e)) }

  spelled_rows : (ns : List ℕ) → NoVoid letters ns → AllZip (TypeRow b) ns (map (type_of texts types) ns)
  spelled_rows [] h = tt
  spelled_rows (n ∷ ns) h = ((is_parameter n (All-head (λ m. letter_in letters m ≢ 0x56) n ns h)).row, spelled_rows ns (All-tail (λ m. letter_in letters m ≢ 0x56) n ns h))

  spelled_values : (ns : List ℕ) → NoVoid letters ns → All IsValueType (map (type_of texts types) ns)
  spelled_values [] h = All-nil IsValueType
  spelled_values (n ∷ ns) h = All-cons IsValueType (type_of texts types n) (map (type_of texts types) ns) (is_parameter n (All-head (λ m. letter_in letters m ≢ 0x56) n ns h)).value
      (spelled_values ns (All-tail (λ m. letter_in letters m ≢ 0x56) n ns h))

  spelled_letters : (ns : List ℕ) → NoVoid letters ns → letters_in letters ns ≡ letters_of texts types ns
  spelled_letters [] h = refl
  spelled_letters (n ∷ ns) h = λ i. (letter_is n (names_type n (All-head (λ m. letter_in letters m ≢ 0x56) n ns h))) i ∷ (spelled_letters ns (All-tail (λ m. letter_in letters m ≢ 0x56) n ns h)) i

  list_encoded : (o : ℕ) (s : Span) → IsPlaced b o s → NoVoid letters (listed b o) → OrNone TypeListAt [] b o (map (type_of texts types) (listed b o))
  list_encoded o s placed h = elim (cases_eq o 0) [
    | inl none ↦ inl (none, ap (λ (n : ℕ). map (type_of texts types) (listed b n)) none)
    | inr some ↦ inr (
      some,
      record {
        in_data = (placed.room some).in_data;
        aligned = (placed.room some).aligned;
        types = subst (λ (l : List ℕ). AllZip (TypeRow b) l (map (type_of texts types) (listed b o))) (listed_is b o some) (spelled_rows (listed b o) h);
      },
    )
  ]

  -- a list whose letters are spelled
  pub spelled_checked : (o : ℕ) (j : CheckedList) (text ns : List ℕ) → IsPlaced b o j.span → text ≡ text_of texts j.shorty → ns ≡ span_of (file_numbers b) j.span → IsSpelled letters text j.letter ns → IsChecked b texts types o j
  spelled_checked o j text ns placed is part h =
      let no_void : NoVoid letters (listed b o) = subst (NoVoid letters) (part ∙ placed.is) h.no_void in
      record {
        listed = record {
          parameters = record { list = list_encoded o j.span placed no_void; values = spelled_values (listed b o) no_void };
          span = placed.span;
          is = placed.is;
        };
        shorty = sym is ∙ h.text_is ∙ ap (λ (l : List ℕ). j.letter ∷ l) (spelled_letters ns h.no_void ∙ ap (letters_of texts types) part);
      }

  row_letter : (n : ℕ) (t : Text) → TypeRow b n t → letter_in letters n ≡ shorty_letter t
  row_letter n t row = letter_is n (omega (arith, row.row, names.types_are.count)) ∙ ap shorty_letter (one_type b n _ t (names.types_are.each n 0 row.row).is row)

  rows_spelled : (ns : List ℕ) (ts : List Text) → AllZip (TypeRow b) ns ts → letters_in letters ns ≡ map shorty_letter ts
  rows_spelled [] [] h = refl
  rows_spelled (n ∷ ns) (t ∷ ts) h = let first = row_letter n t h.0 in let rest = rows_spelled ns ts h.1 in λ i. first i ∷ rest i
  rows_spelled _ _ h = absurd h

  rows_no_void : (ns : List ℕ) (ts : List Text) → AllZip (TypeRow b) ns ts → All IsValueType ts → NoVoid letters ns
  rows_no_void [] ts h v = All-nil (λ m. letter_in letters m ≢ 0x56)
  rows_no_void (n ∷ ns) [] h v = absurd h
  rows_no_void (n ∷ ns) (t ∷ ts) h v = All-cons (λ m. letter_in letters m ≢ 0x56) n ns (λ e. void_letter t (All-head IsValueType t ts v) (sym (row_letter n t h.0) ∙ e))
      (rows_no_void ns ts h.1 (All-tail IsValueType t ts v))

  -- and one whose letters are not
  pub not_spelled : (o l : ℕ) (s : Span) (text ns : List ℕ) → IsPlaced b o s → ns ≡ span_of (file_numbers b) s → (IsSpelled letters text l ns → ⊥) → NotListedAs b o l text
  not_spelled o l s text ns placed part not ts list values is =
      let rows : AllZip (TypeRow b) ns ts = subst (λ (m : List ℕ). AllZip (TypeRow b) m ts) (sym (part ∙ placed.is)) (listed_zip b o ts list) in
      not (record { text_is = is ∙ ap (λ (m : List ℕ). l ∷ m) (sym (rows_spelled ns ts rows)); no_void = rows_no_void ns ts rows values })

-- and none has other units as its shorty
pub other_units : (b : List ℕ) (o l : ℕ) (text : Text) → IsAscii l → (¬ All IsAscii text) → NotListedAs b o l text
other_units b o l text letter other ts list values is = other (subst (All IsAscii) (sym is) (All-cons IsAscii l (map shorty_letter ts) letter (letters_ascii ts values)))
