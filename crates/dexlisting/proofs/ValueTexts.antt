-- Values and annotations of the code in a full listing.
use Rattle.std.proofs.Common.{ℕ, suc, zero, ◌≡◌, ◌<◌, List, [], ◌∷◌, ◌++◌, length, map, take, get_or, refl, ap, sym, ◌∙◌, subst, arith, append_assoc}
use Rattle.std.specs.Prelude.{codes}
use Rattle.std.specs.List.{flat_map}
use Rattle.std.proofs.lemmas.List.{get_or-map, length-map}
use Rattle.dexspec.specs.Mentions.{Mentions}
use Rattle.dexval.specs.declared.value.Value.{Value}
use Rattle.dexval.specs.declared.value.Element.{Element}
use Rattle.dexval.specs.Code.{value_of, element_of}
use Rattle.dexval.specs.Numbered.{NumberedValue, NumberedValues, values_of_list, elements_of_list, value_in, values_in, elements_in, text_at, IsKnown, AreKnown, HaveKnown}
use Rattle.dexval.proofs.Members.{element_is}
use Rattle.dexlisting.specs.FullListing.{plain, value_text, values_text, elements_text}

module _ {O : Type 0} (gives : List ℕ → O → O → Type 0) (m : Mentions) where
  -- a value that is this one by its numbers
  pub value_given : (v : Value) (x : NumberedValue) {text : List ℕ} {a b : O} → value_of v ≡ x → text ≡ value_text (value_in m x) → gives text a b → gives (value_text (value_in m (value_of v))) a b
  value_given v x {text} {a} {b} is same h = subst (λ z. gives z a b) (same ∙ ap (λ y. value_text (value_in m y)) (sym is)) h

-- a value after a blank
abbrev pub one_value : Mentions → Value → List ℕ
one_value m v = codes " " ++ value_text (value_in m (value_of v))

pub values_are : (m : Mentions) (vs : List Value) → flat_map (one_value m) vs ++ codes " }" ≡ values_text (values_in m (values_of_list (map value_of vs)))
values_are m [] = refl
values_are m (v ∷ vs) =
    append_assoc (one_value m v) (flat_map (one_value m) vs) (codes " }")
    ∙ ap (λ r. one_value m v ++ r) (values_are m vs)
    ∙ append_assoc (codes " ") (value_text (value_in m (value_of v))) (values_text (values_in m (values_of_list (map value_of vs))))

-- an element after a blank
abbrev pub one_element : Mentions → Element → List ℕ
one_element m e = codes " " ++ (plain (text_at m e.name) ++ (codes "=" ++ value_text (value_in m (value_of e.value))))

pub elements_are : (m : Mentions) (es : List Element) → flat_map (one_element m) es ++ codes " }" ≡ elements_text (elements_in m (elements_of_list (map element_of es)))
elements_are m [] = refl
elements_are m (e ∷ es) =
    let rest = elements_text (elements_in m (elements_of_list (map element_of es))) in
    let value = value_text (value_in m (value_of e.value)) in
    append_assoc (one_element m e) (flat_map (one_element m) es) (codes " }")
    ∙ ap (λ r. one_element m e ++ r) (elements_are m es)
    ∙ append_assoc (codes " ") (plain (text_at m e.name) ++ (codes "=" ++ value)) rest
    ∙ ap (λ r. codes " " ++ r) (append_assoc (plain (text_at m e.name)) (codes "=" ++ value) rest)
    ∙ ap (λ (x : ℕ × NumberedValue). elements_text (elements_in m (elements_of_list (x ∷ map element_of es)))) (sym (element_is e))

known_at : (m : Mentions) (ys : List NumberedValue) (i : ℕ) (y : NumberedValue) → i < length ys → AreKnown m (values_of_list ys) → IsKnown m (get_or ys i y)
known_at m [] i y lt known = absurd (omega (arith, lt))
known_at m (x ∷ xs) zero y lt known = known.0
known_at m (x ∷ xs) (suc i) y lt known = known_at m xs i y (omega (arith, lt)) known.1

-- each of the values is known
pub value_known : (m : Mentions) (vs : List Value) (i : ℕ) (d : Value) → i < length vs → d ≡ get_or vs i d → AreKnown m (values_of_list (map value_of vs)) → IsKnown m (value_of d)
value_known m vs i d lt e known =
    subst (IsKnown m) (get_or-map value_of vs i d (value_of d) lt ∙ ap value_of (sym e)) (known_at m (map value_of vs) i (value_of d) (omega (arith, length-map vs value_of, lt)) known)

known_element_at : (m : Mentions) (ys : List (ℕ × NumberedValue)) (i : ℕ) (y : ℕ × NumberedValue) → i < length ys → HaveKnown m (elements_of_list ys) → ((get_or ys i y).0 < length m.texts) × IsKnown m (get_or ys i y).1
known_element_at m [] i y lt known = absurd (omega (arith, lt))
known_element_at m ((n, x) ∷ xs) zero y lt known = (known.0, known.1)
known_element_at m ((n, x) ∷ xs) (suc i) y lt known = known_element_at m xs i y (omega (arith, lt)) known.2

-- each of the elements is known
pub element_known : (m : Mentions) (es : List Element) (i : ℕ) (d : Element) → i < length es → d ≡ get_or es i d → HaveKnown m (elements_of_list (map element_of es)) → (d.name < length m.texts) × IsKnown m (value_of d.value)
element_known m es i d lt e known =
    subst (λ (x : ℕ × NumberedValue). (x.0 < length m.texts) × IsKnown m x.1) (get_or-map element_of es i d (element_of d) lt ∙ ap element_of (sym e) ∙ element_is d)
    (known_element_at m (map element_of es) i (element_of d) (omega (arith, length-map es element_of, lt)) known)
