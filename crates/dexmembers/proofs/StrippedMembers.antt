-- Members without their debug programs denote what they denoted without them, and stay known, in order, and of their
-- class. They keep their short strings and their tries.
use Rattle.dexmembers.proofs.Common.{◌≡◌, ℕ, List, [], ◌∷◌, ◌++◌, map, Option, Some, None, get_or, option_to_list, refl, ap, sym, ◌∙◌, subst, All, IfSome, flat_map, option_map, map-append, All-map, ShareNone, Text, Mentions, map-kept, code_in, IsKnownCode, NumberedItem, set_in, values_in, method_at}
use Rattle.dexspec.specs.Stripping.{strip_code, strip_method}
use Rattle.dexmembers.specs.{code_short_strings, method_short_strings, members_short_strings, NumberedMethod, NumberedMembers, field_in, method_in, members_in, methods_of, IsKnownMethod, AreKnownMembers, NumbersRise, AreOrdered, AreOfClass, method_tries, stripped_code, stripped_method, stripped_members, strip_members}
use Rattle.dexmembers.proofs.RenumberingLists.{both_ways}

code_stripped : (m : Mentions) (o : Option NumberedItem) → option_map (code_in m) (option_map stripped_code o) ≡ option_map strip_code (option_map (code_in m) o)
code_stripped m None = refl
code_stripped m (Some c) = refl

method_stripped : (m : Mentions) (x : NumberedMethod) → method_in m (stripped_method x) ≡ strip_method (method_in m x)
method_stripped m x = λ i. record {
  name = (method_at m x.number).name;
  proto = (method_at m x.number).proto;
  flags = x.flags;
  code = code_stripped m x.code i;
  annotations = set_in m x.annotations;
  parameter_annotations = map (set_in m) x.parameter_annotations;
}

pub members_stripped : (m : Mentions) (x : NumberedMembers) → members_in m (stripped_members x) ≡ strip_members (members_in m x)
members_stripped m x = λ i. record {
  annotations = set_in m x.annotations;
  static_fields = map (field_in m) x.static_fields;
  instance_fields = map (field_in m) x.instance_fields;
  direct_methods = both_ways stripped_method (method_in m) (method_in m) strip_method (method_stripped m) x.direct_methods i;
  virtual_methods = both_ways stripped_method (method_in m) (method_in m) strip_method (method_stripped m) x.virtual_methods i;
  static_values = values_in m x.static_values;
}

-- ---- what they stay

-- code that is known stays so
code_stays : (m : Mentions) (o : Option NumberedItem) → IfSome o (IsKnownCode m) → IfSome (option_map stripped_code o) (IsKnownCode m)
code_stays m None h = tt
code_stays m (Some c) h = record { pieces_known = h.pieces_known; tries_known = h.tries_known; debug_known = tt }

method_stays : (m : Mentions) (x : NumberedMethod) → IsKnownMethod m x → IsKnownMethod m (stripped_method x)
method_stays m x h = record { number_in = h.number_in; code_known = code_stays m x.code h.code_known; annotations_known = h.annotations_known; parameters_known = h.parameters_known }

methods_stay : (m : Mentions) (xs : List NumberedMethod) → All (IsKnownMethod m) xs → All (IsKnownMethod m) (map stripped_method xs)
methods_stay m xs h = All-map (IsKnownMethod m) stripped_method xs (λ k d lt. method_stays m (get_or xs k d) (h k d lt))

-- their numbers are those of symbols
pub stripped_known : (m : Mentions) (x : NumberedMembers) → AreKnownMembers m x → AreKnownMembers m (stripped_members x)
stripped_known m x h = record {
  annotations_known = h.annotations_known;
  static_fields_known = h.static_fields_known;
  instance_fields_known = h.instance_fields_known;
  direct_methods_known = methods_stay m x.direct_methods h.direct_methods_known;
  virtual_methods_known = methods_stay m x.virtual_methods h.virtual_methods_known;
  values_known = h.values_known;
}

abbrev number_of : NumberedMethod → ℕ
number_of y = y.number

-- methods keep their numbers
numbers_stay : (xs : List NumberedMethod) → map number_of (map stripped_method xs) ≡ map number_of xs
numbers_stay xs = map-kept stripped_method number_of (λ y. refl) xs

-- so they keep their order
pub stripped_ordered : (x : NumberedMembers) → AreOrdered x → AreOrdered (stripped_members x)
stripped_ordered x h =
    let direct = numbers_stay x.direct_methods in
    let virtual = numbers_stay x.virtual_methods in
    record {
      static_fields_rise = h.static_fields_rise;
      instance_fields_rise = h.instance_fields_rise;
      direct_methods_rise = subst NumbersRise (sym direct) h.direct_methods_rise;
      virtual_methods_rise = subst NumbersRise (sym virtual) h.virtual_methods_rise;
      fields_apart = h.fields_apart;
      methods_apart = subst (ShareNone (map number_of (map stripped_method x.direct_methods))) (sym virtual)
          (subst (λ ns. ShareNone ns (map number_of x.virtual_methods)) (sym direct) h.methods_apart);
    }

-- and are members of their class
pub stripped_own : (m : Mentions) (class : Text) (x : NumberedMembers) → AreOfClass m class x → AreOfClass m class (stripped_members x)
stripped_own m class x h = record {
  fields_of_class = h.fields_of_class;
  methods_of_class = subst (All (λ (y : NumberedMethod). (method_at m y.number).class ≡ class)) (map-append stripped_method x.direct_methods x.virtual_methods)
      (All-map (λ (y : NumberedMethod). (method_at m y.number).class ≡ class) stripped_method (methods_of x) (λ k d lt. h.methods_of_class k d lt));
}

-- ---- what they keep

code_strings_stay : (o : Option NumberedItem) → flat_map code_short_strings (option_to_list (option_map stripped_code o)) ≡ flat_map code_short_strings (option_to_list o)
code_strings_stay None = refl
code_strings_stay (Some c) = refl

strings_stay : (xs : List NumberedMethod) → flat_map method_short_strings (map stripped_method xs) ≡ flat_map method_short_strings xs
strings_stay [] = refl
strings_stay (x ∷ xs) = λ i. code_strings_stay x.code i ++ strings_stay xs i

methods_stripped_too : (x : NumberedMembers) → methods_of (stripped_members x) ≡ map stripped_method (methods_of x)
methods_stripped_too x = sym (map-append stripped_method x.direct_methods x.virtual_methods)

-- the texts that a const-string names
pub stripped_short_strings : (x : NumberedMembers) → members_short_strings (stripped_members x) ≡ members_short_strings x
stripped_short_strings x = ap (flat_map method_short_strings) (methods_stripped_too x) ∙ strings_stay (methods_of x)

tries_stay : (o : Option NumberedItem) → option_map (λ (c : NumberedItem). c.tries) (option_map stripped_code o) ≡ option_map (λ (c : NumberedItem). c.tries) o
tries_stay None = refl
tries_stay (Some c) = refl

-- and the tries of each method
pub stripped_tries : (x : NumberedMembers) → map method_tries (methods_of (stripped_members x)) ≡ map method_tries (methods_of x)
stripped_tries x = ap (map method_tries) (methods_stripped_too x) ∙ map-kept stripped_method method_tries (λ y. tries_stay y.code) (methods_of x)
