-- The parts of the lines of a class, each with those after it, and words with which none of these begins.
use Rattle.dexspec.proofs.Common.{and_parts, list_all, true, ◌≡◌, ℕ, true, List, [], ◌∷◌, ◌++◌, refl, codes, flat_map, option_map_or}
use Rattle.dexspec.specs.Texts.{Text}
use Rattle.dexspec.specs.Symbols.{MethodSymbol}
use Rattle.dexspec.specs.Values.{Values, NoValues, ThenValue}
use Rattle.dexspec.specs.Classes.{Body, FieldDef, MethodDef}
use Rattle.dexflags.specs.Flags.{OfField, OfMethod, flags_text}
use Rattle.dexout.specs.Printed.{shown, quoted}
use Rattle.dexlisting.specs.Listing.{own_field_text, own_method_text, symbol_text, interface_line, source_line}
use Rattle.dexlisting.specs.FullListing.{plain, annotation_line, set_lines, parameter_lines, full_field_lines, static_field_lines, instance_field_lines, full_code_lines, full_method_lines, visibility_text, elements_text}
use Rattle.dexlisting.proofs.law.Reads.{Lacks}
use Rattle.dexlisting.proofs.law.Words.{apart}
use Rattle.dexlisting.proofs.law.Parts.{lacks_apart, lacks_list, lacks_option, lacks_both}

-- ---- parts

-- virtual methods
abbrev pub virtual_part : Text → Body → List ℕ
virtual_part class c = flat_map (full_method_lines class (codes "  virtual-method ")) c.virtual_methods

-- direct methods, and what is after them
abbrev pub direct_part : Text → Body → List ℕ
direct_part class c = flat_map (full_method_lines class (codes "  direct-method ")) c.direct_methods ++ virtual_part class c

-- instance fields
abbrev pub instance_part : Text → Body → List ℕ
instance_part class c = flat_map instance_field_lines c.instance_fields ++ direct_part class c

-- static fields
abbrev pub static_part : Text → Body → List ℕ
static_part class c = static_field_lines c.static_fields c.static_values ++ instance_part class c

-- annotations
abbrev pub set_part : Text → Body → List ℕ
set_part class c = set_lines (codes "  ") c.annotations ++ static_part class c

-- the source text
abbrev pub source_part : Text → Body → List ℕ
source_part class c = option_map_or source_line c.source [] ++ set_part class c

-- interfaces
abbrev pub interface_part : Text → Body → List ℕ
interface_part class c = flat_map interface_line c.interfaces ++ source_part class c

-- ---- words

-- the lines of a method after its words
abbrev after_method_words : Text → MethodDef → List ℕ
after_method_words class m = own_method_text plain m.name m.proto ++ (codes " flags=" ++ (flags_text OfMethod m.flags ++ (codes "\n"
    ++ (set_lines (codes "    ") m.annotations ++ (parameter_lines 0 m.parameter_annotations
    ++ option_map_or (full_code_lines (symbol_text plain (MethodSymbol (record { class = class; name = m.name; proto = m.proto })))) m.code [])))))

-- the lines of a field after its words
abbrev after_field_words : FieldDef → List ℕ
after_field_words f = own_field_text plain f.name f.type ++ (codes " flags=" ++ (flags_text OfField f.flags ++ (codes "\n" ++ set_lines (codes "    ") f.annotations)))

-- words that differ from these
abbrev pub Differs : List ℕ → List (List ℕ) → Type 0
Differs w words = list_all (apart w) words ≡ true

-- of virtual methods
abbrev pub virtual_words : List (List ℕ)
virtual_words = codes "  virtual-method " ∷ []

-- of direct methods, and of what is after them
abbrev pub direct_words : List (List ℕ)
direct_words = codes "  direct-method " ∷ virtual_words

-- of instance fields
abbrev pub instance_words : List (List ℕ)
instance_words = codes "  instance-field " ∷ direct_words

-- of static fields
abbrev pub static_words : List (List ℕ)
static_words = codes "  static-field " ∷ instance_words

-- of annotations
abbrev pub set_words : List (List ℕ)
set_words = codes "  annotation " ∷ static_words

-- of the source text
abbrev pub source_words : List (List ℕ)
source_words = codes "  source " ∷ set_words

-- ---- what does not begin with words

-- lines of static fields
statics_lack : (w : List ℕ) → apart w (codes "  static-field ") ≡ true → (fs : List FieldDef) (vs : Values) (r : List ℕ) → Lacks w r → Lacks w (static_field_lines fs vs ++ r)
unfolding full_field_lines
statics_lack w differs [] vs r out = out
statics_lack w differs (f ∷ fs) NoValues r out = lacks_apart w (codes "  static-field ") _ differs
statics_lack w differs (f ∷ fs) (ThenValue v vs) r out = lacks_apart w (codes "  static-field ") _ differs

module _ (class : Text) (c : Body) (w r : List ℕ) (out : Lacks w r) where
  -- the first of some words, and the others
  parts_of : (first : List ℕ) (more : List (List ℕ)) → Differs w (first ∷ more) → (apart w first ≡ true) × Differs w more
  parts_of first more differs = and_parts (apart w first) (list_all (apart w) more) differs

  -- virtual methods
  pub virtual_lacks : Differs w virtual_words → Lacks w (virtual_part class c ++ r)
  unfolding full_method_lines
  virtual_lacks differs = lacks_list (codes "  virtual-method ") (after_method_words class) (λ m. refl) w (parts_of (codes "  virtual-method ") [] differs).0 c.virtual_methods r out

  -- direct methods
  pub direct_lacks : Differs w direct_words → Lacks w (direct_part class c ++ r)
  unfolding full_method_lines
  direct_lacks differs =
      let p = parts_of (codes "  direct-method ") virtual_words differs in
      lacks_both w (flat_map (full_method_lines class (codes "  direct-method ")) c.direct_methods) (virtual_part class c) r
      (lacks_list (codes "  direct-method ") (after_method_words class) (λ m. refl) w p.0 c.direct_methods (virtual_part class c ++ r)) (virtual_lacks p.1)

  -- instance fields
  pub instance_lacks : Differs w instance_words → Lacks w (instance_part class c ++ r)
  unfolding full_field_lines
  instance_lacks differs =
      let p = parts_of (codes "  instance-field ") direct_words differs in
      lacks_both w (flat_map instance_field_lines c.instance_fields) (direct_part class c) r
      (lacks_list (codes "  instance-field ") after_field_words (λ f. refl) w p.0 c.instance_fields (direct_part class c ++ r)) (direct_lacks p.1)

  -- static fields
  pub static_lacks : Differs w static_words → Lacks w (static_part class c ++ r)
  static_lacks differs =
      let p = parts_of (codes "  static-field ") instance_words differs in
      lacks_both w (static_field_lines c.static_fields c.static_values) (instance_part class c) r (statics_lack w p.0 c.static_fields c.static_values (instance_part class c ++ r)) (instance_lacks p.1)

  -- annotations
  pub set_lacks : Differs w set_words → Lacks w (set_part class c ++ r)
  unfolding annotation_line
  set_lacks differs =
      let p = parts_of (codes "  annotation ") static_words differs in
      lacks_both w (set_lines (codes "  ") c.annotations) (static_part class c) r
      (lacks_list (codes "  annotation ") (λ x. visibility_text x.visibility ++ (codes " " ++ (shown x.type ++ (codes " {" ++ (elements_text x.elements ++ codes "\n"))))) (λ x. refl) w p.0 c.annotations (static_part class c ++ r))
      (static_lacks p.1)

  -- the source text
  pub source_lacks : Differs w source_words → Lacks w (source_part class c ++ r)
  unfolding source_line
  source_lacks differs =
      let p = parts_of (codes "  source ") set_words differs in
      lacks_both w (option_map_or source_line c.source []) (set_part class c) r
      (lacks_option (codes "  source ") (λ t. quoted t ++ codes "\n") (λ t. refl) w p.0 c.source (set_part class c ++ r)) (set_lacks p.1)
