-- The lines of a class are read back.
use Rattle.dexspec.proofs.Common.{◌≡◌, ℕ, ◌<◌, ◌^◌, List, [], ◌++◌, Option, refl, sym, ap, subst, ◌∙◌, arith, codes, flat_map, option_map_or, AllByRecursion}
use Rattle.dexspec.specs.Texts.{Text, AreUnits}
use Rattle.dexspec.specs.Classes.{Body, Definition}
use Rattle.dexspec.specs.WellFormed.{IsWellFormed}
use Rattle.dexflags.specs.Flags.{OfClass, flags_text}
use Rattle.dexout.specs.Printed.{shown, quoted}
use Rattle.dexlisting.specs.Listing.{own_line, interface_line, source_line}
use Rattle.dexlisting.specs.FullListing.{text_or_dash, full_method_lines, full_class_lines}
use Rattle.dexlisting.proofs.law.Reads.{Reads, Anything, Lacks, IfAny, part, reads_words, reads_closed, reads_lines, reads_optional}
use Rattle.dexlisting.proofs.law.Parts.{reads_both, lacks_more}
use Rattle.dexlisting.proofs.law.Numbers.{reads_flags}
use Rattle.dexlisting.proofs.law.Texts.{reads_quoted}
use Rattle.dexlisting.proofs.law.Types.{KnownType, reads_type, reads_type_or_dash}
use Rattle.dexlisting.proofs.law.Annotations.{reads_set}
use Rattle.dexlisting.proofs.law.Fields.{KnownStatics, reads_static_fields, reads_instance_fields}
use Rattle.dexlisting.proofs.law.Methods.{KnownMethodDef, reads_method_def}
use Rattle.dexlisting.proofs.law.KnownClasses.{KnownClass, known_class}
use Rattle.dexlisting.proofs.law.ClassParts.{virtual_part, direct_part, instance_part, static_part, set_part, source_part, interface_part, virtual_lacks, direct_lacks, instance_lacks, static_lacks, set_lacks, source_lacks}

-- ---- lines

-- a name, flags and a superclass
abbrev Own : Type 0
Own = Text × (ℕ × Option Text)

-- of a class
abbrev own_of : Definition → Own
own_of d = (d.0, (d.1.flags, d.1.superclass))

-- their line
abbrev own_text : Own → List ℕ
own_text o = codes "class " ++ (shown o.0 ++ (codes " flags=" ++ (flags_text OfClass o.1.0 ++ (codes " super=" ++ (text_or_dash shown o.1.1 ++ codes "\n")))))

-- is read back
reads_own : Reads (λ o. KnownType o.0 × ((o.1.0 < 2 ^ 64) × IfAny KnownType o.1.1)) Anything own_text
reads_own = reads_words (codes "class ") (reads_both reads_type (λ y r g f. tt) (reads_words (codes " flags=") (reads_both (reads_flags OfClass) (λ y r g f. tt)
    (reads_words (codes " super=") (reads_closed (codes "\n") (λ r f. tt) reads_type_or_dash)))))

-- the lines of interfaces
reads_interfaces : Reads (AllByRecursion KnownType) (λ r. Anything r × Lacks (codes "  interface ") r) (flat_map interface_line)
unfolding interface_line
reads_interfaces = reads_lines (codes "  interface ") (λ t. shown t ++ codes "\n") (λ t. refl) (λ r. tt) (reads_words (codes "  interface ") (reads_closed (codes "\n") (λ r f. tt) reads_type))

-- the line of the source text
reads_source : Reads (IfAny AreUnits) (λ r. Anything r × Lacks (codes "  source ") r) (λ s. option_map_or source_line s [])
unfolding source_line
reads_source = reads_optional (codes "  source ") (λ t. quoted t ++ codes "\n") (λ t. refl) (reads_words (codes "  source ") (reads_closed (codes "\n") (λ r f. tt) reads_quoted))

-- the lines of methods after these words
reads_methods : (class words : List ℕ) → ((r : List ℕ) → Lacks (codes "    ") (words ++ r)) → Reads (AllByRecursion (KnownMethodDef class)) (λ r. Lacks (codes "    ") r × Lacks words r) (flat_map (full_method_lines class words))
unfolding full_method_lines
reads_methods class words ends = reads_lines words _ (λ m. refl) ends (reads_method_def class words)

-- ---- the whole

-- static fields and their values
statics_known : (class : Text) (c : Body) → KnownClass (class, c) → KnownStatics (c.static_fields, c.static_values)
statics_known class c g = record { fields = g.static_fields; values = g.static_values; few = g.formed.few_values }

-- all but the own line, for a class of this name, in front of what does not begin with two blanks
body_from : (class : Text) (x y : Body) (r s : List ℕ) → KnownClass (class, x) → KnownClass (class, y) → x.flags ≡ y.flags → x.superclass ≡ y.superclass → Lacks (codes "  ") r → Lacks (codes "  ") s
    → interface_part class x ++ r ≡ interface_part class y ++ s → (x ≡ y) × (r ≡ s)
body_from class x y r s gx gy flags superclass fr fs e =
    let out = λ (w t : List ℕ) (f : Lacks (codes "  ") t). lacks_more (codes "  ") w t f in
    let interfaces = part reads_interfaces x.interfaces y.interfaces (source_part class x) (source_part class y) r s gx.interfaces gy.interfaces
    (tt, source_lacks class x (codes "  interface ") r (out (codes "interface ") r fr) refl)
    (tt, source_lacks class y (codes "  interface ") s (out (codes "interface ") s fs) refl) e in
    let source = part reads_source x.source y.source (set_part class x) (set_part class y) r s gx.source gy.source
    (tt, set_lacks class x (codes "  source ") r (out (codes "source ") r fr) refl)
    (tt, set_lacks class y (codes "  source ") s (out (codes "source ") s fs) refl) interfaces.1 in
    let annotations = part (reads_set (codes "  ")) x.annotations y.annotations (static_part class x) (static_part class y) r s gx.annotations gy.annotations
    (static_lacks class x (codes "  annotation ") r (out (codes "annotation ") r fr) refl)
    (static_lacks class y (codes "  annotation ") s (out (codes "annotation ") s fs) refl) source.1 in
    let statics = part reads_static_fields (x.static_fields, x.static_values) (y.static_fields, y.static_values) (instance_part class x) (instance_part class y) r s
    (statics_known class x gx) (statics_known class y gy)
    (instance_lacks class x (codes "    annotation ") r (out (codes "  annotation ") r fr) refl, instance_lacks class x (codes "  static-field ") r (out (codes "static-field ") r fr) refl)
    (instance_lacks class y (codes "    annotation ") s (out (codes "  annotation ") s fs) refl, instance_lacks class y (codes "  static-field ") s (out (codes "static-field ") s fs) refl) annotations.1 in
    let instances = part reads_instance_fields x.instance_fields y.instance_fields (direct_part class x) (direct_part class y) r s gx.instance_fields gy.instance_fields
    (direct_lacks class x (codes "    annotation ") r (out (codes "  annotation ") r fr) refl, direct_lacks class x (codes "  instance-field ") r (out (codes "instance-field ") r fr) refl)
    (direct_lacks class y (codes "    annotation ") s (out (codes "  annotation ") s fs) refl, direct_lacks class y (codes "  instance-field ") s (out (codes "instance-field ") s fs) refl) statics.1 in
    let directs = part (reads_methods class (codes "  direct-method ") (λ t. refl)) x.direct_methods y.direct_methods (virtual_part class x) (virtual_part class y) r s gx.direct_methods gy.direct_methods
    (virtual_lacks class x (codes "    ") r (out (codes "  ") r fr) refl, virtual_lacks class x (codes "  direct-method ") r (out (codes "direct-method ") r fr) refl)
    (virtual_lacks class y (codes "    ") s (out (codes "  ") s fs) refl, virtual_lacks class y (codes "  direct-method ") s (out (codes "direct-method ") s fs) refl) instances.1 in
    let virtuals = (reads_methods class (codes "  virtual-method ") (λ t. refl)).read x.virtual_methods y.virtual_methods r s gx.virtual_methods gy.virtual_methods
    (out (codes "  ") r fr, out (codes "virtual-method ") r fr) (out (codes "  ") s fs, out (codes "virtual-method ") s fs) directs.1 in (
      (λ i. record {
        flags = flags i;
        superclass = superclass i;
        interfaces = interfaces.0 i;
        source = source.0 i;
        annotations = annotations.0 i;
        static_fields = (statics.0 i).0;
        instance_fields = instances.0 i;
        direct_methods = directs.0 i;
        virtual_methods = virtuals.0 i;
        static_values = (statics.0 i).1;
      }),
      virtuals.1,
    )

-- a class of another name, if the names are equal
renamed : (n m : Text) (c : Body) → n ≡ m → KnownClass (n, c) → KnownClass (m, c)
renamed n m c e g = subst (λ (t : Text). KnownClass (t, c)) e g

class_from : (d e : Definition) (r s : List ℕ) → IsWellFormed d → IsWellFormed e → Lacks (codes "  ") r → Lacks (codes "  ") s → full_class_lines d ++ r ≡ full_class_lines e ++ s → (d ≡ e) × (r ≡ s)
unfolding full_class_lines own_line
class_from d e r s is_d is_e fr fs same =
    let gd = known_class d is_d in
    let ge = known_class e is_e in
    let own = part reads_own (own_of d) (own_of e) (interface_part d.0 d.1) (interface_part e.0 e.1) r s
    (gd.name, (omega (arith, is_d.flags), gd.superclass)) (ge.name, (omega (arith, is_e.flags), ge.superclass)) tt tt same in
    let name : d.0 ≡ e.0 = ap (λ (o : Own). o.0) own.0 in
    let moved : interface_part e.0 d.1 ++ r ≡ interface_part e.0 e.1 ++ s = ap (λ (t : Text). interface_part t d.1 ++ r) (sym name) ∙ own.1 in
    let body = body_from e.0 d.1 e.1 r s (renamed d.0 e.0 d.1 name gd) ge (ap (λ (o : Own). o.1.0) own.0) (ap (λ (o : Own). o.1.1) own.0) fr fs moved in
    ((λ i. (name i, body.0 i)), body.1)

-- the lines of a class, in front of what does not begin with two blanks
pub reads_class : Reads IsWellFormed (Lacks (codes "  ")) full_class_lines
reads_class = record { read = class_from }
