-- Listings, as docs/FORMAT.md says.
use Rattle.std.proofs.Common.{ℕ, negsuc, true, ◌≡◌, refl, Some, None, List, [], ◌∷◌}
use Rattle.std.specs.Prelude.{codes}
use Rattle.dexspec.specs.Symbols.{TextSymbol, TypeSymbol, ProtoSymbol, FieldSymbol, MethodSymbol}
use Rattle.dexspec.specs.Pieces.{Instruction}
use Rattle.dexspec.specs.Values.{ByteValue, DoubleValue, ArrayValue, NullValue, BooleanValue, NoValues, ThenValue}
use Rattle.dexspec.specs.Classes.{Definition}
use Rattle.dexspec.specs.Opcodes.{opcode_of, opcode_runs}
use Rattle.std.specs.Fmt.{digits}
use Rattle.dexout.specs.Printed.{shown, count_text, place_text}
use Rattle.dexlisting.specs.FullListing.{full_class_lines, full_method_lines, full_code_lines, full_piece_line, instruction_text, entries_text, register_text, literal_text, target_text, signed_text, full_field_lines, operands_text, value_text, operation_lines, operation_line, annotation_line, try_lines, catch_line, catch_all_line, debug_lines}
use Rattle.dexlisting.specs.Listing.{symbol_text, payload_text, class_lines, own_line, method_lines, field_line, interface_line, source_line, counts_line}

-- the class of the method file
abbrev pub example : Definition
example = (
  codes "LA;",
  record {
    flags = 1;
    superclass = Some (codes "Ljava/lang/Object;");
    interfaces = [];
    source = None;
    annotations = [];
    static_fields = [];
    instance_fields = [];
    direct_methods = record {
      name = codes "m";
      proto = record { return_type = codes "V"; parameters = [] };
      flags = 9;
      code = Some (record {
        registers = 1;
        ins = 0;
        outs = 0;
        pieces = Instruction (0x1a ∷ 0 ∷ []) (Some (TextSymbol (codes "hi"))) ∷ Instruction (0xe ∷ []) None ∷ [];
        tries = [];
        debug = None;
      });
      annotations = [];
      parameter_annotations = [];
    } ∷ [];
    virtual_methods = [];
    static_values = NoValues;
  },
)

pub example_listed : class_lines example
    ≡ codes "class LA; flags=0x1(public) super=Ljava/lang/Object;\n  direct-method m()V flags=0x9(public,static)\n    code registers=1 ins=0 outs=0 units=3 tries=0\n    0000: const-string \"hi\"\n    0002: return-void\n"
unfolding class_lines own_line method_lines field_line interface_line source_line counts_line count_text place_text opcode_of opcode_runs digits
example_listed = refl

-- and all that it has
pub example_fully_listed : full_class_lines example
    ≡ codes "class LA; flags=0x1(public) super=Ljava/lang/Object;\n  direct-method m()V flags=0x9(public,static)\n    code registers=1 ins=0 outs=0 units=3 tries=0\n    0000: 001a 0000 | const-string v0, \"hi\"\tLA;->m()V\n    0002: 000e | return-void\tLA;->m()V\n"
unfolding full_class_lines own_line full_method_lines full_code_lines full_piece_line instruction_text register_text full_field_lines interface_line source_line counts_line count_text place_text opcode_of opcode_runs digits
example_fully_listed = refl

-- an interface that declares fields, a method without code, a source text, and has no superclass
abbrev pub interface : Definition
interface = (
  codes "LB;",
  record {
    flags = 0x601;
    superclass = None;
    interfaces = codes "LI;" ∷ codes "LJ;" ∷ [];
    source = Some (codes "B.java");
    annotations = [];
    static_fields = record { name = codes "x"; type = codes "I"; flags = 8; annotations = [] } ∷ [];
    instance_fields = record { name = codes "y"; type = codes "[J"; flags = 0x80; annotations = [] } ∷ [];
    direct_methods = [];
    virtual_methods = record {
      name = codes "n";
      proto = record { return_type = codes "V"; parameters = codes "I" ∷ codes "LA;" ∷ [] };
      flags = 0x401;
      code = None;
      annotations = [];
      parameter_annotations = [];
    } ∷ [];
    static_values = NoValues;
  },
)

pub interface_listed : class_lines interface
    ≡ codes "class LB; flags=0x601(public,interface,abstract) super=-\n  interface LI;\n  interface LJ;\n  source \"B.java\"\n  static-field x:I flags=0x8(static)\n  instance-field y:[J flags=0x80(transient)\n  virtual-method n(ILA;)V flags=0x401(public,abstract)\n"
unfolding class_lines own_line method_lines field_line interface_line source_line counts_line count_text place_text opcode_of opcode_runs digits
interface_listed = refl

-- what an instruction names
pub symbols_shown : (symbol_text shown (TypeSymbol (0x4c ∷ 0x41 ∷ 0x22 ∷ 0x3b ∷ [])) ≡ codes "LA\\\";") × (symbol_text shown (ProtoSymbol (record { return_type = codes "V"; parameters = codes "I" ∷ codes "[LA;" ∷ [] })) ≡ codes "(I[LA;)V")
    × (symbol_text shown (FieldSymbol (record { class = codes "LA;"; name = codes "x"; type = codes "I" })) ≡ codes "LA;->x:I")
    × (symbol_text shown (MethodSymbol (record { class = codes "LA;"; name = codes "m"; proto = record { return_type = codes "V"; parameters = [] } })) ≡ codes "LA;->m()V")
symbols_shown = (refl, refl, refl, refl)

-- places of units
pub places_shown : (place_text 0 ≡ codes "0000") × (place_text 0xabcd ≡ codes "abcd") × (place_text 0x12345 ≡ codes "12345") × (place_text 0xfffffff0 ≡ codes "fffffff0")
unfolding place_text digits
places_shown = (refl, refl, refl, refl)

-- units that are not printed as they are
pub texts_shown : shown (0x41 ∷ 0x22 ∷ 0x5c ∷ 0x7f ∷ 0x1f ∷ 0xd800 ∷ []) ≡ codes "A\\\"\\\\\\u007f\\u001f\\ud800"
texts_shown = refl

-- operands
pub operands_shown : (instruction_text 0 (0x2012 ∷ []) ≡ codes "const/4 v0, #+2") × (instruction_text 3 (0xff28 ∷ []) ≡ codes "goto 0002") × (instruction_text 0 (0x0315 ∷ 0xffff ∷ []) ≡ codes "const/high16 v3, #-65536")
    × (instruction_text 0 (0x2071 ∷ 0 ∷ 0x31 ∷ []) ≡ codes "invoke-static {v1, v3}") × (instruction_text 0 (0x0377 ∷ 0 ∷ 4 ∷ []) ≡ codes "invoke-static/range {v4 .. v6}") × (instruction_text 0 (0x00d8 ∷ 0xff01 ∷ []) ≡ codes "add-int/lit8 v0, v1, #-1")
unfolding instruction_text register_text literal_text target_text signed_text count_text place_text opcode_of opcode_runs digits
operands_shown = (refl, refl, refl, refl, refl, refl)

-- values
pub values_shown : (value_text (ByteValue (negsuc 0)) ≡ codes "byte #-1") × (value_text (DoubleValue 0x4000000000000000) ≡ codes "double-bits 4000000000000000") × (value_text (ArrayValue (ThenValue NullValue (ThenValue (BooleanValue true) NoValues))) ≡ codes "array { null true }")
unfolding literal_text signed_text count_text place_text digits
values_shown = (refl, refl, refl)

-- payloads
pub payloads_shown : (payload_text (0x100 ∷ 3 ∷ 0 ∷ 0 ∷ []) ≡ codes "packed-switch-payload size=3") × (payload_text (0x200 ∷ 2 ∷ []) ≡ codes "sparse-switch-payload size=2") × (payload_text (0x300 ∷ 4 ∷ 1 ∷ 1 ∷ []) ≡ codes "fill-array-data-payload width=4 size=65537")
unfolding count_text digits
payloads_shown = (refl, refl, refl)
