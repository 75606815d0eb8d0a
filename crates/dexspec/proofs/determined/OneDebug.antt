-- There is at most one operation of a debug program at an offset, in one size, and at most one program: the opcode
-- determines the kind of operation, and the opcode 0 ends the program.
use Rattle.dexspec.proofs.Common.{◌≡◌, ℕ, ◌+◌, ◌≤◌, List, [], ◌∷◌, length, Option, Some, None, refl, ap, sym, subst, ◌∙◌, arith, ℤ, pos, if◌then◌else◌, nat_lt, ◌==◌, le-ltb, Debug}
use Rattle.dexspec.specs.{Sequence, BothOrNone, BytesAt, Uleb128At, Uleb128p1At, Text, StringRow, TypeRow, Operation, AdvancePc, AdvanceLine, StartLocal, StartLocalExtended, EndLocal, RestartLocal, SetPrologueEnd, SetEpilogueBegin, SetFile, Special, OptionalTextAt, OptionalTypeAt, OperationAt, DebugAt}
use Rattle.dexspec.proofs.written.PlacedBytes.{same_first, is_at}
use Rattle.dexspec.proofs.lists.Sequences.{one_sequence}
use Rattle.dexspec.proofs.determined.OneNumber.{one_uleb128, one_sleb128, one_uleb128p1}
use Rattle.dexspec.proofs.determined.OneRow.{one_string, one_type}

-- ---- the value of an optional index

-- the value of a row, or nothing without an index
one_both : {X : Type 0} (R : ℕ → X → Type 0) → ((i : ℕ) (x y : X) → R i x → R i y → x ≡ y) → (i : Option ℕ) (x y : Option X) → BothOrNone R i x → BothOrNone R i y → x ≡ y
one_both R one None None None h g = refl
one_both R one None (Some x) y h g = absurd h
one_both R one (Some i) None y h g = absurd h
one_both R one (Some i) (Some x) (Some y) h g = ap Some (one i x y h g)
one_both _ one _ _ _ h g = absurd g

-- an optional index has at most one value
one_optional : {X : Type 0} (Row : List ℕ → ℕ → X → Type 0) → ((b : List ℕ) (i : ℕ) (x y : X) → Row b i x → Row b i y → x ≡ y)
    → (b : List ℕ) (o : ℕ) (x y : Option X) (n k : ℕ)
    → (i : Option ℕ) × Uleb128p1At b o i n × BothOrNone (Row b) i x → (i : Option ℕ) × Uleb128p1At b o i k × BothOrNone (Row b) i y → (x ≡ y) × (n ≡ k)
one_optional Row one b o x y n k h g =
    let index = one_uleb128p1 b o h.0 g.0 n k h.1 g.1 in
    (one_both (Row b) (one b) g.0 x y (subst (λ i. BothOrNone (Row b) i x) index.0 h.2) g.2, index.1)

-- one text, or nothing
pub one_optional_text : (b : List ℕ) (o : ℕ) (s t : Option Text) (n k : ℕ) → OptionalTextAt b o s n → OptionalTextAt b o t k → (s ≡ t) × (n ≡ k)
one_optional_text = one_optional StringRow one_string

-- one type, or nothing
pub one_optional_type : (b : List ℕ) (o : ℕ) (s t : Option Text) (n k : ℕ) → OptionalTypeAt b o s n → OptionalTypeAt b o t k → (s ≡ t) × (n ≡ k)
one_optional_type = one_optional TypeRow one_type

-- ---- the kinds of operation, by opcode

-- the first byte of an operation
abbrev opcode_of : Operation → ℕ
opcode_of (AdvancePc addresses) = 0x01
opcode_of (AdvanceLine lines) = 0x02
opcode_of (StartLocal register name type) = 0x03
opcode_of (StartLocalExtended register name type signature) = 0x04
opcode_of (EndLocal register) = 0x05
opcode_of (RestartLocal register) = 0x06
opcode_of SetPrologueEnd = 0x07
opcode_of SetEpilogueBegin = 0x08
opcode_of (SetFile name) = 0x09
opcode_of (Special opcode) = opcode

-- the parts of an operation of any kind
abbrev number_part : Operation → ℕ
number_part (AdvancePc addresses) = addresses
number_part (StartLocal register name type) = register
number_part (StartLocalExtended register name type signature) = register
number_part (EndLocal register) = register
number_part (RestartLocal register) = register
number_part _ = 0

-- the lines that it advances by
abbrev lines_part : Operation → ℤ
lines_part (AdvanceLine lines) = lines
lines_part _ = pos 0

-- the name in it
abbrev name_part : Operation → Option Text
name_part (StartLocal register name type) = name
name_part (StartLocalExtended register name type signature) = name
name_part (SetFile name) = name
name_part _ = None

-- the type in it
abbrev type_part : Operation → Option Text
type_part (StartLocal register name type) = type
type_part (StartLocalExtended register name type signature) = type
type_part _ = None

-- the signature in it
abbrev signature_part : Operation → Option Text
signature_part (StartLocalExtended register name type signature) = signature
signature_part _ = None

-- the operation of an opcode with the parts of another
abbrev with_opcode : ℕ → Operation → Operation
with_opcode c op =
    if nat_lt c 0x0a then
    (if c == 0x01 then AdvancePc (number_part op)
    else if c == 0x02 then AdvanceLine (lines_part op)
    else if c == 0x03 then StartLocal (number_part op) (name_part op) (type_part op)
    else if c == 0x04 then StartLocalExtended (number_part op) (name_part op) (type_part op) (signature_part op)
    else if c == 0x05 then EndLocal (number_part op)
    else if c == 0x06 then RestartLocal (number_part op)
    else if c == 0x07 then SetPrologueEnd
    else if c == 0x08 then SetEpilogueBegin
    else SetFile (name_part op))
    else Special c

-- from 0x0a on the opcode alone determines the operation
special_code : (c : ℕ) (op : Operation) → 0x0a ≤ c → with_opcode c op ≡ Special c
special_code c op high = rw (le-ltb c 0x0a high) refl

-- an operation by its opcode: the first byte, and the operation that is rebuilt from it
record ByOpcode (b : List ℕ) (o : ℕ) (op : Operation) : Type 0 where
  encodes : BytesAt b o (opcode_of op ∷ [])
  some : 1 ≤ opcode_of op
  own : with_opcode (opcode_of op) op ≡ op

-- each operation in a file is determined by its opcode
by_opcode : (b : List ℕ) (o : ℕ) (op : Operation) (n : ℕ) → OperationAt b o op n → ByOpcode b o op
by_opcode b o (Special opcode) n h = record { encodes = h.0; some = omega (arith, h.1); own = special_code opcode (Special opcode) h.1 }
by_opcode b o _ n h = record { encodes = h.0; some = omega arith; own = refl }

-- operations at one offset have the same kind
same_kind : (b : List ℕ) (o : ℕ) (x y : Operation) (n k : ℕ) → OperationAt b o x n → OperationAt b o y k → y ≡ with_opcode (opcode_of x) y
same_kind b o x y n k h g =
    let p = by_opcode b o x n h in
    let q = by_opcode b o y k g in
    sym q.own ∙ ap (λ (c : ℕ). with_opcode c y) (same_first (opcode_of y) (opcode_of x) [] [] q.encodes p.encodes)

-- ---- operations at an offset

-- an operation of one operand, of a known kind
one_operand : {X : Type 0} (make : X → Operation) (x y : X) (w : Operation) (n k i j : ℕ) → w ≡ make y → n ≡ 1 + i → k ≡ 1 + j → (x ≡ y) × (i ≡ j) → (make x ≡ w) × (n ≡ k)
one_operand make x y w n k i j e is is' same = (ap make same.0 ∙ sym e, omega (arith, same.1))

-- there is at most one operation at an offset
pub one_operation : (b : List ℕ) (o : ℕ) (x y : Operation) (n k : ℕ) → OperationAt b o x n → OperationAt b o y k → (x ≡ y) × (n ≡ k)
one_operation b o (AdvancePc addresses) y n k h g =
    let e = same_kind b o (AdvancePc addresses) y n k h g in
    let g' = subst (λ (z : Operation). OperationAt b o z k) e g in
    one_operand AdvancePc addresses (number_part y) y n k h.1 g'.1 e h.3 g'.3 (one_uleb128 b (o + 1) addresses (number_part y) h.1 g'.1 h.2 g'.2)
one_operation b o (AdvanceLine lines) y n k h g =
    let e = same_kind b o (AdvanceLine lines) y n k h g in
    let g' = subst (λ (z : Operation). OperationAt b o z k) e g in
    one_operand AdvanceLine lines (lines_part y) y n k h.1 g'.1 e h.3 g'.3 (one_sleb128 b (o + 1) lines (lines_part y) h.1 g'.1 h.2 g'.2)
one_operation b o (StartLocal register name type) y n k h g =
    let e = same_kind b o (StartLocal register name type) y n k h g in
    let g' = subst (λ (z : Operation). OperationAt b o z k) e g in
    let number = one_uleb128 b (o + 1) register (number_part y) h.1 g'.1 h.4 g'.4 in
    let at_name : o + 1 + h.1 ≡ o + 1 + g'.1 = omega (arith, number.1) in
    let names = one_optional_text b (o + 1 + g'.1) name (name_part y) h.2 g'.2 (subst (λ (p : ℕ). OptionalTextAt b p name h.2) at_name h.5) g'.5 in
    let at_type : o + 1 + h.1 + h.2 ≡ o + 1 + g'.1 + g'.2 = omega (arith, at_name, names.1) in
    let types = one_optional_type b (o + 1 + g'.1 + g'.2) type (type_part y) h.3 g'.3 (subst (λ (p : ℕ). OptionalTypeAt b p type h.3) at_type h.6) g'.6 in
    ((λ i. StartLocal (number.0 i) (names.0 i) (types.0 i)) ∙ sym e, omega (arith, number.1, names.1, types.1, h.7, g'.7))
one_operation b o (StartLocalExtended register name type signature) y n k h g =
    let e = same_kind b o (StartLocalExtended register name type signature) y n k h g in
    let g' = subst (λ (z : Operation). OperationAt b o z k) e g in
    let number = one_uleb128 b (o + 1) register (number_part y) h.1 g'.1 h.5 g'.5 in
    let at_name : o + 1 + h.1 ≡ o + 1 + g'.1 = omega (arith, number.1) in
    let names = one_optional_text b (o + 1 + g'.1) name (name_part y) h.2 g'.2 (subst (λ (p : ℕ). OptionalTextAt b p name h.2) at_name h.6) g'.6 in
    let at_type : o + 1 + h.1 + h.2 ≡ o + 1 + g'.1 + g'.2 = omega (arith, at_name, names.1) in
    let types = one_optional_type b (o + 1 + g'.1 + g'.2) type (type_part y) h.3 g'.3 (subst (λ (p : ℕ). OptionalTypeAt b p type h.3) at_type h.7) g'.7 in
    let at_signature : o + 1 + h.1 + h.2 + h.3 ≡ o + 1 + g'.1 + g'.2 + g'.3 = omega (arith, at_type, types.1) in
    let signatures = one_optional_text b (o + 1 + g'.1 + g'.2 + g'.3) signature (signature_part y) h.4 g'.4 (subst (λ (p : ℕ). OptionalTextAt b p signature h.4) at_signature h.8) g'.8 in
    ((λ i. StartLocalExtended (number.0 i) (names.0 i) (types.0 i) (signatures.0 i)) ∙ sym e, omega (arith, number.1, names.1, types.1, signatures.1, h.9, g'.9))
one_operation b o (EndLocal register) y n k h g =
    let e = same_kind b o (EndLocal register) y n k h g in
    let g' = subst (λ (z : Operation). OperationAt b o z k) e g in
    one_operand EndLocal register (number_part y) y n k h.1 g'.1 e h.3 g'.3 (one_uleb128 b (o + 1) register (number_part y) h.1 g'.1 h.2 g'.2)
one_operation b o (RestartLocal register) y n k h g =
    let e = same_kind b o (RestartLocal register) y n k h g in
    let g' = subst (λ (z : Operation). OperationAt b o z k) e g in
    one_operand RestartLocal register (number_part y) y n k h.1 g'.1 e h.3 g'.3 (one_uleb128 b (o + 1) register (number_part y) h.1 g'.1 h.2 g'.2)
one_operation b o SetPrologueEnd y n k h g =
    let e = same_kind b o SetPrologueEnd y n k h g in
    let g' = subst (λ (z : Operation). OperationAt b o z k) e g in
    (sym e, h.1 ∙ sym g'.1)
one_operation b o SetEpilogueBegin y n k h g =
    let e = same_kind b o SetEpilogueBegin y n k h g in
    let g' = subst (λ (z : Operation). OperationAt b o z k) e g in
    (sym e, h.1 ∙ sym g'.1)
one_operation b o (SetFile name) y n k h g =
    let e = same_kind b o (SetFile name) y n k h g in
    let g' = subst (λ (z : Operation). OperationAt b o z k) e g in
    one_operand SetFile name (name_part y) y n k h.1 g'.1 e h.3 g'.3 (one_optional_text b (o + 1) name (name_part y) h.1 g'.1 h.2 g'.2)
one_operation b o (Special opcode) y n k h g =
    let e = same_kind b o (Special opcode) y n k h g ∙ special_code opcode y h.1 in
    let g' = subst (λ (z : Operation). OperationAt b o z k) e g in
    (sym e, h.3 ∙ sym g'.3)

-- ---- programs

-- there is no operation where a program ends
not_end : (b : List ℕ) (o p : ℕ) (op : Operation) (n : ℕ) → p ≡ o → BytesAt b p (0x00 ∷ []) → ¬ OperationAt b o op n
not_end b o p op n e end h =
    let q = by_opcode b o op n h in
    let zero_code = same_first (opcode_of op) 0x00 [] [] q.encodes (is_at e end) in
    omega (arith, q.some, zero_code)

-- operations up to the end
pub one_program : (b : List ℕ) (o : ℕ) (xs ys : List Operation) (n k : ℕ) → Sequence OperationAt b o xs n → Sequence OperationAt b o ys k → BytesAt b (o + n) (0x00 ∷ []) → BytesAt b (o + k) (0x00 ∷ []) → (xs ≡ ys) × (n ≡ k)
one_program b o [] [] n k h g end end' = (refl, h ∙ sym g)
one_program b o [] (y ∷ ys) n k h g end end' = absurd (not_end b o (o + n) y g.0 (omega arith) end g.2)
one_program b o (x ∷ xs) [] n k h g end end' = absurd (not_end b o (o + k) x h.0 (omega arith) end' h.2)
one_program b o (x ∷ xs) (y ∷ ys) n k h g end end' =
    let first = one_operation b o x y h.0 g.0 h.2 g.2 in
    let rest = one_program b (o + g.0) xs ys h.1 g.1 (subst (λ (i : ℕ). Sequence OperationAt b (o + i) xs h.1) first.1 h.3) g.3 (is_at (omega (arith, first.1, h.4)) end) (is_at (omega (arith, g.4)) end') in
    ((λ i. first.0 i ∷ rest.0 i), omega (arith, h.4, g.4, first.1, rest.1))

-- there is at most one debug program at an offset
pub one_debug : (b : List ℕ) (o : ℕ) (d e : Debug) → DebugAt b o d → DebugAt b o e → d ≡ e
one_debug b o d e h g =
    let start = one_uleb128 b o d.line_start e.line_start h.start_size g.start_size h.line_start g.line_start in
    let at_count : o + h.start_size ≡ o + g.start_size = omega (arith, start.1) in
    let count = one_uleb128 b (o + g.start_size) (length d.parameter_names) (length e.parameter_names) h.count_size g.count_size (subst (λ (p : ℕ). Uleb128At b p (length d.parameter_names) h.count_size) at_count h.count) g.count in
    let at_names : o + h.start_size + h.count_size ≡ o + g.start_size + g.count_size = omega (arith, at_count, count.1) in
    let names = one_sequence OptionalTextAt one_optional_text b (o + g.start_size + g.count_size) d.parameter_names e.parameter_names h.names_size g.names_size count.0
    (subst (λ (p : ℕ). Sequence OptionalTextAt b p d.parameter_names h.names_size) at_names h.names) g.names in
    let at_operations : o + h.start_size + h.count_size + h.names_size ≡ o + g.start_size + g.count_size + g.names_size = omega (arith, at_names, names.1) in
    let operations = one_program b (o + g.start_size + g.count_size + g.names_size) d.operations e.operations h.operations_size g.operations_size
    (subst (λ (p : ℕ). Sequence OperationAt b p d.operations h.operations_size) at_operations h.operations) g.operations
    (is_at (omega (arith, at_operations)) h.end) g.end in
    λ i. record { line_start = start.0 i; parameter_names = names.0 i; operations = operations.0 i }
