-- A debug program is at the offset of its canonical bytes, if each symbol is in the row of its index.
use Rattle.dexspec.proofs.Common.{ℕ, ◌+◌, ◌≤◌, List, [], ◌∷◌, ◌++◌, length, Option, Some, None, refl, arith, flat_map, Contains, length-append, All-contains, Debug, Mentions}
use Rattle.dexspec.specs.{Item, Sequence, BytesAt, uleb128, sleb128, Text, TextSymbol, TypeSymbol, data_off, Operation, AdvancePc, AdvanceLine, StartLocal, StartLocalExtended, EndLocal, RestartLocal, SetPrologueEnd, SetEpilogueBegin, SetFile, Special, OptionalTextAt, OptionalTypeAt, OperationAt, DebugAt, optional_text, optional_type, operation_symbols, debug_symbols, text_index, type_index, optional_text_bytes, optional_type_bytes, operation_bytes, debug_bytes, IsOperation, IsDebug}
use Rattle.dexspec.proofs.lists.Members.{Contains-first, Contains-later, Contains-flat_map}
use Rattle.dexspec.proofs.written.NumbersWritten.{prefix_is_at, suffix_is_at, head_is_at, tail_is_at, uleb128_written, sleb128_written, uleb128p1_written, AreInRows, first_in_row, prefix_in_rows, back_in_rows}

-- items in sequence, each at the offset of its bytes
pub sequence_of : {X : Type 0} (At : Item X) (f : X → List ℕ) (b : List ℕ) (xs : List X) → ((o : ℕ) (x : X) → Contains xs x → BytesAt b o (f x) → At b o x (length (f x)))
    → (o : ℕ) → BytesAt b o (flat_map f xs) → Sequence At b o xs (length (flat_map f xs))
sequence_of At f b [] each o h = refl
sequence_of At f b (x ∷ xs) each o h =
    let rest = flat_map f xs in (
      length (f x),
      length rest,
      each o x (Contains-first x xs) (prefix_is_at (f x) rest h),
      sequence_of At f b xs (λ p y c. each p y (Contains-later x y xs c)) (o + length (f x)) (suffix_is_at (f x) rest h),
      length-append (f x) rest,
    )

module _ (b : List ℕ) (m : Mentions) where
  -- an optional text
  optional_text_written : (o : ℕ) (s : Option Text) → AreInRows b m (optional_text s) → BytesAt b o (optional_text_bytes m s) → OptionalTextAt b o s (length (optional_text_bytes m s))
  optional_text_written o None are h = (None, uleb128p1_written b o None (omega arith) h, tt)
  optional_text_written o (Some s) are h =
      let row = first_in_row b m (TextSymbol s) [] are in
      (Some (text_index m s), uleb128p1_written b o (Some (text_index m s)) row.1 h, row.0)

  -- an optional type
  optional_type_written : (o : ℕ) (t : Option Text) → AreInRows b m (optional_type t) → BytesAt b o (optional_type_bytes m t) → OptionalTypeAt b o t (length (optional_type_bytes m t))
  optional_type_written o None are h = (None, uleb128p1_written b o None (omega arith) h, tt)
  optional_type_written o (Some t) are h =
      let row = first_in_row b m (TypeSymbol t) [] are in
      (Some (type_index m t), uleb128p1_written b o (Some (type_index m t)) row.1 h, row.0)

  -- an operation is at the offset of its bytes
  pub operation_written : (o : ℕ) (op : Operation) → IsOperation op → AreInRows b m (operation_symbols op) → BytesAt b o (operation_bytes m op) → OperationAt b o op (length (operation_bytes m op))
  operation_written o (AdvancePc addresses) is are h =
      let x = uleb128 addresses in
      (head_is_at 0x01 x h, length x, uleb128_written b (o + 1) addresses is (tail_is_at 0x01 x h), omega arith)
  operation_written o (AdvanceLine lines) is are h =
      let x = sleb128 lines in
      (head_is_at 0x02 x h, length x, sleb128_written b (o + 1) lines is (tail_is_at 0x02 x h), omega arith)
  operation_written o (StartLocal register name type) is are h =
      let r = uleb128 register in
      let s = optional_text_bytes m name in
      let t = optional_type_bytes m type in
      let following = tail_is_at 0x03 (r ++ (s ++ t)) h in
      let texts = suffix_is_at r (s ++ t) following in (
        head_is_at 0x03 (r ++ (s ++ t)) h,
        length r,
        length s,
        length t,
        uleb128_written b (o + 1) register is (prefix_is_at r (s ++ t) following),
        optional_text_written (o + 1 + length r) name (prefix_in_rows b m (optional_text name) (optional_type type) are) (prefix_is_at s t texts),
        optional_type_written (o + 1 + length r + length s) type (back_in_rows b m (optional_text name) (optional_type type) are) (suffix_is_at s t texts),
        omega (arith, length-append r (s ++ t), length-append s t),
      )
  operation_written o (StartLocalExtended register name type signature) is are h =
      let r = uleb128 register in
      let s = optional_text_bytes m name in
      let t = optional_type_bytes m type in
      let u = optional_text_bytes m signature in
      let others = back_in_rows b m (optional_text name) (optional_type type ++ optional_text signature) are in
      let following = tail_is_at 0x04 (r ++ (s ++ (t ++ u))) h in
      let texts = suffix_is_at r (s ++ (t ++ u)) following in
      let types = suffix_is_at s (t ++ u) texts in (
        head_is_at 0x04 (r ++ (s ++ (t ++ u))) h,
        length r,
        length s,
        length t,
        length u,
        uleb128_written b (o + 1) register is (prefix_is_at r (s ++ (t ++ u)) following),
        optional_text_written (o + 1 + length r) name (prefix_in_rows b m (optional_text name) (optional_type type ++ optional_text signature) are) (prefix_is_at s (t ++ u) texts),
        optional_type_written (o + 1 + length r + length s) type (prefix_in_rows b m (optional_type type) (optional_text signature) others) (prefix_is_at t u types),
        optional_text_written (o + 1 + length r + length s + length t) signature (back_in_rows b m (optional_type type) (optional_text signature) others) (suffix_is_at t u types),
        omega (arith, length-append r (s ++ (t ++ u)), length-append s (t ++ u), length-append t u),
      )
  operation_written o (EndLocal register) is are h =
      let x = uleb128 register in
      (head_is_at 0x05 x h, length x, uleb128_written b (o + 1) register is (tail_is_at 0x05 x h), omega arith)
  operation_written o (RestartLocal register) is are h =
      let x = uleb128 register in
      (head_is_at 0x06 x h, length x, uleb128_written b (o + 1) register is (tail_is_at 0x06 x h), omega arith)
  operation_written o SetPrologueEnd is are h = (h, refl)
  operation_written o SetEpilogueBegin is are h = (h, refl)
  operation_written o (SetFile name) is are h =
      let x = optional_text_bytes m name in
      (head_is_at 0x09 x h, length x, optional_text_written (o + 1) name are (tail_is_at 0x09 x h), omega arith)
  operation_written o (Special opcode) is are h = (h, is.0, is.1, refl)

  -- a debug program is at the offset of its bytes, in the data
  pub debug_written : (o : ℕ) (d : Debug) → IsDebug d → AreInRows b m (debug_symbols d) → data_off b ≤ o → BytesAt b o (debug_bytes m d) → DebugAt b o d
  unfolding debug_bytes
  debug_written o d is are in_data h =
      let start = uleb128 d.line_start in
      let count = uleb128 (length d.parameter_names) in
      let names = flat_map (optional_text_bytes m) d.parameter_names in
      let operations = flat_map (operation_bytes m) d.operations in
      let end = 0x00 ∷ [] in
      let at_count = suffix_is_at start (count ++ (names ++ (operations ++ end))) h in
      let at_names = suffix_is_at count (names ++ (operations ++ end)) at_count in
      let at_operations = suffix_is_at names (operations ++ end) at_names in
      let named = prefix_in_rows b m (flat_map optional_text d.parameter_names) (flat_map operation_symbols d.operations) are in
      let others = back_in_rows b m (flat_map optional_text d.parameter_names) (flat_map operation_symbols d.operations) are in
      record {
        in_data = in_data;
        start_size = length start;
        count_size = length count;
        names_size = length names;
        operations_size = length operations;
        line_start = uleb128_written b o d.line_start is.line_start (prefix_is_at start (count ++ (names ++ (operations ++ end))) h);
        count = uleb128_written b (o + length start) (length d.parameter_names) is.names (prefix_is_at count (names ++ (operations ++ end)) at_count);
        names =
            sequence_of OptionalTextAt (optional_text_bytes m) b d.parameter_names (λ p s c. optional_text_written p s (λ t l. named t (Contains-flat_map optional_text d.parameter_names s t c l)))
            (o + length start + length count) (prefix_is_at names (operations ++ end) at_names);
        operations =
            sequence_of OperationAt (operation_bytes m) b d.operations
            (λ p op c. operation_written p op (All-contains IsOperation d.operations op is.operations c) (λ t l. others t (Contains-flat_map operation_symbols d.operations op t c l)))
            (o + length start + length count + length names) (prefix_is_at operations end at_operations);
        end = suffix_is_at operations end at_operations;
      }
