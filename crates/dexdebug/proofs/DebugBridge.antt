-- Debug programs by the rows of their symbols and by the numbers of these.
use Rattle.dexdebug.proofs.Common.{◌≡◌, ℕ, ◌+◌, ◌<◌, ◌≤◌, List, [], ◌∷◌, length, take, drop, map, length-take, length-drop, Option, Some, None, refl, sym, subst, arith, All, All-nil, All-cons, length-map, option_map, ◌-◌, ◌^◌, Result, Ok, Err, IfOk, MatchOption, Sequence, BothOrNone, BytesAt, Uleb128At, Uleb128p1At, IsChain, Text, Mentions, Operation, AdvancePc, AdvanceLine, StartLocal, StartLocalExtended, EndLocal, RestartLocal, SetPrologueEnd, SetEpilogueBegin, SetFile, Special, DebugShape, NumberedDebug, IsKnownText, IsKnownOperation, debug_in, text_at, type_at, IsDebugAt, IndexAt, OperandsAt, NumberedAt, NamesAt, ProgramAt, NumberedDebugAt, IsShape, IsShapeAt, HasDebugOf, HasNoDebug, counts_of}
use Rattle.dexspec.specs.Header.{data_off}
use Rattle.dexspec.specs.Rows.{StringRow, TypeRow}
use Rattle.dexspec.specs.Debug as symbolic
use Rattle.dexpool.specs.Pools.{ArePools}
use Rattle.dexdebug.specs.Meaning.{operation_in}
use Rattle.dexdebug.proofs.DebugMeanings.{weight_is}

module _ (b : List ℕ) (m : Mentions) (pools : ArePools b m) where
  text_named : (o : ℕ) (i : Option ℕ) (n : ℕ) → IndexAt (length m.texts) b o i n → symbolic.OptionalTextAt b o (option_map (text_at m) i) n
  text_named o None n h = (None, h.0, tt)
  text_named o (Some k) n h = (Some k, h.0, pools.texts_are.each k [] (omega (arith, h.1, pools.texts_are.count)))

  type_named : (o : ℕ) (i : Option ℕ) (n : ℕ) → IndexAt (length m.types) b o i n → symbolic.OptionalTypeAt b o (option_map (type_at m) i) n
  type_named o None n h = (None, h.0, tt)
  type_named o (Some k) n h = (Some k, h.0, pools.types_are.each k [] (omega (arith, h.1, pools.types_are.count)))

  text_index_by : (o n : ℕ) (i : Option ℕ) (s : Option Text) → Uleb128p1At b o i n → BothOrNone (StringRow b) i s → IndexAt (length m.texts) b o i n
  text_index_by o n None s p h = (p, tt)
  text_index_by o n (Some k) None p h = absurd h
  text_index_by o n (Some k) (Some s) p h = let count = pools.texts_are.count in let row = h.row in (p, omega (arith, row, count))

  text_indexed : (o : ℕ) (s : Option Text) (n : ℕ) → symbolic.OptionalTextAt b o s n → (i : Option ℕ) × IndexAt (length m.texts) b o i n
  text_indexed o s n h = (h.0, text_index_by o n h.0 s h.1 h.2)

  type_index_by : (o n : ℕ) (i : Option ℕ) (t : Option Text) → Uleb128p1At b o i n → BothOrNone (TypeRow b) i t → IndexAt (length m.types) b o i n
  type_index_by o n None t p h = (p, tt)
  type_index_by o n (Some k) None p h = absurd h
  type_index_by o n (Some k) (Some t) p h = let count = pools.types_are.count in let row = h.row in (p, omega (arith, row, count))

  type_indexed : (o : ℕ) (t : Option Text) (n : ℕ) → symbolic.OptionalTypeAt b o t n → (i : Option ℕ) × IndexAt (length m.types) b o i n
  type_indexed o t n h = (h.0, type_index_by o n h.0 t h.1 h.2)

  -- ---- operations

  coded : (o c k : ℕ) → c ≡ k → BytesAt b o (c ∷ []) → BytesAt b o (k ∷ [])
  coded o c k e h = subst (λ (j : ℕ). BytesAt b o (j ∷ [])) e h

  operation_named : (o c : ℕ) (op : Operation) (n : ℕ) → BytesAt b o (c ∷ []) → c ≤ 0xff → OperandsAt (counts_of m) c b (o + 1) op n → symbolic.OperationAt b o (operation_in m op) (1 + n) × IsKnownOperation m op
  operation_named o c (AdvancePc addresses) n here byte h = ((coded o c 0x01 h.0 here, n, h.1, refl), record { name_known = tt; type_known = tt; signature_known = tt })
  operation_named o c (AdvanceLine lines) n here byte h = ((coded o c 0x02 h.0 here, n, h.1, refl), record { name_known = tt; type_known = tt; signature_known = tt })
  operation_named o c (StartLocal register i j) n here byte h =
      let s = text_named (o + 1 + h.1.register_size) i h.1.name_size h.1.at_name in
      let t = type_named (o + 1 + h.1.register_size + h.1.name_size) j h.1.type_size h.1.at_type in
      ((coded o c 0x03 h.0 here, h.1.register_size, h.1.name_size, h.1.type_size, h.1.at_register, s, t, omega (arith, h.1.size)), record { name_known = h.1.at_name.1; type_known = h.1.at_type.1; signature_known = tt })
  operation_named o c (StartLocalExtended register i j k) n here byte h =
      let s = text_named (o + 1 + h.1.at_local.register_size) i h.1.at_local.name_size h.1.at_local.at_name in
      let t = type_named (o + 1 + h.1.at_local.register_size + h.1.at_local.name_size) j h.1.at_local.type_size h.1.at_local.at_type in
      let place : o + 1 + h.1.local_size ≡ o + 1 + h.1.at_local.register_size + h.1.at_local.name_size + h.1.at_local.type_size = omega (arith, h.1.at_local.size) in
      let u = text_named (o + 1 + h.1.at_local.register_size + h.1.at_local.name_size + h.1.at_local.type_size) k h.1.signature_size (subst (λ (p : ℕ). IndexAt (length m.texts) b p k h.1.signature_size) place h.1.at_signature) in (
        (coded o c 0x04 h.0 here, h.1.at_local.register_size, h.1.at_local.name_size, h.1.at_local.type_size, h.1.signature_size, h.1.at_local.at_register, s, t, u, omega (arith, h.1.at_local.size, h.1.size)),
        record { name_known = h.1.at_local.at_name.1; type_known = h.1.at_local.at_type.1; signature_known = h.1.at_signature.1 },
      )
  operation_named o c (EndLocal register) n here byte h = ((coded o c 0x05 h.0 here, n, h.1, refl), record { name_known = tt; type_known = tt; signature_known = tt })
  operation_named o c (RestartLocal register) n here byte h = ((coded o c 0x06 h.0 here, n, h.1, refl), record { name_known = tt; type_known = tt; signature_known = tt })
  operation_named o c SetPrologueEnd n here byte h = ((coded o c 0x07 h.0 here, omega (arith, h.1)), record { name_known = tt; type_known = tt; signature_known = tt })
  operation_named o c SetEpilogueBegin n here byte h = ((coded o c 0x08 h.0 here, omega (arith, h.1)), record { name_known = tt; type_known = tt; signature_known = tt })
  operation_named o c (SetFile i) n here byte h = ((coded o c 0x09 h.0 here, n, text_named (o + 1) i n h.1, refl), record { name_known = h.1.1; type_known = tt; signature_known = tt })
  operation_named o c (Special opcode) n here byte h = ((coded o c opcode h.0 here, h.1, omega (arith, h.0, byte), omega (arith, h.2)), record { name_known = tt; type_known = tt; signature_known = tt })

  operation_numbered : (o : ℕ) (x : symbolic.Operation) (n : ℕ) → symbolic.OperationAt b o x n → (op : Operation) × NumberedAt (counts_of m) b o op n
  operation_numbered o (symbolic.AdvancePc addresses) n h = (AdvancePc addresses, record { opcode = 0x01; operands_size = h.1; at_opcode = h.0; byte = omega arith; operands = (refl, h.2); size = h.3 })
  operation_numbered o (symbolic.AdvanceLine lines) n h = (AdvanceLine lines, record { opcode = 0x02; operands_size = h.1; at_opcode = h.0; byte = omega arith; operands = (refl, h.2); size = h.3 })
  operation_numbered o (symbolic.StartLocal register name type) n h =
      let s = text_indexed (o + 1 + h.1) name h.2 h.5 in
      let t = type_indexed (o + 1 + h.1 + h.2) type h.3 h.6 in (
        StartLocal register s.0 t.0,
        record {
          opcode = 0x03;
          operands_size = h.1 + h.2 + h.3;
          at_opcode = h.0;
          byte = omega arith;
          operands = (refl, record { register_size = h.1; name_size = h.2; type_size = h.3; at_register = h.4; at_name = s.1; at_type = t.1; size = refl });
          size = omega (arith, h.7);
        },
      )
  operation_numbered o (symbolic.StartLocalExtended register name type signature) n h =
      let s = text_indexed (o + 1 + h.1) name h.2 h.6 in
      let t = type_indexed (o + 1 + h.1 + h.2) type h.3 h.7 in
      let u = text_indexed (o + 1 + h.1 + h.2 + h.3) signature h.4 h.8 in
      let place : o + 1 + h.1 + h.2 + h.3 ≡ o + 1 + (h.1 + h.2 + h.3) = omega arith in (
        StartLocalExtended register s.0 t.0 u.0,
        record {
          opcode = 0x04;
          operands_size = h.1 + h.2 + h.3 + h.4;
          at_opcode = h.0;
          byte = omega arith;
          operands = (
            refl,
            record {
              local_size = h.1 + h.2 + h.3;
              signature_size = h.4;
              at_local = record { register_size = h.1; name_size = h.2; type_size = h.3; at_register = h.5; at_name = s.1; at_type = t.1; size = refl };
              at_signature = subst (λ (p : ℕ). IndexAt (length m.texts) b p u.0 h.4) place u.1;
              size = refl;
            },
          );
          size = omega (arith, h.9);
        },
      )
  operation_numbered o (symbolic.EndLocal register) n h = (EndLocal register, record { opcode = 0x05; operands_size = h.1; at_opcode = h.0; byte = omega arith; operands = (refl, h.2); size = h.3 })
  operation_numbered o (symbolic.RestartLocal register) n h = (RestartLocal register, record { opcode = 0x06; operands_size = h.1; at_opcode = h.0; byte = omega arith; operands = (refl, h.2); size = h.3 })
  operation_numbered o symbolic.SetPrologueEnd n h = (SetPrologueEnd, record { opcode = 0x07; operands_size = 0; at_opcode = h.0; byte = omega arith; operands = (refl, refl); size = omega (arith, h.1) })
  operation_numbered o symbolic.SetEpilogueBegin n h = (SetEpilogueBegin, record { opcode = 0x08; operands_size = 0; at_opcode = h.0; byte = omega arith; operands = (refl, refl); size = omega (arith, h.1) })
  operation_numbered o (symbolic.SetFile name) n h = let s = text_indexed (o + 1) name h.1 h.2 in (SetFile s.0, record { opcode = 0x09; operands_size = h.1; at_opcode = h.0; byte = omega arith; operands = (refl, s.1); size = h.3 })
  operation_numbered o (symbolic.Special opcode) n h = (Special opcode, record { opcode = opcode; operands_size = 0; at_opcode = h.0; byte = h.2; operands = (refl, h.1, refl); size = omega (arith, h.3) })

  -- ---- one after the other

  operations_named : (o : ℕ) (ops : List Operation) (n : ℕ) → Sequence (NumberedAt (counts_of m)) b o ops n → Sequence symbolic.OperationAt b o (map (operation_in m) ops) n × All (IsKnownOperation m) ops
  operations_named o [] n h = (h, All-nil (IsKnownOperation m))
  operations_named o (op ∷ ops) n h =
      let x = operation_named o h.2.opcode op h.2.operands_size h.2.at_opcode h.2.byte h.2.operands in
      let rest = operations_named (o + h.0) ops h.1 h.3 in ((h.0, h.1, subst (symbolic.OperationAt b o (operation_in m op)) (sym h.2.size) x.0, rest.0, h.4), All-cons (IsKnownOperation m) op ops x.1 rest.1)

  operations_numbered : (o : ℕ) (xs : List symbolic.Operation) (n : ℕ) → Sequence symbolic.OperationAt b o xs n → (ops : List Operation) × Sequence (NumberedAt (counts_of m)) b o ops n
  operations_numbered o [] n h = ([], h)
  operations_numbered o (x ∷ xs) n h = let op = operation_numbered o x h.0 h.2 in let rest = operations_numbered (o + h.0) xs h.1 h.3 in (op.0 ∷ rest.0, (h.0, h.1, op.1, rest.1, h.4))

  names_named : (o : ℕ) (is : List (Option ℕ)) (n : ℕ) → Sequence (IndexAt (length m.texts)) b o is n → Sequence symbolic.OptionalTextAt b o (map (option_map (text_at m)) is) n × All (IsKnownText m) is
  names_named o [] n h = (h, All-nil (IsKnownText m))
  names_named o (i ∷ is) n h = let rest = names_named (o + h.0) is h.1 h.3 in ((h.0, h.1, text_named o i h.0 h.2, rest.0, h.4), All-cons (IsKnownText m) i is h.2.1 rest.1)

  names_numbered : (o : ℕ) (ss : List (Option Text)) (n : ℕ) → Sequence symbolic.OptionalTextAt b o ss n → (is : List (Option ℕ)) × Sequence (IndexAt (length m.texts)) b o is n × (length is ≡ length ss)
  names_numbered o [] n h = ([], h, refl)
  names_numbered o (s ∷ ss) n h = let i = text_indexed o s h.0 h.2 in let rest = names_numbered (o + h.0) ss h.1 h.3 in (i.0 ∷ rest.0, (h.0, h.1, i.1, rest.1, h.4), omega (arith, rest.2))

  -- ---- programs

  -- a debug program by numbers is one by symbols
  pub debug_named : (off : ℕ) (d : NumberedDebug) → data_off b ≤ off → NumberedDebugAt (counts_of m) b off d → IsDebugAt b off m d
  debug_named off d in_data h =
      let names = names_named (off + h.start_size + h.count_size) d.parameter_names h.names_size h.at_names.each in
      let operations = operations_named (off + h.start_size + h.count_size + h.names_size) d.operations h.program.size h.program.operations in
      record {
        program = debug_in m d;
        at = record {
          in_data = in_data;
          start_size = h.start_size;
          count_size = h.count_size;
          names_size = h.names_size;
          operations_size = h.program.size;
          line_start = h.at_start;
          count = subst (λ (k : ℕ). Uleb128At b (off + h.start_size) k h.count_size) (sym (length-map d.parameter_names (option_map (text_at m)))) h.at_count;
          names = names.0;
          operations = operations.0;
          end = h.program.end;
        };
        encodes = record { known = record { names_known = names.1; operations_known = operations.1 }; means = refl };
      }

  -- and the other way round
  pub debug_numbered : (off : ℕ) (x : symbolic.Debug) → symbolic.DebugAt b off x → (d : NumberedDebug) × NumberedDebugAt (counts_of m) b off d
  debug_numbered off x h =
      let names = names_numbered (off + h.start_size + h.count_size) x.parameter_names h.names_size h.names in
      let operations = operations_numbered (off + h.start_size + h.count_size + h.names_size) x.operations h.operations_size h.operations in (
        record { line_start = x.line_start; parameter_names = names.0; operations = operations.0 },
        record {
          start_size = h.start_size;
          count_size = h.count_size;
          names_size = h.names_size;
          at_start = h.line_start;
          at_count = subst (λ (k : ℕ). Uleb128At b (off + h.start_size) k h.count_size) (sym names.2) h.count;
          at_names = record { many = refl; each = names.1 };
          program = record { size = h.operations_size; operations = operations.1; end = h.end };
        },
      )

-- ---- what is returned

-- the debug program of a shape, and what it weighs
pub shaped : (b : List ℕ) (m : Mentions) → ArePools b m → (off : ℕ) (s : DebugShape) → IsShapeAt b off m s → HasDebugOf b off m s.weight
shaped b m pools off s h =
    let operations = h.shape.operations in
    let d : NumberedDebug = record { line_start = s.line_start; parameter_names = h.shape.names.names; operations = operations.operations } in
    let place : off + h.shape.start_size + h.shape.count_size + (s.operations_at - s.names_at) ≡ s.operations_at = omega (arith, h.shape.at_names, h.shape.names.before) in
    let weight = weight_is d in record {
      debug = d;
      at = debug_named b m pools off d h.in_data (record {
        start_size = h.shape.start_size;
        count_size = h.shape.count_size;
        names_size = s.operations_at - s.names_at;
        at_start = h.shape.at_start;
        at_count = subst (λ (k : ℕ). Uleb128At b (off + h.shape.start_size) k h.shape.count_size) (sym h.shape.names.names_at.many) h.shape.at_count;
        at_names = subst (λ (k : ℕ). NamesAt (length m.texts) b k (length h.shape.names.names) h.shape.names.names (s.operations_at - s.names_at)) h.shape.at_names (record { many = refl; each = h.shape.names.names_at.each });
        program = subst (λ (k : ℕ). ProgramAt (counts_of m) b k operations.operations) (sym place) operations.program;
      });
      weighs = omega (arith, weight, h.shape.names.names_at.many, operations.weight, h.shape.weight);
    }

pub ok_named : {E : Type 0} (b : List ℕ) (m : Mentions) → ArePools b m → (off : ℕ) → data_off b ≤ off → (r : Result NumberedDebug E) → IfOk r (NumberedDebugAt (counts_of m) b off) → IfOk r (IsDebugAt b off m)
ok_named b m pools off in_data (Ok d) h = debug_named b m pools off d in_data h
ok_named b m pools off in_data (Err f) h = tt

-- what is returned about numbers holds of rows
pub reported : (b : List ℕ) (m : Mentions) (off : ℕ) (r : Option DebugShape) → data_off b ≤ off → off ≤ length b → length b ≤ 2 ^ 30 → MatchOption r ((d : NumberedDebug) → NumberedDebugAt (counts_of m) b off d → ⊥) (IsShape (counts_of m) b off)
    → MatchOption r (ArePools b m → HasNoDebug b off) (IsShapeAt b off m)
reported b m off (Some s) in_data within small h = record { in_data = in_data; within = within; small = small; shape = h }
reported b m off None in_data within small h = λ pools x at. let d = debug_numbered b m pools off x at in h d.0 d.1

-- there is nothing after the last byte
pub nothing_after : (b : List ℕ) (off : ℕ) (x : symbolic.Debug) → length b < off → symbolic.DebugAt b off x → ⊥
nothing_after b off x lt h = some_chain (take h.start_size (drop off b)) h.line_start.spelled.chain (omega (arith, length-take h.start_size (drop off b), length-drop off b, h.line_start.within))
  where
    some_chain : (bs : List ℕ) → IsChain bs → length bs ≡ 0 → ⊥
    some_chain [] chain e = chain
    some_chain (y ∷ bs) chain e = omega (arith, e)
