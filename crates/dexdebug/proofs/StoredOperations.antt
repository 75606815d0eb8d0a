-- Operations as they are stored: the bytes and the numbers give back the operations.
use Rattle.dexdebug.proofs.Common.{◌≡◌, ℕ, zero, suc, ◌+◌, ◌-◌, ◌<◌, ◌≤◌, List, [], ◌∷◌, ◌++◌, length, take, drop, map, get_or, Option, Some, None, refl, ap, sym, subst, ◌∙◌, arith, length-append, IsSome, flat_map, lt-ltb, le-ltb, length-take-le, length-map, sum_by, sum_by-cons, take_at, drop_at, map-append, append-nil, flat_map-append, Sequence, IsChain, Uleb128At, sum_of_groups, signed_sum, operands, debug_weight, is_at_within, same_first, Maps, Operation, AdvancePc, AdvanceLine, StartLocal, StartLocalExtended, EndLocal, RestartLocal, SetPrologueEnd, SetEpilogueBegin, SetFile, Special, Counts, Tally, Index, number_uses, operation_uses, debug_uses, renumbered_operation, renumbered_debug, image_or_none, name_of, type_of, signature_of, NumberedDebug, unindexed, unindexed_operation, operation_weight, with_numbers, IndexAt, LocalAt, OperandsAt, NumberedAt, AreTheOperations, KeepsNames, KeepsSymbols, every, indices_of, text_index, chain_of, chain_at, after_numbers, after_operation, operation_of, number_in, operation_in, operations_in, unindexed_of, IsStoredAt, AreStored, IsStored, numbers_in, stored_debug, renumbered_index}
use Rattle.dexpool.specs.declared.symbols.SymbolKind.TheVariants as kinds
use Rattle.dexdebug.proofs.DebugRuns.{byte_encoded, code_some}
use Rattle.dexdebug.proofs.DebugMeanings.{weight_is}
use Rattle.dexdebug.proofs.DebugSame.{unindexed_with, with_unindexed}

-- ---- the bytes

chain_is : (n : ℕ) (bs : List ℕ) → n ≤ length bs → IsChain (take n bs) → chain_of bs ≡ take n bs
chain_is (suc zero) (b ∷ bs) le h = rw (lt-ltb b 128 h) refl
chain_is (suc (suc n)) (b ∷ []) le h = absurd (omega (arith, le))
chain_is (suc (suc n)) (b ∷ c ∷ bs) le h = rw (le-ltb b 128 h.0) (ap (λ cs. b ∷ cs) (chain_is (suc n) (c ∷ bs) (omega (arith, le)) h.1))
chain_is _ _ le h = absurd h

-- a number at an offset
module _ (b : List ℕ) (o n : ℕ) (within : n ≤ length (drop o b)) (chain : IsChain (take n (drop o b))) where
  number_bytes : chain_at b o ≡ take n (drop o b)
  number_bytes = chain_is n (drop o b) within chain

  skips : (count : ℕ) → after_numbers b o (suc count) ≡ after_numbers b (o + n) count
  skips count = ap (λ (k : ℕ). after_numbers b (o + k) count) (ap length number_bytes ∙ length-take-le n (drop o b) within)

skips_number : (b : List ℕ) (o v n count : ℕ) → Uleb128At b o v n → after_numbers b o (suc count) ≡ after_numbers b (o + n) count
skips_number b o v n count h = skips b o n h.within h.spelled.chain count

number_is : (b : List ℕ) (o v n : ℕ) → Uleb128At b o v n → sum_of_groups (chain_at b o) ≡ v
number_is b o v n h = ap sum_of_groups (number_bytes b o n h.within h.spelled.chain) ∙ h.spelled.value

skips_index : (texts : ℕ) (b : List ℕ) (o : ℕ) (i : Option ℕ) (n count : ℕ) → IndexAt texts b o i n → after_numbers b o (suc count) ≡ after_numbers b (o + n) count
skips_index texts b o i n count h = skips b o n h.0.within h.0.spelled.chain count

skips_local : (m : Counts) (b : List ℕ) (o register : ℕ) (name typ : Option ℕ) (n count : ℕ) → LocalAt m b o register name typ n → after_numbers b o (suc (suc (suc count))) ≡ after_numbers b (o + n) count
skips_local m b o register name typ n count h =
    let place : o + h.register_size + h.name_size + h.type_size ≡ o + n = omega (arith, h.size) in
    skips_number b o register h.register_size (suc (suc count)) h.at_register ∙ skips_index m.texts b (o + h.register_size) name h.name_size (suc count) h.at_name
    ∙ skips_index m.types b (o + h.register_size + h.name_size) typ h.type_size count h.at_type ∙ ap (λ (k : ℕ). after_numbers b k count) place

-- the offset after operands
skips_operands : (m : Counts) (c : ℕ) (b : List ℕ) (o : ℕ) (op : Operation) (n : ℕ) → OperandsAt m c b o op n → after_numbers b o (operands (unindexed_operation op)) ≡ o + n
skips_operands m c b o (AdvancePc addresses) n h = skips_number b o addresses n 0 h.1
skips_operands m c b o (AdvanceLine lines) n h = skips b o n h.1.within h.1.spelled.chain 0
skips_operands m c b o (StartLocal register name typ) n h = skips_local m b o register name typ n 0 h.1
skips_operands m c b o (StartLocalExtended register name typ signature) n h =
    let place : o + h.1.local_size + h.1.signature_size ≡ o + n = omega (arith, h.1.size) in
    skips_local m b o register name typ h.1.local_size 1 h.1.at_local ∙ skips_index m.texts b (o + h.1.local_size) signature h.1.signature_size 0 h.1.at_signature ∙ place
skips_operands m c b o (EndLocal register) n h = skips_number b o register n 0 h.1
skips_operands m c b o (RestartLocal register) n h = skips_number b o register n 0 h.1
skips_operands m c b o SetPrologueEnd n h = omega (arith, h.1)
skips_operands m c b o SetEpilogueBegin n h = omega (arith, h.1)
skips_operands m c b o (SetFile name) n h = skips_index m.texts b o name n 0 h.1
skips_operands m c b o (Special opcode) n h = omega (arith, h.2)

-- ---- one operation

module _ (b : List ℕ) (o : ℕ) (is : List Index) where
  by_code : (c k : ℕ) → get_or b o 0 ≡ c → c ≡ k → operation_in b o is ≡ operation_of k (sum_of_groups (chain_at b (o + 1))) (signed_sum (chain_at b (o + 1))) (number_in is 0) (number_in is 1) (number_in is 2)
  unfolding operation_in
  by_code c k e f = ap (λ (j : ℕ). operation_of j (sum_of_groups (chain_at b (o + 1))) (signed_sum (chain_at b (o + 1))) (number_in is 0) (number_in is 1) (number_in is 2)) (e ∙ f)

  -- the operation there, with these numbers
  operation_is : (m : Counts) (c : ℕ) (op : Operation) (n : ℕ) → get_or b o 0 ≡ c → OperandsAt m c b (o + 1) op n → operation_in b o is ≡ with_numbers op (number_in is 0) (number_in is 1) (number_in is 2)
  operation_is m c (AdvancePc addresses) n e h = by_code c 0x01 e h.0 ∙ ap AdvancePc (number_is b (o + 1) addresses n h.1)
  operation_is m c (AdvanceLine lines) n e h = by_code c 0x02 e h.0 ∙ ap AdvanceLine (ap signed_sum (number_bytes b (o + 1) n h.1.within h.1.spelled.chain) ∙ h.1.spelled.value)
  operation_is m c (StartLocal register name typ) n e h = by_code c 0x03 e h.0 ∙ ap (λ (r : ℕ). StartLocal r (number_in is 0) (number_in is 1)) (number_is b (o + 1) register h.1.register_size h.1.at_register)
  operation_is m c (StartLocalExtended register name typ signature) n e h =
      by_code c 0x04 e h.0 ∙ ap (λ (r : ℕ). StartLocalExtended r (number_in is 0) (number_in is 1) (number_in is 2)) (number_is b (o + 1) register h.1.at_local.register_size h.1.at_local.at_register)
  operation_is m c (EndLocal register) n e h = by_code c 0x05 e h.0 ∙ ap EndLocal (number_is b (o + 1) register n h.1)
  operation_is m c (RestartLocal register) n e h = by_code c 0x06 e h.0 ∙ ap RestartLocal (number_is b (o + 1) register n h.1)
  operation_is m c SetPrologueEnd n e h = by_code c 0x07 e h.0
  operation_is m c SetEpilogueBegin n e h = by_code c 0x08 e h.0
  operation_is m c (SetFile name) n e h = by_code c 0x09 e h.0
  operation_is m c (Special opcode) n e h = by_code c opcode e h.0 ∙ rw (le-ltb opcode 0x0a h.1) refl

-- its own numbers
own_numbers : (op : Operation) (is : List Index) → with_numbers op (number_in (indices_of op ++ is) 0) (number_in (indices_of op ++ is) 1) (number_in (indices_of op ++ is) 2) ≡ op
own_numbers (AdvancePc addresses) is = refl
own_numbers _ is = refl

-- an operation without places keeps no number
pub without_places : (op : Operation) (s t u : Option ℕ) → length (indices_of op) ≡ 0 → with_numbers op s t u ≡ op
without_places (StartLocal register name typ) s t u none = absurd (omega (arith, none))
without_places (StartLocalExtended register name typ signature) s t u none = absurd (omega (arith, none))
without_places (SetFile name) s t u none = absurd (omega (arith, none))
without_places _ s t u none = refl

-- what does not depend on numbers of symbols
plain_parts : (op : Operation) → (unindexed_operation (unindexed_of op) ≡ unindexed_operation op) × (length (indices_of (unindexed_of op)) ≡ length (indices_of op))
plain_parts (AdvancePc addresses) = (refl, refl)
plain_parts _ = (refl, refl)

module _ (x y : Operation) (same : unindexed_of x ≡ unindexed_of y) where
  same_places : length (indices_of x) ≡ length (indices_of y)
  same_places = sym (plain_parts x).1 ∙ ap (λ op. length (indices_of op)) same ∙ (plain_parts y).1

  pub same_operands : operands (unindexed_operation x) ≡ operands (unindexed_operation y)
  same_operands = ap operands (sym (plain_parts x).0 ∙ ap unindexed_operation same ∙ (plain_parts y).0)

  -- with the numbers of the other it is the other
  with_own : (is : List Index) → with_numbers x (number_in (indices_of y ++ is) 0) (number_in (indices_of y ++ is) 1) (number_in (indices_of y ++ is) 2) ≡ y
  with_own is =
      let s = number_in (indices_of y ++ is) 0 in
      let t = number_in (indices_of y ++ is) 1 in let u = number_in (indices_of y ++ is) 2 in sym (with_unindexed x s t u) ∙ ap (λ op. with_numbers op s t u) same ∙ with_unindexed y s t u ∙ own_numbers y is

code_at : (m : Counts) (b : List ℕ) (o : ℕ) (op : Operation) (n : ℕ) (h : NumberedAt m b o op n) → (o < length b) × (get_or b o 0 ≡ h.opcode)
code_at m b o op n h = let within : o < length b = omega (arith, is_at_within h.at_opcode) in (within, sym (same_first h.opcode (get_or b o 0) [] [] h.at_opcode (byte_encoded b o within)))

module _ (b : List ℕ) (o : ℕ) (op : Operation) (n : ℕ) (s : IsStoredAt b o op n) where
  operation_stored : (is : List Index) → operation_in b o (indices_of op ++ is) ≡ op
  operation_stored is = operation_is b o (indices_of op ++ is) every s.at.opcode s.encoded s.at.operands_size (code_at every b o s.encoded n s.at).1 s.at.operands ∙ with_own s.encoded op s.same is

  after_stored : after_operation b o op ≡ o + n
  after_stored =
      let end : o + 1 + s.at.operands_size ≡ o + n = omega (arith, s.at.size) in
      ap (λ (k : ℕ). after_numbers b (o + 1) k) (sym (same_operands s.encoded op s.same)) ∙ skips_operands every s.at.opcode b (o + 1) s.encoded s.at.operands_size s.at.operands ∙ end

-- ---- all of them

stored_view : (b : List ℕ) (o : ℕ) (ops : List Operation) (n : ℕ) → Sequence IsStoredAt b o ops n → operations_in (length ops) b o (flat_map indices_of ops) ≡ ops
stored_view b o [] n h = refl
stored_view b o (op ∷ ops) n h =
    let is = flat_map indices_of ops in
    ap (λ x. x ∷ operations_in (length ops) b (after_operation b o x) (drop (length (indices_of x)) (indices_of op ++ is))) (operation_stored b o op h.0 h.2 is)
    ∙ ap (λ (p : ℕ). op ∷ operations_in (length ops) b p (drop (length (indices_of op)) (indices_of op ++ is))) (after_stored b o op h.0 h.2)
    ∙ ap (λ js. op ∷ operations_in (length ops) b (o + h.0) js) (drop_at (indices_of op) is (length (indices_of op)) refl) ∙ ap (λ xs. op ∷ xs) (stored_view b (o + h.0) ops h.1 h.3)

-- what is stored is the operations
pub view_is : (count : ℕ) (b : List ℕ) (o : ℕ) (is : List Index) (s : AreStored count b o is) → operations_in count b o is ≡ s.operations
view_is count b o is s = ap (λ (k : ℕ). operations_in k b o is) (sym s.many) ∙ ap (operations_in (length s.operations) b o) s.indices_are ∙ stored_view b o s.operations s.size s.each

-- ---- the first

-- what is read is the first operation but for its numbers, and the others follow
pub record Follows (count : ℕ) (b : List ℕ) (o : ℕ) (is : List Index) (x : Operation × ℕ) : Type 0 where
  pub places : length (indices_of x.0) ≤ length is
  pub rest : AreStored (count - 1) b (o + (1 + x.1)) (drop (length (indices_of x.0)) is)
  pub view : operations_in count b o is ≡ with_numbers x.0 (number_in is 0) (number_in is 1) (number_in is 2) ∷ operations_in (count - 1) b (o + (1 + x.1)) (drop (length (indices_of x.0)) is)

pub record IsFirst (count : ℕ) (b : List ℕ) (o : ℕ) (is : List Index) (r : Option (Operation × ℕ)) : Type 0 where
  pub some : IsSome r
  pub follows : (x : Operation × ℕ) → r ≡ Some x → Follows count b o is x

module _ (count : ℕ) (b : List ℕ) (o : ℕ) (is : List Index) (s : AreStored count b o is) (some : 0 < count) where
  first_code : (o < length b) × (0 < get_or b o 0)
  first_code = by_all s.operations s.many s.each
    where
      by_all : (ops : List Operation) → length ops ≡ count → Sequence IsStoredAt b o ops s.size → (o < length b) × (0 < get_or b o 0)
      by_all [] many each = absurd (omega (arith, many))
      by_all (op ∷ ops) many each =
          let at = each.2.at in let code = code_at every b o each.2.encoded each.0 at in (code.0, omega (arith, code.1, code_some every b o each.2.encoded at.operands_size at.opcode at.operands))

  -- there is an opcode
  pub stored_within : o < length b
  stored_within = first_code.0

  pub stored_code : 0 < get_or b o 0
  stored_code = first_code.1

  pub first_stored : (r : Option (Operation × ℕ)) → ((op : Operation) (n : ℕ) → OperandsAt every (get_or b o 0) b (o + 1) op n → r ≡ Some (op, n)) → IsFirst count b o is r
  first_stored r only = by_all s.operations s.many s.each s.indices_are (view_is count b o is s)
    where
      by_all : (ops : List Operation) → length ops ≡ count → Sequence IsStoredAt b o ops s.size → is ≡ flat_map indices_of ops → operations_in count b o is ≡ ops → IsFirst count b o is r
      by_all [] many each are view = absurd (omega (arith, many))
      by_all (op ∷ ops) many each are view =
          let file = each.2.encoded in
          let is' = flat_map indices_of ops in
          let places = same_places file op each.2.same in
          let read : r ≡ Some (file, each.2.at.operands_size) = only file each.2.at.operands_size (subst (λ (c : ℕ). OperandsAt every c b (o + 1) file each.2.at.operands_size) (sym (code_at every b o file each.0 each.2.at).1) each.2.at.operands) in
          let left : drop (length (indices_of file)) is ≡ is' = ap (λ (k : ℕ). drop k is) places ∙ ap (drop (length (indices_of op))) are ∙ drop_at (indices_of op) is' (length (indices_of op)) refl in
          let rest : AreStored (count - 1) b (o + (1 + each.2.at.operands_size)) (drop (length (indices_of file)) is) = record {
            operations = ops;
            size = each.1;
            many = omega (arith, many);
            each = subst (λ (p : ℕ). Sequence IsStoredAt b p ops each.1) (ap (λ (k : ℕ). o + k) each.2.at.size) each.3;
            indices_are = left;
          } in
          let follows : Follows count b o is (file, each.2.at.operands_size) = record {
            places = omega (arith, places, ap length are, length-append (indices_of op) is');
            rest = rest;
            view = view ∙ sym (λ i. (subst (λ js. with_numbers file (number_in js 0) (number_in js 1) (number_in js 2) ≡ op) (sym are) (with_own file op each.2.same is')) i ∷ (view_is (count - 1) b (o + (1 + each.2.at.operands_size)) (drop (length (indices_of file)) is) rest) i);
          } in record {
            some = rw read refl;
            follows = λ x e. let same : (file, each.2.at.operands_size) ≡ x = cc in subst (Follows count b o is) same follows;
          }

-- ---- special opcodes

-- a special opcode is an operation by itself
only_special : (m : Counts) (c : ℕ) (b : List ℕ) (o : ℕ) (op : Operation) (n : ℕ) → 0x0a ≤ c → OperandsAt m c b o op n → ◌≡◌ {A = Option (Operation × ℕ)} (Some (Special c, 0)) (Some (op, n))
only_special m c b o (Special opcode) n high h = λ i. Some (Special (h.0 i), sym h.2 i)
only_special m c b o _ n high h = absurd (omega (arith, high, h.0))

pub special_follows : (count : ℕ) (b : List ℕ) (o : ℕ) (is : List Index) → AreStored count b o is → 0 < count → 0x0a ≤ get_or b o 0 → Follows count b o is (Special (get_or b o 0), 0)
special_follows count b o is s some high = let c = get_or b o 0 in (first_stored count b o is s some (Some (Special c, 0)) (λ op n h. only_special every c b (o + 1) op n high h)).follows (Special c, 0) refl

-- ---- operations that are read

-- any number that is encoded is one that a file can have
any_index : (texts : ℕ) (b : List ℕ) (o : ℕ) (i : Option ℕ) (n : ℕ) → IndexAt texts b o i n → IndexAt 4294967295 b o i n
any_index texts b o None n h = (h.0, tt)
any_index texts b o (Some k) n h = let fits = h.0.spelled.in_range in (h.0, omega (arith, fits))

any_local : (m : Counts) (b : List ℕ) (o register : ℕ) (name typ : Option ℕ) (n : ℕ) → LocalAt m b o register name typ n → LocalAt every b o register name typ n
any_local m b o register name typ n h = record {
  register_size = h.register_size;
  name_size = h.name_size;
  type_size = h.type_size;
  at_register = h.at_register;
  at_name = any_index m.texts b (o + h.register_size) name h.name_size h.at_name;
  at_type = any_index m.types b (o + h.register_size + h.name_size) typ h.type_size h.at_type;
  size = h.size;
}

any_operands : (m : Counts) (c : ℕ) (b : List ℕ) (o : ℕ) (op : Operation) (n : ℕ) → OperandsAt m c b o op n → OperandsAt every c b o op n
any_operands m c b o (StartLocal register name typ) n h = (h.0, any_local m b o register name typ n h.1)
any_operands m c b o (StartLocalExtended register name typ signature) n h = (
  h.0,
  record {
    local_size = h.1.local_size;
    signature_size = h.1.signature_size;
    at_local = any_local m b o register name typ h.1.local_size h.1.at_local;
    at_signature = any_index m.texts b (o + h.1.local_size) signature h.1.signature_size h.1.at_signature;
    size = h.1.size;
  },
)
any_operands m c b o (SetFile name) n h = (h.0, any_index m.texts b o name n h.1)
any_operands m c b o _ n h = h

read_stored : (m : Counts) (b : List ℕ) (o : ℕ) (ops : List Operation) (n : ℕ) → Sequence (NumberedAt m) b o ops n → Sequence IsStoredAt b o ops n
read_stored m b o [] n h = h
read_stored m b o (op ∷ ops) n h =
    let at = h.2 in (
      h.0,
      h.1,
      record {
        encoded = op;
        at = record {
          opcode = at.opcode;
          operands_size = at.operands_size;
          at_opcode = at.at_opcode;
          byte = at.byte;
          operands = any_operands m at.opcode b (o + 1) op at.operands_size at.operands;
          size = at.size;
        };
        same = refl;
      },
      read_stored m b (o + h.0) ops h.1 h.3,
      h.4,
    )

-- operations that are read can be stored
built_stored : (m : Counts) (b : List ℕ) (o : ℕ) (t : Tally) (ops : List Operation) (is : List Index) → AreTheOperations m b o t ops → is ≡ flat_map indices_of ops → AreStored t.operations b o is
built_stored m b o t ops is h are = record { operations = ops; size = h.program.size; many = h.many; each = read_stored m b o ops h.program.size h.program.operations; indices_are = are }

-- ---- symbols

uses_one : (op : Operation) → flat_map (λ (i : Index). number_uses i.kind i.number) (indices_of op) ≡ operation_uses op
uses_one (StartLocalExtended register name typ signature) = ap (λ us. number_uses kinds.Text name ++ (number_uses kinds.Typ typ ++ us)) (append-nil (number_uses kinds.Text signature))
uses_one _ = refl

uses_all : (ops : List Operation) → flat_map (λ (i : Index). number_uses i.kind i.number) (flat_map indices_of ops) ≡ flat_map operation_uses ops
uses_all [] = refl
uses_all (op ∷ ops) = flat_map-append (λ (i : Index). number_uses i.kind i.number) (indices_of op) (flat_map indices_of ops) ∙ (λ i. uses_one op i ++ uses_all ops i)

-- ---- other numbers

module _ (r : Maps) where
  remapped_one : (op : Operation) → map (renumbered_index r) (indices_of op) ≡ indices_of (renumbered_operation r op)
  remapped_one (AdvancePc addresses) = refl
  remapped_one _ = refl

  remapped_all : (ops : List Operation) → map (renumbered_index r) (flat_map indices_of ops) ≡ flat_map indices_of (map (renumbered_operation r) ops)
  remapped_all [] = refl
  remapped_all (op ∷ ops) = map-append (renumbered_index r) (indices_of op) (flat_map indices_of ops) ∙ (λ i. remapped_one op i ++ remapped_all ops i)

  remapped_unindexed : (op : Operation) → unindexed_of op ≡ unindexed_of (renumbered_operation r op)
  remapped_unindexed op = sym (unindexed_with op (image_or_none r kinds.Text (name_of op)) (image_or_none r kinds.Typ (type_of op)) (image_or_none r kinds.Text (signature_of op)))

  remapped_weights : (ops : List Operation) → sum_by operation_weight (map (renumbered_operation r) ops) ≡ sum_by operation_weight ops
  remapped_weights [] = refl
  remapped_weights (op ∷ ops) = omega (arith, sum_by-cons operation_weight op ops, sum_by-cons operation_weight (renumbered_operation r op) (map (renumbered_operation r) ops), same_operands op (renumbered_operation r op) (remapped_unindexed op), remapped_weights ops)

  -- other numbers weigh the same
  pub renumbered_weight : (d : NumberedDebug) → debug_weight (unindexed (renumbered_debug r d)) ≡ debug_weight (unindexed d)
  renumbered_weight d = omega (arith, weight_is d, weight_is (renumbered_debug r d), length-map d.parameter_names (image_or_none r kinds.Text), remapped_weights d.operations)

  remapped_each : (b : List ℕ) (o : ℕ) (ops : List Operation) (n : ℕ) → Sequence IsStoredAt b o ops n → Sequence IsStoredAt b o (map (renumbered_operation r) ops) n
  remapped_each b o [] n h = h
  remapped_each b o (op ∷ ops) n h = let s = h.2 in (
    h.0,
    h.1,
    record {
      encoded = s.encoded;
      at = s.at;
      same = s.same ∙ remapped_unindexed op;
    },
    remapped_each b (o + h.0) ops h.1 h.3,
    h.4,
  )

  -- once renumbered, the numbers are stored as those of the renumbered operations
  remapped_stored : (count : ℕ) (b : List ℕ) (o : ℕ) (is js : List Index) → AreStored count b o is → js ≡ map (renumbered_index r) is → AreStored count b o js
  remapped_stored count b o is js s e = record {
    operations = map (renumbered_operation r) s.operations;
    size = s.size;
    many = length-map s.operations (renumbered_operation r) ∙ s.many;
    each = remapped_each b o s.operations s.size s.each;
    indices_are = e ∙ ap (map (renumbered_index r)) s.indices_are ∙ remapped_all s.operations;
  }

  -- names too
  remapped_named : (names : List (Option ℕ)) → map (renumbered_index r) (map text_index names) ≡ map text_index (map (image_or_none r kinds.Text) names)
  remapped_named [] = refl
  remapped_named (i ∷ names) = ap (λ is. text_index (image_or_none r kinds.Text i) ∷ is) (remapped_named names)

-- ---- names and operations

module _ (names count : ℕ) (b : List ℕ) (o : ℕ) (is : List Index) (s : IsStored names count b o is) where
  named_count : length (map text_index s.named) ≡ names
  named_count = length-map s.named text_index ∙ s.many

  -- the names come first
  pub first_names : take names is ≡ map text_index s.named
  first_names = ap (take names) s.indices_are ∙ take_at (map text_index s.named) s.symbols names named_count

  -- and then the symbols of operations
  pub then_symbols : drop names is ≡ s.symbols
  then_symbols = ap (drop names) s.indices_are ∙ drop_at (map text_index s.named) s.symbols names named_count

  names_are : (ns : List (Option ℕ)) → numbers_in (map text_index ns) ≡ ns
  names_are [] = refl
  names_are (i ∷ ns) = ap (λ ms. i ∷ ms) (names_are ns)

  pub names_enough : names ≤ length is
  names_enough = omega (arith, named_count, ap length s.indices_are, length-append (map text_index s.named) s.symbols)

  -- what is stored is this debug program
  pub debug_is : (line_start : ℕ) → stored_debug line_start names count b o is ≡ record { line_start = line_start; parameter_names = s.named; operations = s.stored.operations }
  debug_is line_start =
      λ i. record {
        line_start = line_start;
        parameter_names = (ap numbers_in first_names ∙ names_are s.named) i;
        operations = (ap (operations_in count b o) then_symbols ∙ view_is count b o s.symbols s.stored) i;
      }

  pub names_many : length (numbers_in (take names is)) ≡ names
  names_many = ap length (ap numbers_in first_names ∙ names_are s.named) ∙ s.many

  pub operations_stored : AreStored count b o (drop names is)
  operations_stored = subst (AreStored count b o) (sym then_symbols) s.stored

  pub operations_many : length (operations_in count b o (drop names is)) ≡ count
  operations_many = ap length (view_is count b o (drop names is) operations_stored) ∙ operations_stored.many

  uses_named : (ns : List (Option ℕ)) → flat_map (λ (i : Index). number_uses i.kind i.number) (map text_index ns) ≡ flat_map (number_uses kinds.Text) ns
  uses_named [] = refl
  uses_named (i ∷ ns) = ap (λ us. number_uses kinds.Text i ++ us) (uses_named ns)

  -- the symbols are those of the debug program
  pub stored_uses : (line_start : ℕ) → flat_map (λ (i : Index). number_uses i.kind i.number) is ≡ debug_uses (stored_debug line_start names count b o is)
  stored_uses line_start =
      ap (flat_map (λ (i : Index). number_uses i.kind i.number)) (s.indices_are ∙ ap (λ js. map text_index s.named ++ js) s.stored.indices_are) ∙ flat_map-append (λ (i : Index). number_uses i.kind i.number) (map text_index s.named) (flat_map indices_of s.stored.operations)
      ∙ (λ i. uses_named s.named i ++ uses_all s.stored.operations i) ∙ ap debug_uses (sym (debug_is line_start))

  -- once renumbered, it is stored as the renumbered debug program
  module _ (r : Maps) (js : List Index) (e : js ≡ map (renumbered_index r) is) where
    pub renumbered_stored : IsStored names count b o js
    renumbered_stored = record {
      named = map (image_or_none r kinds.Text) s.named;
      many = length-map s.named (image_or_none r kinds.Text) ∙ s.many;
      symbols = map (renumbered_index r) s.symbols;
      stored = remapped_stored r count b o s.symbols (map (renumbered_index r) s.symbols) s.stored refl;
      indices_are = e ∙ ap (map (renumbered_index r)) s.indices_are ∙ map-append (renumbered_index r) (map text_index s.named) s.symbols ∙ ap (λ ks. ks ++ map (renumbered_index r) s.symbols) (remapped_named r s.named);
    }

pub renumbered_view : (names count : ℕ) (b : List ℕ) (o : ℕ) (is : List Index) (s : IsStored names count b o is) (r : Maps) (js : List Index) → js ≡ map (renumbered_index r) is → (line_start : ℕ)
    → stored_debug line_start names count b o js ≡ renumbered_debug r (stored_debug line_start names count b o is)
unfolding renumbered_stored remapped_stored
renumbered_view names count b o is s r js e line_start = debug_is names count b o js (renumbered_stored names count b o is s r js e) line_start ∙ ap (renumbered_debug r) (sym (debug_is names count b o is s line_start))

-- ---- what is read

module _ (m : Counts) (b : List ℕ) (from names o : ℕ) (t : Tally) (is js ks : List Index) (none : is ≡ []) (n : KeepsNames m.texts b from names is js) (h : KeepsSymbols m b o t js ks) where
  pub read_is_stored : IsStored names t.operations b o ks
  read_is_stored = record {
    named = n.names;
    many = n.are.names_at.many;
    symbols = flat_map indices_of h.operations;
    stored = built_stored m b o t h.operations (flat_map indices_of h.operations) h.are refl;
    indices_are = h.kept ∙ ap (λ xs. xs ++ flat_map indices_of h.operations) (n.kept ∙ ap (λ xs. xs ++ map text_index n.names) none);
  }

  pub read_is : (line_start : ℕ) → stored_debug line_start names t.operations b o ks ≡ record { line_start = line_start; parameter_names = n.names; operations = h.operations }
  unfolding read_is_stored built_stored
  read_is line_start = debug_is names t.operations b o ks read_is_stored line_start
