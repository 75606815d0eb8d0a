-- Operations that are stored in the same bytes are the same.
use Rattle.std.proofs.lemmas.List.{drop-drop, drop-map, drop-take, take-map, take-take}
use Rattle.dexdebug.proofs.Common.{◌≡◌, ℕ, zero, suc, ◌+◌, ◌*◌, ◌≤◌, List, [], ◌∷◌, length, take, drop, get_or, Option, None, refl, ap, sym, subst, ◌∙◌, arith, length-take, length-take-le, sum_by, sum_by-cons, Sequence, sum_of_groups, signed_sum, operands, debug_weight, Operation, AdvancePc, AdvanceLine, StartLocal, StartLocalExtended, EndLocal, RestartLocal, SetPrologueEnd, SetEpilogueBegin, SetFile, Special, Counts, Index, unindexed, unindexed_operation, operation_weight, IndexAt, LocalAt, ExtendedAt, OperandsAt, NumberedAt, indices_of, chain_at, after_operation, operation_of, number_in, operation_in, operations_in, IsStoredAt, AreStored, IsStored, numbers_in, stored_debug}
use Rattle.dexspec.specs.Numbers.{BeginsWith}
use Rattle.dexdebug.proofs.DebugMeanings.{weight_is}
use Rattle.dexdebug.proofs.StoredOperations.{operations_stored, same_operands, view_is}

-- ---- bytes at two places

-- n bytes from an offset on are those from another offset of another list on
abbrev pub AreSame : List ℕ → ℕ → List ℕ → ℕ → ℕ → Type 0
AreSame b o c p n = take n (drop o b) ≡ take n (drop p c)

module _ (b : List ℕ) (o : ℕ) (c : List ℕ) (p n : ℕ) (same : AreSame b o c p n) where
  -- the first of them
  prefix : (m : ℕ) → m ≤ n → AreSame b o c p m
  prefix m le = sym (take-take m n (drop o b) le) ∙ ap (take m) same ∙ take-take m n (drop p c) le

  -- m of them, after others
  skip : (k m : ℕ) → k + m ≤ n → AreSame b (o + k) c (p + k) m
  skip k m le =
      ap (take m) (sym (drop-drop k o b)) ∙ sym (drop-take k m (drop o b)) ∙ ap (drop k) (prefix (k + m) le)
      ∙ drop-take k m (drop p c) ∙ ap (take m) (drop-drop k p c)

  -- an item that begins there
  begins : {V : Type 0} (Says : List ℕ → V → Type 0) (v : V) (m : ℕ) → m ≤ n → BeginsWith Says (drop o b) v m → BeginsWith Says (drop p c) v m
  begins Says v m le h =
      let e = prefix m le in
      record {
        within = omega (arith, ap length e, length-take-le m (drop o b) h.within, length-take m (drop p c));
        spelled = subst (λ bytes. Says bytes v) e h.spelled;
      }

  index_there : (texts : ℕ) (i : Option ℕ) (m : ℕ) → m ≤ n → IndexAt texts b o i m → IndexAt texts c p i m
  index_there texts i m le h = (begins _ i m le h.0, h.1)

local_there : (m : Counts) (b : List ℕ) (o : ℕ) (c : List ℕ) (p register : ℕ) (name typ : Option ℕ) (n : ℕ) → AreSame b o c p n → LocalAt m b o register name typ n → LocalAt m c p register name typ n
local_there m b o c p register name typ n same h =
    let names = skip b o c p n same h.register_size (h.name_size + h.type_size) (omega (arith, h.size)) in
    let types = skip b (o + h.register_size) c (p + h.register_size) (h.name_size + h.type_size) names h.name_size h.type_size (omega arith) in
    record {
      register_size = h.register_size;
      name_size = h.name_size;
      type_size = h.type_size;
      at_register = begins b o c p n same _ register h.register_size (omega (arith, h.size)) h.at_register;
      at_name = index_there b (o + h.register_size) c (p + h.register_size) (h.name_size + h.type_size) names m.texts name h.name_size (omega arith) h.at_name;
      at_type = index_there b (o + h.register_size + h.name_size) c (p + h.register_size + h.name_size) h.type_size types m.types typ h.type_size (omega arith) h.at_type;
      size = h.size;
    }

extended_there : (m : Counts) (b : List ℕ) (o : ℕ) (c : List ℕ) (p register : ℕ) (name typ signature : Option ℕ) (n : ℕ) → AreSame b o c p n → ExtendedAt m b o register name typ signature n → ExtendedAt m c p register name typ signature n
extended_there m b o c p register name typ signature n same h =
    let signatures = skip b o c p n same h.local_size h.signature_size (omega (arith, h.size)) in
    record {
      local_size = h.local_size;
      signature_size = h.signature_size;
      at_local = local_there m b o c p register name typ h.local_size (prefix b o c p n same h.local_size (omega (arith, h.size))) h.at_local;
      at_signature = index_there b (o + h.local_size) c (p + h.local_size) h.signature_size signatures m.texts signature h.signature_size (omega arith) h.at_signature;
      size = h.size;
    }

-- operands
operands_there : (m : Counts) (code : ℕ) (b : List ℕ) (o : ℕ) (c : List ℕ) (p : ℕ) (op : Operation) (n : ℕ) → AreSame b o c p n → OperandsAt m code b o op n → OperandsAt m code c p op n
operands_there m code b o c p (AdvancePc addresses) n same h = (h.0, begins b o c p n same _ addresses n (omega arith) h.1)
operands_there m code b o c p (AdvanceLine lines) n same h = (h.0, begins b o c p n same _ lines n (omega arith) h.1)
operands_there m code b o c p (StartLocal register name typ) n same h = (h.0, local_there m b o c p register name typ n same h.1)
operands_there m code b o c p (StartLocalExtended register name typ signature) n same h = (h.0, extended_there m b o c p register name typ signature n same h.1)
operands_there m code b o c p (EndLocal register) n same h = (h.0, begins b o c p n same _ register n (omega arith) h.1)
operands_there m code b o c p (RestartLocal register) n same h = (h.0, begins b o c p n same _ register n (omega arith) h.1)
operands_there m code b o c p (SetFile name) n same h = (h.0, index_there b o c p n same m.texts name n (omega arith) h.1)
operands_there m code b o c p SetPrologueEnd n same h = h
operands_there m code b o c p SetEpilogueBegin n same h = h
operands_there m code b o c p (Special opcode) n same h = h

numbered_there : (m : Counts) (b : List ℕ) (o : ℕ) (c : List ℕ) (p : ℕ) (op : Operation) (n : ℕ) → AreSame b o c p n → NumberedAt m b o op n → NumberedAt m c p op n
numbered_there m b o c p op n same h = record {
  opcode = h.opcode;
  operands_size = h.operands_size;
  at_opcode = record { here = sym (prefix b o c p n same 1 (omega (arith, h.size))) ∙ h.at_opcode.here };
  byte = h.byte;
  operands = operands_there m h.opcode b (o + 1) c (p + 1) op h.operands_size (skip b o c p n same 1 h.operands_size (omega (arith, h.size))) h.operands;
  size = h.size;
}

each_there : (b : List ℕ) (o : ℕ) (c : List ℕ) (p : ℕ) (ops : List Operation) (n : ℕ) → AreSame b o c p n → Sequence IsStoredAt b o ops n → Sequence IsStoredAt c p ops n
each_there b o c p [] n same h = h
each_there b o c p (op ∷ ops) n same h =
    let s = h.2 in
    let stored : IsStoredAt c p op h.0 = record {
      encoded = s.encoded;
      at = numbered_there _ b o c p s.encoded h.0 (prefix b o c p n same h.0 (omega (arith, h.4))) s.at;
      same = s.same;
    } in (
      h.0,
      h.1,
      stored,
      each_there b (o + h.0) c (p + h.0) ops h.1 (skip b o c p n same h.0 h.1 (omega (arith, h.4))) h.3,
      h.4,
    )

-- ---- how many bytes

number_few : (bytes : List ℕ) (n : ℕ) → n ≤ length bytes → length (take n bytes) ≤ 5 → n ≤ 5
number_few bytes n within few = omega (arith, few, length-take-le n bytes within)

index_few : (texts : ℕ) (b : List ℕ) (o : ℕ) (i : Option ℕ) (n : ℕ) → IndexAt texts b o i n → n ≤ 5
index_few texts b o i n h = number_few (drop o b) n h.0.within h.0.spelled.few

local_few : (m : Counts) (b : List ℕ) (o register : ℕ) (name typ : Option ℕ) (n : ℕ) → LocalAt m b o register name typ n → n ≤ 15
local_few m b o register name typ n h =
    omega (
      arith,
      h.size,
      number_few (drop o b) h.register_size h.at_register.within h.at_register.spelled.few,
      index_few m.texts b (o + h.register_size) name h.name_size h.at_name,
      index_few m.types b (o + h.register_size + h.name_size) typ h.type_size h.at_type,
    )

operands_few : (m : Counts) (code : ℕ) (b : List ℕ) (o : ℕ) (op : Operation) (n : ℕ) → OperandsAt m code b o op n → n ≤ 5 * operands (unindexed_operation op)
operands_few m code b o (AdvancePc addresses) n h = number_few (drop o b) n h.1.within h.1.spelled.few
operands_few m code b o (AdvanceLine lines) n h = number_few (drop o b) n h.1.within h.1.spelled.few
operands_few m code b o (StartLocal register name typ) n h = local_few m b o register name typ n h.1
operands_few m code b o (StartLocalExtended register name typ signature) n h =
    omega (
      arith,
      h.1.size,
      local_few m b o register name typ h.1.local_size h.1.at_local,
      index_few m.texts b (o + h.1.local_size) signature h.1.signature_size h.1.at_signature,
    )
operands_few m code b o (EndLocal register) n h = number_few (drop o b) n h.1.within h.1.spelled.few
operands_few m code b o (RestartLocal register) n h = number_few (drop o b) n h.1.within h.1.spelled.few
operands_few m code b o SetPrologueEnd n h = omega (arith, h.1)
operands_few m code b o SetEpilogueBegin n h = omega (arith, h.1)
operands_few m code b o (SetFile name) n h = index_few m.texts b o name n h.1
operands_few m code b o (Special opcode) n h = omega (arith, h.2)

-- operations have no more bytes than they weigh
each_few : (b : List ℕ) (o : ℕ) (ops : List Operation) (n : ℕ) → Sequence IsStoredAt b o ops n → n ≤ sum_by operation_weight ops
each_few b o [] n h = omega (arith, h)
each_few b o (op ∷ ops) n h =
    let s = h.2 in
    let first = operands_few _ s.at.opcode b (o + 1) s.encoded s.at.operands_size s.at.operands in
    omega (arith, h.4, s.at.size, first, same_operands s.encoded op s.same, sum_by-cons operation_weight op ops, each_few b (o + h.0) ops h.1 h.3)

-- ---- the operations

-- operations depend on their bytes alone
same_operations : (count : ℕ) (b : List ℕ) (o : ℕ) (is : List Index) (s : AreStored count b o is) (c : List ℕ) (p n : ℕ) → AreSame b o c p n → s.size ≤ n → operations_in count b o is ≡ operations_in count c p is
same_operations count b o is s c p n same le =
    let there : AreStored count c p is = record {
      operations = s.operations;
      size = s.size;
      many = s.many;
      each = each_there b o c p s.operations s.size (prefix b o c p n same s.size le) s.each;
      indices_are = s.indices_are;
    } in view_is count b o is s ∙ sym (view_is count c p is there)

-- and on the numbers of the symbols, whatever their kinds
number_at : (is : List Index) (place : ℕ) → number_in is place ≡ get_or (numbers_in is) place None
number_at [] place = refl
number_at (i ∷ is) zero = refl
number_at (i ∷ is) (suc place) = number_at is place

module _ (b : List ℕ) where
  same_operation : (o : ℕ) (is js : List Index) → numbers_in is ≡ numbers_in js → operation_in b o is ≡ operation_in b o js
  unfolding operation_in
  same_operation o is js e =
      let number : (place : ℕ) → number_in is place ≡ number_in js place = λ place. number_at is place ∙ ap (λ ns. get_or ns place None) e ∙ sym (number_at js place) in
      λ i. operation_of (get_or b o 0) (sum_of_groups (chain_at b (o + 1))) (signed_sum (chain_at b (o + 1))) (number 0 i) (number 1 i) (number 2 i)

  same_numbers : (count o : ℕ) (is js : List Index) → numbers_in is ≡ numbers_in js → operations_in count b o is ≡ operations_in count b o js
  same_numbers zero o is js e = refl
  same_numbers (suc count) o is js e =
      let first = same_operation o is js e in
      let op = operation_in b o js in
      let places = length (indices_of op) in
      let left : numbers_in (drop places is) ≡ numbers_in (drop places js) = sym (drop-map (λ (i : Index). i.number) places is) ∙ ap (drop places) e ∙ drop-map (λ (i : Index). i.number) places js in
      ap (λ x. x ∷ operations_in count b (after_operation b o x) (drop (length (indices_of x)) is)) first ∙ ap (λ ops. op ∷ ops) (same_numbers count (after_operation b o op) (drop places is) (drop places js) left)

-- ---- the debug program

module _ (line names count : ℕ) (b : List ℕ) (o : ℕ) (is : List Index) (s : IsStored names count b o is) (weight : ℕ) (weighs : weight ≡ debug_weight (unindexed (stored_debug line names count b o is))) where
  -- the operations have no more bytes than the debug program weighs
  stored_few : (operations_stored names count b o is s).size ≤ weight
  stored_few =
      let d = stored_debug line names count b o is in
      let stored = operations_stored names count b o is s in
      omega (arith, weighs, weight_is d, ap (sum_by operation_weight) (view_is count b o (drop names is) stored), each_few b o stored.operations stored.size stored.each)

  -- another of this line, these numbers and these bytes is the same
  pub same_stored : (c : List ℕ) (p : ℕ) (js : List Index) → AreSame b o c p weight → numbers_in is ≡ numbers_in js → stored_debug line names count b o is ≡ stored_debug line names count c p js
  same_stored c p js same numbers =
      let number = λ (i : Index). i.number in
      let named = sym (take-map number names is) ∙ ap (take names) numbers ∙ take-map number names js in
      let left = sym (drop-map number names is) ∙ ap (drop names) numbers ∙ drop-map number names js in
      let operations = same_operations count b o (drop names is) (operations_stored names count b o is s) c p weight same stored_few ∙ same_numbers c count p (drop names is) (drop names js) left in
      λ i. record { line_start = line; parameter_names = named i; operations = operations i }
