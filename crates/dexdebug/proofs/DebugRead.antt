-- Numbers and operations that are read.
use Rattle.dexdebug.proofs.Common.{◌≡◌, ℕ, ◌≤◌, List, Option, Some, refl, ap, sym, subst, ◌∙◌, ℤ, pos, le-ltb, Uleb128At, Operation, AdvancePc, AdvanceLine, StartLocal, StartLocalExtended, EndLocal, RestartLocal, SetPrologueEnd, SetEpilogueBegin, SetFile, Special, Counts, name_of, type_of, signature_of, IndexAt, LocalAt, ExtendedAt, OperandsAt, operation_of}

pub some_parts : {A B : Type 0} (x y : A × B) → Some x ≡ Some y → (x.0 ≡ y.0) × (x.1 ≡ y.1)
some_parts x y e = let same : x ≡ y = cc in (ap (λ p. p.0) same, ap (λ p. p.1) same)

pub local_parts : {A B C D : Type 0} (x y : A × B × C × D) → Some x ≡ Some y → (x.0 ≡ y.0) × (x.1 ≡ y.1) × (x.2 ≡ y.2) × (x.3 ≡ y.3)
local_parts x y e = let same : x ≡ y = cc in (ap (λ p. p.0) same, ap (λ p. p.1) same, ap (λ p. p.2) same, ap (λ p. p.3) same)

-- ---- operations by their opcodes

-- the number in an operation
abbrev pub number_part : Operation → ℕ
number_part (AdvancePc addresses) = addresses
number_part (StartLocal register name typ) = register
number_part (StartLocalExtended register name typ signature) = register
number_part (EndLocal register) = register
number_part (RestartLocal register) = register
number_part _ = 0

-- the lines that it advances by
abbrev pub lines_part : Operation → ℤ
lines_part (AdvanceLine lines) = lines
lines_part _ = pos 0

-- the operation of an opcode that has the parts of another
abbrev pub with_opcode : ℕ → Operation → Operation
with_opcode c op = operation_of c (number_part op) (lines_part op) (name_of op) (type_of op) (signature_of op)

pub special_code : (c : ℕ) (op : Operation) → 0x0a ≤ c → with_opcode c op ≡ Special c
special_code c op high = rw (le-ltb c 0x0a high) refl

-- an opcode determines the kind of its operation
by_opcode : (m : Counts) (c : ℕ) (b : List ℕ) (o : ℕ) (op : Operation) (n : ℕ) → OperandsAt m c b o op n → op ≡ with_opcode c op
by_opcode m c b o (AdvancePc addresses) n h = ap (λ (k : ℕ). with_opcode k (AdvancePc addresses)) (sym h.0)
by_opcode m c b o (AdvanceLine lines) n h = ap (λ (k : ℕ). with_opcode k (AdvanceLine lines)) (sym h.0)
by_opcode m c b o (StartLocal register name typ) n h = ap (λ (k : ℕ). with_opcode k (StartLocal register name typ)) (sym h.0)
by_opcode m c b o (StartLocalExtended register name typ signature) n h = ap (λ (k : ℕ). with_opcode k (StartLocalExtended register name typ signature)) (sym h.0)
by_opcode m c b o (EndLocal register) n h = ap (λ (k : ℕ). with_opcode k (EndLocal register)) (sym h.0)
by_opcode m c b o (RestartLocal register) n h = ap (λ (k : ℕ). with_opcode k (RestartLocal register)) (sym h.0)
by_opcode m c b o SetPrologueEnd n h = ap (λ (k : ℕ). with_opcode k SetPrologueEnd) (sym h.0)
by_opcode m c b o SetEpilogueBegin n h = ap (λ (k : ℕ). with_opcode k SetEpilogueBegin) (sym h.0)
by_opcode m c b o (SetFile name) n h = ap (λ (k : ℕ). with_opcode k (SetFile name)) (sym h.0)
by_opcode m c b o (Special opcode) n h = sym (special_code opcode (Special opcode) h.1) ∙ ap (λ (k : ℕ). with_opcode k (Special opcode)) (sym h.0)

-- what is read of an opcode's operands is the one operation there
module _ (m : Counts) (c : ℕ) (b : List ℕ) (o : ℕ) (op : Operation) (n : ℕ) (h : OperandsAt m c b o op n) (r : Option (Operation × ℕ)) where
  its : (k : ℕ) → c ≡ k → op ≡ with_opcode k op
  its k e = by_opcode m c b o op n h ∙ ap (λ (j : ℕ). with_opcode j op) e

  operands_with : (k : ℕ) → c ≡ k → OperandsAt m c b o (with_opcode k op) n
  operands_with k e = subst (λ x. OperandsAt m c b o x n) (its k e) h

  back : (k : ℕ) → c ≡ k → r ≡ Some (with_opcode k op, n) → r ≡ Some (op, n)
  back k e s = s ∙ ap (λ x. Some (x, n)) (sym (its k e))

  pub only_start_local : c ≡ 0x03 → ((register : ℕ) (name typ : Option ℕ) (k : ℕ) → LocalAt m b o register name typ k → r ≡ Some (StartLocal register name typ, k)) → r ≡ Some (op, n)
  only_start_local e only = back 0x03 e (only (number_part op) (name_of op) (type_of op) n (operands_with 0x03 e).1)

  pub only_start_local_extended : c ≡ 0x04 → ((register : ℕ) (name typ signature : Option ℕ) (k : ℕ) → ExtendedAt m b o register name typ signature k → r ≡ Some (StartLocalExtended register name typ signature, k)) → r ≡ Some (op, n)
  only_start_local_extended e only = back 0x04 e (only (number_part op) (name_of op) (type_of op) (signature_of op) n (operands_with 0x04 e).1)

  pub only_set_file : c ≡ 0x09 → ((i : Option ℕ) (k : ℕ) → IndexAt m.texts b o i k → r ≡ Some (SetFile i, k)) → r ≡ Some (op, n)
  only_set_file e only = back 0x09 e (only (name_of op) n (operands_with 0x09 e).1)

  pub only_advance_pc : c ≡ 0x01 → ((addresses k : ℕ) → Uleb128At b o addresses k → r ≡ Some (AdvancePc addresses, k)) → r ≡ Some (op, n)
  only_advance_pc e only = back 0x01 e (only (number_part op) n (operands_with 0x01 e).1)

  pub only_end_local : c ≡ 0x05 → ((register k : ℕ) → Uleb128At b o register k → r ≡ Some (EndLocal register, k)) → r ≡ Some (op, n)
  only_end_local e only = back 0x05 e (only (number_part op) n (operands_with 0x05 e).1)

  pub only_restart_local : c ≡ 0x06 → ((register k : ℕ) → Uleb128At b o register k → r ≡ Some (RestartLocal register, k)) → r ≡ Some (op, n)
  only_restart_local e only = back 0x06 e (only (number_part op) n (operands_with 0x06 e).1)

  pub only_prologue_end : c ≡ 0x07 → r ≡ Some (SetPrologueEnd, 0) → r ≡ Some (op, n)
  only_prologue_end e is = back 0x07 e (is ∙ ap (λ k. Some (SetPrologueEnd, k)) (sym (operands_with 0x07 e).1))

  pub only_epilogue_begin : c ≡ 0x08 → r ≡ Some (SetEpilogueBegin, 0) → r ≡ Some (op, n)
  only_epilogue_begin e is = back 0x08 e (is ∙ ap (λ k. Some (SetEpilogueBegin, k)) (sym (operands_with 0x08 e).1))
