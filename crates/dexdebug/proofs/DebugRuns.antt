-- Names and operations that are read one after the other.
use Rattle.dexdebug.proofs.Common.{nil_from_length, ◌≡◌, ℕ, ◌+◌, ◌-◌, ◌*◌, ◌<◌, ◌≤◌, List, [], ◌∷◌, ◌++◌, length, map, take, get_or, sum_by, Option, Some, None, refl, ap, sym, subst, ◌∙◌, arith, length-append, All, flat_map, flat_map-append, drop_more, append_assoc, append-nil, map-append, sum_by-append, All-nil, All-cons, All-append, IsSome, Item, Sequence, BytesAt, is_at, is_at_within, same_first, Uleb128At, operands, Operation, StartLocal, StartLocalExtended, SetFile, Special, Counts, Tally, DebugShape, Index, NumberedDebug, FitsIndex, IsFormedOperation, IsFormedDebug, unindexed_operation, operation_weight, IndexAt, OperandsAt, NumberedAt, ProgramAt, NamesAt, NumberedDebugAt, EndNames, AreTallied, IsShape, HaveNames, AreTheNames, AreTheOperations, indices_of, text_index}
use Rattle.dexdebug.proofs.DebugRead.{some_parts}

-- ---- one more

-- one item after others
pub one_after : {X : Type 0} (At : Item X) (b : List ℕ) (o : ℕ) (xs : List X) (x : X) (n k : ℕ) → Sequence At b o xs n → At b (o + n) x k → Sequence At b o (xs ++ x ∷ []) (n + k)
one_after At b o [] x n k h at = (k, 0, subst (λ (p : ℕ). At b p x k) (omega (arith, h)) at, refl, omega (arith, h))
one_after At b o (y ∷ ys) x n k h at = (h.0, h.1 + k, h.2, one_after At b (o + h.0) ys x h.1 k h.3 (subst (λ (p : ℕ). At b p x k) (omega (arith, h.4)) at), omega (arith, h.4))

-- the byte at a place
pub byte_encoded : (b : List ℕ) (i : ℕ) → i < length b → BytesAt b i (get_or b i 0 ∷ [])
byte_encoded b i lt = record { here = ap (take 1) (drop_more b i 0 lt) }

-- ---- forms

pub index_formed : (count : ℕ) (b : List ℕ) (o : ℕ) (i : Option ℕ) (n : ℕ) → IndexAt count b o i n → FitsIndex i
index_formed count b o i n h = h.0.spelled.in_range

-- numbers that are read have a spelling
pub operands_formed : (m : Counts) (c : ℕ) (b : List ℕ) (o : ℕ) (op : Operation) (n : ℕ) → OperandsAt m c b o op n → IsFormedOperation op
operands_formed m c b o (StartLocal register name typ) n h =
    record {
      name_fits = index_formed m.texts b (o + h.1.register_size) name h.1.name_size h.1.at_name;
      type_fits = index_formed m.types b (o + h.1.register_size + h.1.name_size) typ h.1.type_size h.1.at_type;
      signature_fits = omega arith;
      is_special = tt;
    }
operands_formed m c b o (StartLocalExtended register name typ signature) n h =
    let l = h.1.at_local in record {
      name_fits = index_formed m.texts b (o + l.register_size) name l.name_size l.at_name;
      type_fits = index_formed m.types b (o + l.register_size + l.name_size) typ l.type_size l.at_type;
      signature_fits = index_formed m.texts b (o + h.1.local_size) signature h.1.signature_size h.1.at_signature;
      is_special = tt;
    }
operands_formed m c b o (SetFile name) n h = record { name_fits = index_formed m.texts b o name n h.1; type_fits = omega arith; signature_fits = omega arith; is_special = tt }
operands_formed m c b o (Special opcode) n h = record { name_fits = omega arith; type_fits = omega arith; signature_fits = omega arith; is_special = h.1 }
operands_formed m c b o _ n h = record { name_fits = omega arith; type_fits = omega arith; signature_fits = omega arith; is_special = tt }

pub formed_more : (ops : List Operation) (op : Operation) → All IsFormedOperation ops → IsFormedOperation op → All IsFormedOperation (ops ++ op ∷ [])
formed_more ops op all is = All-append IsFormedOperation ops (op ∷ []) all (All-cons IsFormedOperation op [] is (All-nil IsFormedOperation))

pub names_more : (names : List (Option ℕ)) (i : Option ℕ) → All FitsIndex names → FitsIndex i → All FitsIndex (names ++ i ∷ [])
names_more names i all is = All-append FitsIndex names (i ∷ []) all (All-cons FitsIndex i [] is (All-nil FitsIndex))

-- ---- operations

-- a program that goes on at an offset goes on after the operation that is read there
pub goes_on : (m : Counts) (b : List ℕ) (o c : ℕ) (r : Option (Operation × ℕ)) → BytesAt b o (c ∷ []) → 0 < c → ((op : Operation) (n : ℕ) → OperandsAt m c b (o + 1) op n → r ≡ Some (op, n))
    → (ops : List Operation) → ProgramAt m b o ops → (op : Operation) × (n : ℕ) × (rest : List Operation) × (r ≡ Some (op, n)) × ProgramAt m b (o + (1 + n)) rest
goes_on m b o c r here some only [] p = absurd (omega (arith, some, (same_first c 0x00 [] [] here (is_at (omega (arith, p.operations)) p.end))))
goes_on m b o c r here some only (op ∷ ops) p =
    let following : o + p.operations.0 ≡ o + (1 + p.operations.2.operands_size) = omega (arith, p.operations.2.size) in (
      op,
      p.operations.2.operands_size,
      ops,
      only op p.operations.2.operands_size (subst (λ (k : ℕ). OperandsAt m k b (o + 1) op p.operations.2.operands_size) (same_first p.operations.2.opcode c [] [] p.operations.2.at_opcode here) p.operations.2.operands),
      record {
        size = p.operations.1;
        operations = subst (λ (k : ℕ). Sequence (NumberedAt m) b k ops p.operations.1) following p.operations.3;
        end = is_at (omega (arith, p.operations.4, following)) p.end;
      },
    )

-- the opcode of an operation is not that of the end
pub code_some : (m : Counts) (b : List ℕ) (o : ℕ) (op : Operation) (n c : ℕ) → OperandsAt m c b (o + 1) op n → 0 < c
code_some m b o (Special opcode) n c h = omega (arith, h.0, h.1)
code_some m b o _ n c h = omega (arith, h.0)

-- an operation is where its opcode and its operands are
pub operation_encoded : (m : Counts) (b : List ℕ) (o c : ℕ) (op : Operation) (n : ℕ) → BytesAt b o (c ∷ []) → c ≤ 0xff → OperandsAt m c b (o + 1) op n → NumberedAt m b o op (1 + n)
operation_encoded m b o c op n here byte operands = record { opcode = c; operands_size = n; at_opcode = here; byte = byte; operands = operands; size = refl }

-- ---- names

-- names that go on at an offset go on after the name that is read there
pub names_go_on : (texts : ℕ) (b : List ℕ) (o count : ℕ) (r : Option (Option ℕ × ℕ)) → ((i : Option ℕ) (n : ℕ) → IndexAt texts b o i n → r ≡ Some (i, n)) → 0 < count
    → (names : List (Option ℕ)) (n : ℕ) → NamesAt texts b o count names n → (i : Option ℕ) × (k : ℕ) × (rest : List (Option ℕ)) × (j : ℕ) × (r ≡ Some (i, k)) × NamesAt texts b (o + k) (count - 1) rest j × (n ≡ k + j)
names_go_on texts b o count r only some [] n p = let many = p.many in absurd (omega (arith, many, some))
names_go_on texts b o count r only some (i ∷ names) n p = let each = p.each in (i, each.0, names, each.1, only i each.0 each.2, record { many = omega (arith, p.many); each = each.3 }, each.4)

-- names that are read, up to a place
pub record NamesSoFar (texts : ℕ) (b : List ℕ) (from count counter at : ℕ) (names : List (Option ℕ)) : Type 0 where
  pub following : from ≤ at
  pub within : at ≤ length b
  pub counted : length names ≡ counter
  pub before : Sequence (IndexAt texts) b from names (at - from)
  pub fit : All FitsIndex names
  pub others : (ys : List (Option ℕ)) (n : ℕ) → NamesAt texts b from count ys n → (rest : List (Option ℕ)) × (k : ℕ) × NamesAt texts b at (count - counter) rest k × (from + n ≡ at + k)

-- the same, whatever they are
pub record NamesChecked (texts : ℕ) (b : List ℕ) (from count counter at : ℕ) : Type 0 where
  pub names : List (Option ℕ)
  pub so_far : NamesSoFar texts b from count counter at names

pub one_name_more : (texts : ℕ) (b : List ℕ) (from count counter at : ℕ) (names more : List (Option ℕ)) (i : Option ℕ) (k : ℕ) → NamesSoFar texts b from count counter at names → counter < count → at + k ≤ length b → IndexAt texts b at i k
    → ((j : Option ℕ) (n : ℕ) → IndexAt texts b at j n → ◌≡◌ {A = Option (Option ℕ × ℕ)} (Some (i, k)) (Some (j, n))) → more ≡ names ++ i ∷ [] → NamesSoFar texts b from count (counter + 1) (at + k) more
one_name_more texts b from count counter at names more i k h lt le here only e =
    let following = h.following in
    let counted = h.counted in
    let place : from + (at - from) ≡ at = omega arith in
    let size : at - from + k ≡ at + k - from = omega arith in
    rw e (record {
      following = omega arith;
      within = le;
      counted = omega (arith, length-append names (i ∷ []));
      before = subst (Sequence (IndexAt texts) b from (names ++ i ∷ [])) size (one_after (IndexAt texts) b from names i (at - from) k h.before (subst (λ (p : ℕ). IndexAt texts b p i k) (sym place) here));
      fit = names_more names i h.fit (index_formed texts b at i k here);
      others = λ ys n p.
          let g = h.others ys n p in
          let on = names_go_on texts b at (count - counter) (Some (i, k)) only (omega arith) g.0 g.1 g.2 in
          let same = (some_parts (i, k) (on.0, on.1) on.4).1 in
          let fewer : count - counter - 1 ≡ count - (counter + 1) = omega arith in
          (on.2, on.3, subst (λ (q : ℕ). NamesAt texts b (at + k) q on.2 on.3) fewer (subst (λ (q : ℕ). NamesAt texts b (at + q) (count - counter - 1) on.2 on.3) (sym same) on.5), omega (arith, g.3, on.6, same));
    })

-- where one of the names is not read, there are no such names
pub no_name : (texts : ℕ) (b : List ℕ) (from count counter at : ℕ) (names : List (Option ℕ)) → NamesSoFar texts b from count counter at names → counter < count
    → ((j : Option ℕ) (n : ℕ) → IndexAt texts b at j n → ◌≡◌ {A = Option (Option ℕ × ℕ)} None (Some (j, n))) → (ys : List (Option ℕ)) (n : ℕ) → NamesAt texts b from count ys n → ⊥
no_name texts b from count counter at names h lt only ys n p = let g = h.others ys n p in let wrong = (names_go_on texts b at (count - counter) None only (omega arith) g.0 g.1 g.2).4 in cc

-- operations that are read, up to a place
pub record OperationsSoFar (m : Counts) (b : List ℕ) (from at : ℕ) (ops : List Operation) : Type 0 where
  pub following : from ≤ at
  pub within : at ≤ length b
  pub few : length ops ≤ at - from
  pub before : Sequence (NumberedAt m) b from ops (at - from)
  pub formed : All IsFormedOperation ops
  pub others : (xs : List Operation) → ProgramAt m b from xs → (rest : List Operation) × ProgramAt m b at rest

-- the same, whatever they are: how many, and what they weigh
pub record OperationsChecked (m : Counts) (b : List ℕ) (from at count indices weight : ℕ) : Type 0 where
  pub operations : List Operation
  pub so_far : OperationsSoFar m b from at operations
  pub counted : length operations ≡ count
  pub indexed : length (flat_map indices_of operations) ≡ indices
  pub weighed : sum_by operation_weight operations ≡ weight
  pub few : count ≤ at
  pub light : weight ≤ 21 * count
  pub bounded : indices ≤ 3 * count

pub one_operation_more : (m : Counts) (b : List ℕ) (from at c : ℕ) (ops more : List Operation) (op : Operation) (k : ℕ) → OperationsSoFar m b from at ops → at + 1 + k ≤ length b → BytesAt b at (c ∷ []) → 0 < c → c ≤ 0xff
    → OperandsAt m c b (at + 1) op k → ((x : Operation) (n : ℕ) → OperandsAt m c b (at + 1) x n → ◌≡◌ {A = Option (Operation × ℕ)} (Some (op, k)) (Some (x, n))) → more ≡ ops ++ op ∷ [] → OperationsSoFar m b from (at + (1 + k)) more
one_operation_more m b from at c ops more op k h le here some byte operands only e =
    let following = h.following in
    let few = h.few in
    let place : from + (at - from) ≡ at = omega arith in
    let size : at - from + (1 + k) ≡ at + (1 + k) - from = omega arith in
    rw e (record {
      following = omega arith;
      within = omega arith;
      few = omega (arith, length-append ops (op ∷ []));
      before = subst (Sequence (NumberedAt m) b from (ops ++ op ∷ [])) size (one_after (NumberedAt m) b from ops op (at - from) (1 + k) h.before (subst (λ (p : ℕ). NumberedAt m b p op (1 + k)) (sym place) (operation_encoded m b at c op k here byte operands)));
      formed = formed_more ops op h.formed (operands_formed m c b (at + 1) op k operands);
      others = λ xs p.
          let g = h.others xs p in
          let on = goes_on m b at c (Some (op, k)) here some only g.0 g.1 in
          (on.2, subst (λ (q : ℕ). ProgramAt m b (at + (1 + q)) on.2) (sym ((some_parts (op, k) (on.0, on.1) on.3).1)) on.4);
    })

-- where no operation is read, the program does not go on
pub no_operation : (m : Counts) (b : List ℕ) (from at c : ℕ) (ops : List Operation) → OperationsSoFar m b from at ops → BytesAt b at (c ∷ []) → 0 < c
    → ((x : Operation) (n : ℕ) → OperandsAt m c b (at + 1) x n → ◌≡◌ {A = Option (Operation × ℕ)} None (Some (x, n))) → (xs : List Operation) → ProgramAt m b from xs → ⊥
no_operation m b from at c ops h here some only xs p = let g = h.others xs p in let wrong = (goes_on m b at c None here some only g.0 g.1).3 in cc

-- a program does not end after the bytes
pub no_end : (m : Counts) (b : List ℕ) (from at : ℕ) (ops : List Operation) → OperationsSoFar m b from at ops → length b ≤ at → (xs : List Operation) → ProgramAt m b from xs → ⊥
no_end m b from at ops h end xs p = let g = h.others xs p in let within = is_at_within g.1.end in omega (arith, within, end)

-- one operation more, with its weight
pub one_more_checked : (m : Counts) (b : List ℕ) (from at c count indices weight : ℕ) (op : Operation) (k n i : ℕ) → OperationsChecked m b from at count indices weight → at + 1 + k ≤ length b → BytesAt b at (c ∷ []) → 0 < c → c ≤ 0xff → OperandsAt m c b (at + 1) op k
    → ((x : Operation) (n : ℕ) → OperandsAt m c b (at + 1) x n → ◌≡◌ {A = Option (Operation × ℕ)} (Some (op, k)) (Some (x, n))) → n ≡ operands (unindexed_operation op) → n < 5 → i ≡ length (indices_of op) → i ≤ 3
    → OperationsChecked m b from (at + (1 + k)) (count + 1) (indices + i) (weight + (1 + 5 * n))
one_more_checked m b from at c count indices weight op k n i h le here some byte operands_at only is light places few_places =
    let ops = h.operations in
    let counted = h.counted in
    let indexed = h.indexed in
    let weighed = h.weighed in
    let few = h.few in
    let bounded = h.bounded in
    let so_far = h.light in record {
      operations = ops ++ op ∷ [];
      so_far = one_operation_more m b from at c ops (ops ++ op ∷ []) op k h.so_far le here some byte operands_at only refl;
      counted = omega (arith, length-append ops (op ∷ []), counted);
      indexed = omega (arith, ap length (flat_map-append indices_of ops (op ∷ [])), length-append (flat_map indices_of ops) (flat_map indices_of (op ∷ [])), length-append (indices_of op) [], indexed, places);
      weighed = omega (arith, sum_by-append operation_weight ops (op ∷ []), weighed, is);
      few = omega arith;
      light = omega arith;
      bounded = omega arith;
    }

-- ---- names and operations that are known to be there

is_some : {A : Type 0} (r : Option A) (x : A) → r ≡ Some x → IsSome r
is_some r x e = rw e refl

-- names that are built up to a place, and those ahead
pub record NamesBuilt (texts : ℕ) (b : List ℕ) (from count counter at : ℕ) (names : List (Option ℕ)) : Type 0 where
  pub rest : List (Option ℕ)
  pub size : ℕ
  pub left : counter + length rest ≡ count
  pub ahead : Sequence (IndexAt texts) b at rest size
  pub whole : AreTheNames texts b from count (names ++ rest)

pub no_names_built : (texts : ℕ) (b : List ℕ) (from count : ℕ) (names : List (Option ℕ)) → HaveNames texts b from count → names ≡ [] → NamesBuilt texts b from count 0 from names
no_names_built texts b from count names h e = let at = h.are.names_at in rw e (record { rest = h.names; size = h.are.size; left = omega (arith, at.many); ahead = at.each; whole = h.are })

-- the name that is read is the first ahead
pub record IsNextName (texts : ℕ) (b : List ℕ) (from count counter at : ℕ) (names : List (Option ℕ)) (r : Option (Option ℕ × ℕ)) : Type 0 where
  pub some : IsSome r
  pub built : (x : Option ℕ × ℕ) (more : List (Option ℕ)) → r ≡ Some x → more ≡ names ++ x.0 ∷ [] → NamesBuilt texts b from count (counter + 1) (at + x.1) more

pub next_name : (texts : ℕ) (b : List ℕ) (from count counter at : ℕ) (names : List (Option ℕ)) (r : Option (Option ℕ × ℕ)) → NamesBuilt texts b from count counter at names → counter < count → ((i : Option ℕ) (n : ℕ) → IndexAt texts b at i n → r ≡ Some (i, n))
    → IsNextName texts b from count counter at names r
next_name texts b from count counter at names r h lt only = by_rest h.rest h.left h.ahead h.whole
  where
    by_rest : (rest : List (Option ℕ)) → counter + length rest ≡ count → Sequence (IndexAt texts) b at rest h.size → AreTheNames texts b from count (names ++ rest) → IsNextName texts b from count counter at names r
    by_rest [] left each whole = absurd (omega (arith, left))
    by_rest (i ∷ rest) left each whole =
        let is = only i each.0 each.2 in record {
          some = is_some r (i, each.0) is;
          built = λ x more e f.
              let same = some_parts (i, each.0) x (sym is ∙ e) in record {
                rest = rest;
                size = each.1;
                left = omega (arith, left);
                ahead = subst (λ (k : ℕ). Sequence (IndexAt texts) b (at + k) rest each.1) same.1 each.3;
                whole = subst (AreTheNames texts b from count) (sym (append_assoc names (i ∷ []) rest) ∙ ap (λ j. names ++ j ∷ [] ++ rest) same.0 ∙ ap (λ xs. xs ++ rest) (sym f)) whole;
              };
        }

pub all_names_built : (texts : ℕ) (b : List ℕ) (from count counter at : ℕ) (names : List (Option ℕ)) → NamesBuilt texts b from count counter at names → counter ≡ count → AreTheNames texts b from count names
all_names_built texts b from count counter at names h e = subst (AreTheNames texts b from count) (ap (λ rest. names ++ rest) (nil_from_length h.rest (omega (arith, h.left, e))) ∙ append-nil names) h.whole

-- operations that are built up to a place, and those ahead
pub record OperationsBuilt (m : Counts) (b : List ℕ) (from : ℕ) (t : Tally) (counter at : ℕ) (ops : List Operation) : Type 0 where
  pub rest : List Operation
  pub left : counter + length rest ≡ t.operations
  pub ahead : ProgramAt m b at rest
  pub whole : AreTheOperations m b from t (ops ++ rest)

pub are_tallied : (m : Counts) (b : List ℕ) (from : ℕ) (t : Tally) (h : AreTallied m b from t) → AreTheOperations m b from t h.operations
are_tallied m b from t h = record { many = h.count; program = h.program; formed = h.formed; indices = h.indices; weight = h.weight }

pub no_operations_built : (m : Counts) (b : List ℕ) (from : ℕ) (t : Tally) (ops : List Operation) → AreTallied m b from t → ops ≡ [] → OperationsBuilt m b from t 0 from ops
no_operations_built m b from t ops h e = rw e (record { rest = h.operations; left = omega (arith, h.count); ahead = h.program; whole = are_tallied m b from t h })

-- the operation that is read is the first ahead
pub record IsNextOperation (m : Counts) (b : List ℕ) (from : ℕ) (t : Tally) (counter at c : ℕ) (ops : List Operation) (r : Option (Operation × ℕ)) : Type 0 where
  pub some : IsSome r
  pub built : (x : Operation × ℕ) (more : List Operation) → r ≡ Some x → more ≡ ops ++ x.0 ∷ [] → OperationsBuilt m b from t (counter + 1) (at + (1 + x.1)) more

-- there is an opcode ahead, that of an operation
pub opcode_within : (m : Counts) (b : List ℕ) (from : ℕ) (t : Tally) (counter at : ℕ) (ops : List Operation) → OperationsBuilt m b from t counter at ops → at < length b
opcode_within m b from t counter at ops h = let p = h.ahead in let within = is_at_within p.end in omega (arith, within)

pub opcode_some : (m : Counts) (b : List ℕ) (from : ℕ) (t : Tally) (counter at : ℕ) (ops : List Operation) → OperationsBuilt m b from t counter at ops → counter < t.operations → 0 < get_or b at 0
opcode_some m b from t counter at ops h lt = by_rest h.rest h.left h.ahead
  where
    by_rest : (rest : List Operation) → counter + length rest ≡ t.operations → ProgramAt m b at rest → 0 < get_or b at 0
    by_rest [] left p = absurd (omega (arith, left))
    by_rest (op ∷ rest) left p =
        omega (arith, same_first p.operations.2.opcode (get_or b at 0) [] [] p.operations.2.at_opcode (byte_encoded b at (opcode_within m b from t counter at ops h)), code_some m b at op p.operations.2.operands_size p.operations.2.opcode p.operations.2.operands)

pub next_operation : (m : Counts) (b : List ℕ) (from : ℕ) (t : Tally) (counter at : ℕ) (ops : List Operation) (r : Option (Operation × ℕ)) → OperationsBuilt m b from t counter at ops → counter < t.operations
    → ((op : Operation) (n : ℕ) → OperandsAt m (get_or b at 0) b (at + 1) op n → r ≡ Some (op, n)) → IsNextOperation m b from t counter at (get_or b at 0) ops r
next_operation m b from t counter at ops r h lt only = by_rest h.rest h.left h.ahead h.whole
  where
    c : ℕ
    c = get_or b at 0

    by_rest : (rest : List Operation) → counter + length rest ≡ t.operations → ProgramAt m b at rest → AreTheOperations m b from t (ops ++ rest) → IsNextOperation m b from t counter at c ops r
    by_rest [] left p whole = absurd (omega (arith, left))
    by_rest (op ∷ rest) left p whole =
        let is = only op p.operations.2.operands_size (subst (λ (k : ℕ). OperandsAt m k b (at + 1) op p.operations.2.operands_size) (same_first p.operations.2.opcode c [] [] p.operations.2.at_opcode (byte_encoded b at (opcode_within m b from t counter at ops h))) p.operations.2.operands) in record {
          some = is_some r (op, p.operations.2.operands_size) is;
          built = λ x more e f.
              let same = some_parts (op, p.operations.2.operands_size) x (sym is ∙ e) in
              let following : at + p.operations.0 ≡ at + (1 + x.1) = omega (arith, p.operations.2.size, same.1) in record {
                rest = rest;
                left = omega (arith, left);
                ahead = record {
                  size = p.operations.1;
                  operations = subst (λ (k : ℕ). Sequence (NumberedAt m) b k rest p.operations.1) following p.operations.3;
                  end = is_at (omega (arith, p.operations.4, following)) p.end;
                };
                whole = subst (AreTheOperations m b from t) (sym (append_assoc ops (op ∷ []) rest) ∙ ap (λ y. ops ++ y ∷ [] ++ rest) same.0 ∙ ap (λ ys. ys ++ rest) (sym f)) whole;
              };
        }

pub all_operations_built : (m : Counts) (b : List ℕ) (from : ℕ) (t : Tally) (counter at : ℕ) (ops : List Operation) → OperationsBuilt m b from t counter at ops → counter ≡ t.operations → AreTheOperations m b from t ops
all_operations_built m b from t counter at ops h e = subst (AreTheOperations m b from t) (ap (λ rest. ops ++ rest) (nil_from_length h.rest (omega (arith, h.left, e))) ∙ append-nil ops) h.whole

-- the numbers of the symbols of operations that are built up to a place, after others
pub record SymbolsBuilt (m : Counts) (b : List ℕ) (from : ℕ) (t : Tally) (counter at : ℕ) (is js : List Index) : Type 0 where
  pub operations : List Operation
  pub built : OperationsBuilt m b from t counter at operations
  pub kept : js ≡ is ++ flat_map indices_of operations

pub more_symbols : (m : Counts) (b : List ℕ) (from : ℕ) (t : Tally) (counter at : ℕ) (is js ks : List Index) (x : Operation × ℕ) (h : SymbolsBuilt m b from t counter at is js) → ((more : List Operation) → more ≡ h.operations ++ x.0 ∷ [] → OperationsBuilt m b from t (counter + 1) (at + (1 + x.1)) more)
    → ks ≡ js ++ indices_of x.0 → SymbolsBuilt m b from t (counter + 1) (at + (1 + x.1)) is ks
more_symbols m b from t counter at is js ks x h on e = record {
  operations = h.operations ++ x.0 ∷ [];
  built = on (h.operations ++ x.0 ∷ []) refl;
  kept = e ∙ ap (λ xs. xs ++ indices_of x.0) h.kept ∙ append_assoc is (flat_map indices_of h.operations) (indices_of x.0)
      ∙ ap (λ xs. is ++ xs) (sym (flat_map-append indices_of h.operations (x.0 ∷ []) ∙ ap (λ xs. flat_map indices_of h.operations ++ xs) (append-nil (indices_of x.0))));
}

-- the symbols of an operation that is built, and of those before it, are among those of the tally
pub room_for_next : (m : Counts) (b : List ℕ) (from : ℕ) (t : Tally) (counter at : ℕ) (ops : List Operation) (op : Operation) → OperationsBuilt m b from t counter at (ops ++ op ∷ []) → length (flat_map indices_of ops) + length (indices_of op) ≤ t.indices
room_for_next m b from t counter at ops op h =
    let all = ap length (flat_map-append indices_of (ops ++ op ∷ []) h.rest) ∙ length-append (flat_map indices_of (ops ++ op ∷ [])) (flat_map indices_of h.rest) in
    let first = ap length (flat_map-append indices_of ops (op ∷ [])) ∙ length-append (flat_map indices_of ops) (flat_map indices_of (op ∷ [])) in
    omega (arith, all, first, length-append (indices_of op) [], h.whole.indices)

-- names that are built up to a place, stored after others
pub record NamesKept (texts : ℕ) (b : List ℕ) (from count counter at : ℕ) (is js : List Index) : Type 0 where
  pub names : List (Option ℕ)
  pub within : at ≤ length b
  pub built : NamesBuilt texts b from count counter at names
  pub kept : js ≡ is ++ map text_index names

pub more_names : (texts : ℕ) (b : List ℕ) (from count counter at : ℕ) (is js ks : List Index) (x : Option ℕ × ℕ) (h : NamesKept texts b from count counter at is js) → ((more : List (Option ℕ)) → more ≡ h.names ++ x.0 ∷ [] → NamesBuilt texts b from count (counter + 1) (at + x.1) more)
    → at + x.1 ≤ length b → ks ≡ js ++ text_index x.0 ∷ [] → NamesKept texts b from count (counter + 1) (at + x.1) is ks
more_names texts b from count counter at is js ks x h on within e = record {
  names = h.names ++ x.0 ∷ [];
  within = within;
  built = on (h.names ++ x.0 ∷ []) refl;
  kept = e ∙ ap (λ xs. xs ++ text_index x.0 ∷ []) h.kept ∙ append_assoc is (map text_index h.names) (text_index x.0 ∷ []) ∙ ap (λ xs. is ++ xs) (sym (map-append text_index h.names (x.0 ∷ [])));
}

-- ---- a whole program

-- the two numbers that come first, which are read
pub record Heads (b : List ℕ) (o : ℕ) (start count : ℕ × ℕ) : Type 0 where
  pub starts : (v n : ℕ) → Uleb128At b o v n → Some start ≡ Some (v, n)
  pub counts : (v n : ℕ) → Uleb128At b (o + start.1) v n → Some count ≡ Some (v, n)

-- the names and the operations after them
after_heads : (m : Counts) (b : List ℕ) (o : ℕ) (start count : ℕ × ℕ) → Heads b o start count → (d : NumberedDebug) → NumberedDebugAt m b o d
    → (n : ℕ) × NamesAt m.texts b (o + start.1 + count.1) count.0 d.parameter_names n × ProgramAt m b (o + start.1 + count.1 + n) d.operations
after_heads m b o start count h d p =
    let first = some_parts start (d.line_start, p.start_size) (h.starts d.line_start p.start_size p.at_start) in
    let second = some_parts count (length d.parameter_names, p.count_size) (h.counts (length d.parameter_names) p.count_size (subst (λ (k : ℕ). Uleb128At b (o + k) (length d.parameter_names) p.count_size) (sym first.1) p.at_count)) in
    let place : o + p.start_size + p.count_size ≡ o + start.1 + count.1 = omega (arith, first.1, second.1) in
    let following : o + p.start_size + p.count_size + p.names_size ≡ o + start.1 + count.1 + p.names_size = omega (arith, first.1, second.1) in (
      p.names_size,
      subst (λ (k : ℕ). NamesAt m.texts b k count.0 d.parameter_names p.names_size) place (subst (λ (k : ℕ). NamesAt m.texts b (o + p.start_size + p.count_size) k d.parameter_names p.names_size) (sym second.0) p.at_names),
      subst (λ (k : ℕ). ProgramAt m b k d.operations) following p.program,
    )

-- without names there is no program
pub no_names : (m : Counts) (b : List ℕ) (o : ℕ) (start count : ℕ × ℕ) → Heads b o start count → ((names : List (Option ℕ)) (n : ℕ) → NamesAt m.texts b (o + start.1 + count.1) count.0 names n → ⊥) → (d : NumberedDebug) → NumberedDebugAt m b o d → ⊥
no_names m b o start count h none d p = let g = after_heads m b o start count h d p in none d.parameter_names g.0 g.1

-- nor is there without operations
pub no_operations : (m : Counts) (b : List ℕ) (o end : ℕ) (start count : ℕ × ℕ) → Heads b o start count → EndNames m.texts b (o + start.1 + count.1) count.0 end → ((ops : List Operation) → ProgramAt m b end ops → ⊥) → (d : NumberedDebug) → NumberedDebugAt m b o d → ⊥
no_operations m b o end start count h are none d p = let g = after_heads m b o start count h d p in none d.operations (subst (λ (k : ℕ). ProgramAt m b k d.operations) (are.ends d.parameter_names g.0 g.1) g.2)

-- what is read of a shape is the debug program there
pub built_at : (m : Counts) (b : List ℕ) (o : ℕ) (s : DebugShape) (names : List (Option ℕ)) (ops : List Operation) → IsShape m b o s → AreTheNames m.texts b s.names_at s.names names → AreTheOperations m b s.operations_at s.tally ops
    → NumberedDebugAt m b o (record { line_start = s.line_start; parameter_names = names; operations = ops })
built_at m b o s names ops q n h =
    let end : s.operations_at ≡ o + q.start_size + q.count_size + n.size = omega (arith, q.at_names, q.names.ends names n.size n.names_at) in
    record {
      start_size = q.start_size;
      count_size = q.count_size;
      names_size = n.size;
      at_start = q.at_start;
      at_count = subst (λ (k : ℕ). Uleb128At b (o + q.start_size) k q.count_size) (sym n.names_at.many) q.at_count;
      at_names = subst (λ (p : ℕ). NamesAt m.texts b p (length names) names n.size) q.at_names (subst (λ (k : ℕ). NamesAt m.texts b s.names_at k names n.size) (sym n.names_at.many) n.names_at);
      program = subst (λ (p : ℕ). ProgramAt m b p ops) end h.program;
    }

pub built_formed : (m : Counts) (b : List ℕ) (o : ℕ) (s : DebugShape) (names : List (Option ℕ)) (ops : List Operation) → IsShape m b o s → AreTheNames m.texts b s.names_at s.names names → AreTheOperations m b s.operations_at s.tally ops
    → IsFormedDebug (record { line_start = s.line_start; parameter_names = names; operations = ops })
built_formed m b o s names ops q n h = record {
  names_count = omega (arith, n.names_at.many, q.few);
  names_fit = n.fit;
  operations_count = omega (arith, h.many, q.operations.few, q.operations.count);
  operations_fit = h.formed;
}
