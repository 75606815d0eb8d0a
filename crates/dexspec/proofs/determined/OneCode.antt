-- There is at most one code item at an offset: its units are cut in one way, and the offset of a handler determines it.
use Rattle.dexspec.proofs.Common.{◌≡◌, ℕ, ◌+◌, ◌*◌, ◌<◌, inl, inr, List, [], ◌∷◌, ◌++◌, length, drop, Option, Some, None, refl, ap, sym, subst, ◌∙◌, arith, zero, suc, slice_index, nat_abs, ℤ, Bool, true, false, if◌then◌else◌, option_and_then, ints, AllZip, Code}
use Rattle.dexspec.specs.{Item, Sequence, SomeAt, uint_at, ushort_at, Uleb128At, Sleb128At, pool_of, opcode_of, TypeRow, SymbolRow, Cut, AreCut, piece_size, Piece, Instruction, Payload, DenotesPiece, index_pool, index_in, is_payload_ident, low_byte, cut_units, DebugAt, Catch, Handler, Try, code_units, PiecesAt, CatchAt, CatchAllAt, HandlerAt, IsHandler, TryAt, TryItemsAt, TriesAt, CodeAt}
use Rattle.dexspec.proofs.lists.Sequences.{one_sequence}
use Rattle.dexspec.proofs.determined.OneNumber.{one_uleb128, one_sleb128}
use Rattle.dexspec.proofs.determined.OneRow.{one_type, one_symbol, one_all_zip, one_or_none}
use Rattle.dexspec.proofs.determined.OneDebug.{one_debug}

-- ---- cuts

-- without units no piece begins
nothing_left : (at : ℕ) (us : List ℕ) (n : ℕ) → us ≡ [] → piece_size at us ≡ Some n → ⊥
unfolding piece_size
nothing_left at us n e s = let z : piece_size at [] ≡ Some n = ap (piece_size at) (sym e) ∙ s in absurd cc

-- the value of an option
same_some : {X : Type 0} (o : Option X) (x y : X) → o ≡ Some x → o ≡ Some y → x ≡ y
same_some o x y e f = let z : Some x ≡ Some y = sym e ∙ f in cc

-- units are cut to the end in at most one way
pub one_cut : (at : ℕ) (us : List ℕ) (cs ds : List Cut) → AreCut at us cs [] → AreCut at us ds [] → cs ≡ ds
one_cut at us [] [] h g = refl
one_cut at us [] (d ∷ ds) h g = absurd (nothing_left at us d.units h g.1)
one_cut at us (c ∷ cs) [] h g = absurd (nothing_left at us c.units g h.1)
one_cut at us (c ∷ cs) (d ∷ ds) h g =
    let unit : c.unit ≡ d.unit = h.0 ∙ sym g.0 in
    let units : c.units ≡ d.units = same_some (piece_size at us) c.units d.units h.1 g.1 in
    let rest = one_cut (at + d.units) (drop d.units us) cs ds (subst (λ (n : ℕ). AreCut (at + n) (drop n us) cs []) units h.2) g.2 in
    λ i. record { unit = unit i; units = units i } ∷ rest i

-- ---- pieces

-- a payload has no index
no_pool : (us : List ℕ) → is_payload_ident (slice_index us 0) ≡ true → index_pool us ≡ None
no_pool us e = ap (λ (t : Bool). if t then None else option_and_then (λ op. op.index) (opcode_of (low_byte (slice_index us 0)))) e

-- units encode at most one piece
pub one_piece : (b us : List ℕ) (p q : Piece) → DenotesPiece (SymbolRow b) us p → DenotesPiece (SymbolRow b) us q → p ≡ q
one_piece b us (Instruction xs None) (Instruction ys None) h g = ap (λ (zs : List ℕ). Instruction zs None) (h.2 ∙ sym g.2)
one_piece b us (Instruction xs None) (Instruction ys (Some t)) h g = absurd (let z : None ≡ Some (pool_of t) = sym h.1 ∙ g.0 in cc)
one_piece b us (Instruction xs None) (Payload ys) h g = absurd (let z : false ≡ true = sym h.0 ∙ g.0 in cc)
one_piece b us (Instruction xs (Some s)) (Instruction ys None) h g = absurd (let z : None ≡ Some (pool_of s) = sym g.1 ∙ h.0 in cc)
one_piece b us (Instruction xs (Some s)) (Instruction ys (Some t)) h g =
    let units : xs ≡ ys = h.2 ∙ sym g.2 in
    let symbol = one_symbol b (index_in us) s t (same_some (index_pool us) (pool_of s) (pool_of t) h.0 g.0) h.1 g.1 in
    λ i. Instruction (units i) (Some (symbol i))
one_piece b us (Instruction xs (Some s)) (Payload ys) h g = absurd (let z : None ≡ Some (pool_of s) = sym (no_pool us g.0) ∙ h.0 in cc)
one_piece b us (Payload xs) (Instruction ys None) h g = absurd (let z : false ≡ true = sym g.0 ∙ h.0 in cc)
one_piece b us (Payload xs) (Instruction ys (Some t)) h g = absurd (let z : None ≡ Some (pool_of t) = sym (no_pool us h.0) ∙ g.0 in cc)
one_piece b us (Payload xs) (Payload ys) h g = ap Payload (h.1 ∙ sym g.1)

-- the units at an offset are those of at most one code item, cut into pieces in one way
pub one_pieces : (b : List ℕ) (o : ℕ) (cs ds : List Cut) (ps qs : List Piece) → PiecesAt b o cs ps → PiecesAt b o ds qs → (cs ≡ ds) × (ps ≡ qs)
one_pieces b o cs ds ps qs h g =
    let cuts = one_cut 0 (code_units b o) cs ds h.code.cut g.code.cut in
    let encodes = λ (c : Cut) (p : Piece). DenotesPiece (SymbolRow b) (cut_units (code_units b o) c) p in
    (cuts, one_all_zip encodes (λ c p q x y. one_piece b (cut_units (code_units b o) c) p q x y) ds ps qs (subst (λ (zs : List Cut). AllZip encodes zs ps) cuts h.pieces) g.pieces)

-- ---- handlers

-- a number has at least one byte
sleb_some : (b : List ℕ) (o : ℕ) (v : ℤ) (n : ℕ) → Sleb128At b o v n → 0 < n
sleb_some b o v zero h = absurd h.spelled.chain
sleb_some b o v (suc n) h = omega arith

module _ (us : List ℕ) (cuts : List Cut) where
  -- one catch
  pub one_catch : (b : List ℕ) (o : ℕ) (c d : Catch) (n k : ℕ) → CatchAt us cuts b o c n → CatchAt us cuts b o d k → (c ≡ d) × (n ≡ k)
  one_catch b o c d n k h g =
      let index = one_uleb128 b o h.index g.index h.index_size g.index_size h.index_is g.index_is in
      let type = one_type b g.index c.type d.type (subst (λ (i : ℕ). TypeRow b i c.type) index.0 h.type) g.type in
      let address = one_uleb128 b (o + g.index_size) c.address d.address h.address_size g.address_size (subst (λ (i : ℕ). Uleb128At b (o + i) c.address h.address_size) index.1 h.address) g.address in
      ((λ i. record { type = type i; address = address.0 i }), omega (arith, index.1, address.1, h.size, g.size))

  -- one catch-all address, or none
  one_catch_all : (size : ℤ) (b : List ℕ) (o : ℕ) (c d : Option ℕ) (n k : ℕ) → CatchAllAt us cuts size b o c n → CatchAllAt us cuts size b o d k → (c ≡ d) × (n ≡ k)
  one_catch_all size b o None None n k h g = (refl, h.1 ∙ sym g.1)
  one_catch_all size b o (Some c) (Some d) n k h g = let e = one_uleb128 b o c d n k h.1 g.1 in (ap Some e.0, e.1)
  one_catch_all size b o _ _ n k h g = absurd (omega (arith, ints, h.0, g.0))

  -- one handler
  pub one_handler : (b : List ℕ) (o : ℕ) (x y : Handler) (n k : ℕ) → HandlerAt us cuts b o x n → HandlerAt us cuts b o y k → (x ≡ y) × (n ≡ k)
  one_handler b o x y n k h g =
      let count = one_sleb128 b o h.count g.count h.count_size g.count_size h.count_is g.count_is in
      let many : length x.catches ≡ length y.catches = sym h.many ∙ ap nat_abs count.0 ∙ g.many in
      let catches = one_sequence (CatchAt us cuts) one_catch b (o + g.count_size) x.catches y.catches h.catches_size g.catches_size many
      (subst (λ (i : ℕ). Sequence (CatchAt us cuts) b (o + i) x.catches h.catches_size) count.1 h.catches) g.catches in
      let place : o + h.count_size + h.catches_size ≡ o + g.count_size + g.catches_size = omega (arith, count.1, catches.1) in
      let moved = subst (λ (z : ℤ). CatchAllAt us cuts z b (o + h.count_size + h.catches_size) x.catch_all h.all_size) count.0 h.all in
      let all = one_catch_all g.count b (o + g.count_size + g.catches_size) x.catch_all y.catch_all h.all_size g.all_size
      (subst (λ (p : ℕ). CatchAllAt us cuts g.count b p x.catch_all h.all_size) place moved) g.all in
      ((λ i. record { catches = catches.0 i; catch_all = all.0 i }), omega (arith, count.1, catches.1, all.1, h.size, g.size))

-- in one list the item after a number of bytes of items is determined
one_place : {X : Type 0} (At : Item X) → ((b : List ℕ) (o : ℕ) (x y : X) (n k : ℕ) → At b o x n → At b o y k → (x ≡ y) × (n ≡ k)) → ((b : List ℕ) (o : ℕ) (x : X) (n : ℕ) → At b o x n → 0 < n)
    → (b : List ℕ) (o : ℕ) (xs ys : List X) (x y : X) (more others : List X) (n k : ℕ) → xs ++ x ∷ more ≡ ys ++ y ∷ others → n ≡ k → Sequence At b o xs n → Sequence At b o ys k → x ≡ y
one_place At one some b o [] [] x y more others n k e is h g = cc
one_place At one some b o [] (z ∷ ys) x y more others n k e is h g = absurd (omega (arith, h, g.4, some b o z g.0 g.2))
one_place At one some b o (z ∷ xs) [] x y more others n k e is h g = absurd (omega (arith, g, h.4, some b o z h.0 h.2))
one_place At one some b o (w ∷ xs) (z ∷ ys) x y more others n k e is h g =
    let heads : w ≡ z = cc in
    let tails : xs ++ x ∷ more ≡ ys ++ y ∷ others = cc in
    let first = one b o w z h.0 g.0 h.2 g.2 in
    one_place At one some b (o + g.0) xs ys x y more others h.1 g.1 tails (omega (arith, first.1, h.4, g.4, is)) (subst (λ (i : ℕ). Sequence At b (o + i) xs h.1) first.1 h.3) g.3

-- ---- tries

module _ (us : List ℕ) (cuts : List Cut) where
  -- one handler begins at an offset of the list
  one_offset : (b : List ℕ) (o size : ℕ) (hs : List Handler) (off : ℕ) (x y : Handler) → IsHandler us cuts b o size hs off x → IsHandler us cuts b o size hs off y → x ≡ y
  one_offset b o size hs off x y h g =
      one_place (HandlerAt us cuts) (one_handler us cuts) (λ b o x n at. omega (arith, at.size, sleb_some b o at.count at.count_size at.count_is))
      b (o + size) h.before g.before x y h.after g.after h.before_size g.before_size (sym h.parts ∙ g.parts) (omega (arith, h.place, g.place)) h.encodes g.encodes

  -- one try
  one_try : (list size : ℕ) (hs : List Handler) (b : List ℕ) (o : ℕ) (t u : Try) (n k : ℕ) → TryAt us cuts list size hs b o t n → TryAt us cuts list size hs b o u k → (t ≡ u) × (n ≡ k)
  one_try list size hs b o t u n k h g =
      let start : t.start ≡ u.start = sym h.start ∙ g.start in
      let count : t.count ≡ u.count = sym h.count ∙ g.count in
      let handler = one_offset b list size hs (ushort_at b (o + 6)) t.handler u.handler h.handler g.handler in
      ((λ i. record { start = start i; count = count i; handler = handler i }), h.size ∙ sym g.size)

  -- one list of tries
  pub one_try_items : (b : List ℕ) (o count : ℕ) (ts vs : List Try) → TryItemsAt us cuts b o count ts → TryItemsAt us cuts b o count vs → ts ≡ vs
  one_try_items b o count ts vs h g =
      let many = one_uleb128 b (o + 8 * count) (length h.handlers) (length g.handlers) h.count_size g.count_size h.list_count g.list_count in
      let list = one_sequence (HandlerAt us cuts) (one_handler us cuts) b (o + 8 * count + g.count_size) h.handlers g.handlers h.handlers_size g.handlers_size many.0
      (subst (λ (i : ℕ). Sequence (HandlerAt us cuts) b (o + 8 * count + i) h.handlers h.handlers_size) many.1 h.list) g.list in
      let moved = subst (λ (i : ℕ). Sequence (TryAt us cuts (o + 8 * count) i h.handlers) b o ts (8 * count)) many.1 h.items in
      let items = subst (λ (hs : List Handler). Sequence (TryAt us cuts (o + 8 * count) g.count_size hs) b o ts (8 * count)) list.0 moved in
      (one_sequence (TryAt us cuts (o + 8 * count) g.count_size g.handlers) (one_try (o + 8 * count) g.count_size g.handlers) b o ts vs (8 * count) (8 * count) (h.many ∙ sym g.many) items g.items).0

-- a code item has at most one list of tries
pub one_tries : (b : List ℕ) (o : ℕ) (cuts : List Cut) (ts vs : List Try) → TriesAt b o cuts ts → TriesAt b o cuts vs → ts ≡ vs
one_tries b o cuts ts vs (inl h) (inl g) = h.1 ∙ sym g.1
one_tries b o cuts ts vs (inl h) (inr g) = absurd (g.0 h.0)
one_tries b o cuts ts vs (inr h) (inl g) = absurd (h.0 g.0)
one_tries b o cuts ts vs (inr (c, inl h)) (inr (d, inl g)) = one_try_items (code_units b o) cuts b (o + 16 + 2 * uint_at b (o + 12)) (ushort_at b (o + 6)) ts vs h.1 g.1
one_tries b o cuts ts vs (inr (c, inl h)) (inr (d, inr g)) = absurd (omega (arith, h.0, g.0))
one_tries b o cuts ts vs (inr (c, inr h)) (inr (d, inl g)) = absurd (omega (arith, h.0, g.0))
one_tries b o cuts ts vs (inr (c, inr h)) (inr (d, inr g)) = one_try_items (code_units b o) cuts b (o + 18 + 2 * uint_at b (o + 12)) (ushort_at b (o + 6)) ts vs h.2 g.2

-- ---- the whole

-- one optional item of a kind
pub one_some : {X : Type 0} (At : List ℕ → ℕ → X → Type 0) → ((b : List ℕ) (o : ℕ) (x y : X) → At b o x → At b o y → x ≡ y) → (b : List ℕ) (o : ℕ) (x y : Option X) → SomeAt At b o x → SomeAt At b o y → x ≡ y
one_some At one b o None y h g = absurd h
one_some At one b o (Some x) None h g = absurd g
one_some At one b o (Some x) (Some y) h g = ap Some (one b o x y h g)

-- there is at most one code item at an offset
pub one_code_item : (b : List ℕ) (o : ℕ) (c d : Code) → CodeAt b o c → CodeAt b o d → c ≡ d
one_code_item b o c d h g =
    let registers : c.registers ≡ d.registers = sym h.registers.registers_size ∙ g.registers.registers_size in
    let ins : c.ins ≡ d.ins = sym h.registers.ins_size ∙ g.registers.ins_size in
    let outs : c.outs ≡ d.outs = sym h.registers.outs_size ∙ g.registers.outs_size in
    let pieces = one_pieces b o h.cuts g.cuts c.pieces d.pieces h.pieces g.pieces in
    let tries = one_tries b o g.cuts c.tries d.tries (subst (λ (cs : List Cut). TriesAt b o cs c.tries) pieces.0 h.tries) g.tries in
    let debug = one_or_none (SomeAt DebugAt) None b (uint_at b (o + 8)) c.debug d.debug (one_some DebugAt one_debug b (uint_at b (o + 8)) c.debug d.debug) h.debug g.debug in
    λ i. record { registers = registers i; ins = ins i; outs = outs i; pieces = pieces.1 i; tries = tries i; debug = debug i }
