-- What is read is stored so that it denotes the pieces of the code_item.
use Rattle.dexinsn.proofs.Common.{◌≡◌, ℕ, zero, suc, ◌+◌, ◌*◌, ◌/◌, ◌%◌, ◌^◌, ◌<◌, ◌≤◌, ◌==◌, Bool, true, false, cond, List, [], ◌∷◌, length, drop, map, get_or, slice_index, slice_set, Option, Some, None, refl, ap, sym, ◌∙◌, subst, arith, length-drop, get_or-set_other, All, AllZip, option_map_or, option_and_then, MatchOption, drop-drop, get_or-take, length-take-le, All-nil, All-cons, All-head, All-tail, uint_at, opcode_of, Pool, StringPool, TypePool, ProtoPool, FieldPool, MethodPool, Proto, Symbol, TextSymbol, TypeSymbol, ProtoSymbol, FieldSymbol, MethodSymbol, pool_of, Mentions, Cut, AreCut, IsCode, Piece, DenotesPiece, piece_size, cut_units, index_pool, index_in, is_wide_index, is_payload_ident, with_index, low_byte, two_units, PiecesAt, length-ushorts_at, ArePools, count_of, Index, IsPieceAt, Instruction, kind_of_pool, Denote, IsKnownPiece, piece_in, NumberedPiece, IsSome, cuts_from, cuts_in, parts_in, piece_with, left_by, pieces_with, with_place, index_places, AreStored, ArePiecesAt, AreUnitsAt, with_index_at, indices_at, IsInRange, AreCodeIndices, Payload, IsPiecesFault, IsCodeFault, false_from_ne_true, pos, inl, inr, eqb-true, eq-eqb, zero-add, ◌↔◌, bit_at, cases_lt, get_or_past, is_instruction_start, bits_from, bits_in, has_bit, AreStartsAt, AreCodeStarts, HasBit}
use Rattle.dexspec.specs.Rows.{SymbolRow}
use Rattle.dexpool.specs.NumberedSymbols.{no_name, symbol_at}
use Rattle.dexpool.specs.declared.symbols.SymbolKind.TheVariants as kinds
use Rattle.dexspec.specs.Pieces as symbolic
use Rattle.dexinsn.specs.{units_in}
use Rattle.dexinsn.proofs.Once.{nothing, same_cut, whole_once}
use Rattle.dexinsn.proofs.IndexRoom.{Fits, piece_size-fits, HasRoom, has_room}
use Rattle.dexpool.specs.declared.faults.ItemFault.{ItemFault}
use Rattle.dexpool.specs.declared.faults.ItemFault.TheVariants.{Refused, Memory}
use Rattle.dexinsn.specs.internal.{HasPlace}
use Rattle.dexinsn.proofs.StartBits.{same_test}
use Rattle.dexinsn.proofs.Placed.{no_bit_past}

-- ---- the cuts

abbrev more_cuts : ℕ → ℕ → List ℕ → ℕ → List Cut
more_cuts n at us size = record { unit = at; units = size } ∷ cuts_from n (at + size) (drop size us)

pub cuts_from_is : (n at : ℕ) (us : List ℕ) (cs : List Cut) → AreCut at us cs [] → length us ≤ n → cuts_from n at us ≡ cs
cuts_from_is zero at us [] cut le = refl
cuts_from_is zero at us (c ∷ cs) cut le = let f : Fits us c.units = piece_size-fits at us c.units cut.1 in absurd (omega (arith, f.0, f.1))
cuts_from_is (suc n) at us [] cut le = ap (λ (o : Option ℕ). option_map_or (more_cuts n at us) o []) (ap (piece_size at) cut ∙ nothing at)
cuts_from_is (suc n) at us (c ∷ cs) cut le =
    let here : record { unit = at; units = c.units } ≡ c = same_cut (record { unit = at; units = c.units }) c (sym cut.0) refl in
    ap (λ (o : Option ℕ). option_map_or (more_cuts n at us) o []) cut.1
    ∙ ap (λ (ds : List Cut). record { unit = at; units = c.units } ∷ ds) (cuts_from_is n (at + c.units) (drop c.units us) cs cut.2 (omega (arith, (piece_size-fits at us c.units cut.1).0, length-drop c.units us)))
    ∙ ap (λ (d : Cut). d ∷ cs) here

pub cuts_in_is : (us : List ℕ) (cs : List Cut) → AreCut 0 us cs [] → cuts_in us ≡ cs
unfolding cuts_in
cuts_in_is us cs cut = cuts_from_is (length us) 0 us cs cut (omega arith)

-- each is a piece
pieces_cut : (us : List ℕ) (at : ℕ) (cs : List Cut) → AreCut at (drop at us) cs [] → All (IsPieceAt us) cs
pieces_cut us at [] cut = All-nil (IsPieceAt us)
pieces_cut us at (c ∷ cs) cut =
    All-cons (IsPieceAt us) c cs (subst (λ (k : ℕ). piece_size k (drop k us) ≡ Some c.units) (sym cut.0) cut.1)
    (pieces_cut us (at + c.units) cs (subst (λ (xs : List ℕ). AreCut (at + c.units) xs cs []) (drop-drop c.units at us) cut.2))

pub code_pieces : (us : List ℕ) (cs : List Cut) → IsCode us cs → All (IsPieceAt us) cs
code_pieces us cs code = pieces_cut us 0 cs code.cut

-- ---- the units of one piece

-- what depends on the first unit alone
pub same_pool : (xs ys : List ℕ) → slice_index xs 0 ≡ slice_index ys 0 → index_pool xs ≡ index_pool ys
same_pool xs ys e = ap (λ (u : ℕ). cond (is_payload_ident u) None (option_and_then (λ op. op.index) (opcode_of (low_byte u)))) e

pub same_wide : (xs ys : List ℕ) → slice_index xs 0 ≡ slice_index ys 0 → is_wide_index xs ≡ is_wide_index ys
same_wide xs ys e = ap (λ (u : ℕ). low_byte u == 0x1b) e

pub cut_length : (us : List ℕ) (c : Cut) → IsPieceAt us c → length (cut_units us c) ≡ c.units
cut_length us c is = let f : Fits (drop c.unit us) c.units = piece_size-fits c.unit (drop c.unit us) c.units is in length-take-le c.units (drop c.unit us) f.1

pub cut_first : (us : List ℕ) (c : Cut) → IsPieceAt us c → slice_index (cut_units us c) 0 ≡ slice_index (drop c.unit us) 0
cut_first us c is = let f : Fits (drop c.unit us) c.units = piece_size-fits c.unit (drop c.unit us) c.units is in get_or-take c.units (drop c.unit us) 0 0 f.0

pub cut_pool : (us : List ℕ) (c : Cut) → IsPieceAt us c → index_pool (cut_units us c) ≡ index_pool (drop c.unit us)
cut_pool us c is = same_pool (cut_units us c) (drop c.unit us) (cut_first us c is)

index_by : (t : Bool) (xs ys : List ℕ) → slice_index xs 1 ≡ slice_index ys 1 → (t ≡ true → slice_index xs 2 ≡ slice_index ys 2) → cond t (two_units xs 1) (slice_index xs 1) ≡ cond t (two_units ys 1) (slice_index ys 1)
index_by true xs ys one two = ap (λ (u : ℕ). u + 65536 * slice_index xs 2) one ∙ ap (λ (u : ℕ). slice_index ys 1 + 65536 * u) (two refl)
index_by false xs ys one two = one

cut_index : (us : List ℕ) (c : Cut) (pool : Pool) → IsPieceAt us c → index_pool (drop c.unit us) ≡ Some pool → index_in (cut_units us c) ≡ index_in (drop c.unit us)
cut_index us c pool is named =
    let r : HasRoom (drop c.unit us) c.units = has_room c.unit (drop c.unit us) c.units pool is named in
    ap (λ (t : Bool). cond t (two_units (cut_units us c) 1) (slice_index (cut_units us c) 1)) (same_wide (cut_units us c) (drop c.unit us) (cut_first us c is))
    ∙ index_by (is_wide_index (drop c.unit us)) (cut_units us c) (drop c.unit us)
    (get_or-take c.units (drop c.unit us) 1 0 (omega (arith, r.two))) (λ wide. get_or-take c.units (drop c.unit us) 2 0 (omega (arith, r.three wide)))

-- ---- the places

place_by : (o : Option Pool) (us : List ℕ) (c : Cut) (is : List Index) → map (λ (i : Index). i.unit) (with_index_at o us c is) ≡ with_place o c.unit (map (λ (i : Index). i.unit) is)
place_by None us c is = refl
place_by (Some pool) us c is = refl

places_read : (us : List ℕ) (at : ℕ) (cs : List Cut) → AreCut at (drop at us) cs [] → map (λ (i : Index). i.unit) (indices_at us cs) ≡ index_places at (map (cut_units us) cs)
places_read us at [] cut = refl
places_read us at (c ∷ cs) cut =
    let is : IsPieceAt us c = subst (λ (k : ℕ). piece_size k (drop k us) ≡ Some c.units) (sym cut.0) cut.1 in
    let on : map (λ (i : Index). i.unit) (indices_at us cs) ≡ index_places (at + c.units) (map (cut_units us) cs) = places_read us (at + c.units) cs (subst (λ (xs : List ℕ). AreCut (at + c.units) xs cs []) (drop-drop c.units at us) cut.2) in
    place_by (index_pool (drop c.unit us)) us c (indices_at us cs) ∙ ap (λ (o : Option Pool). with_place o c.unit (map (λ (i : Index). i.unit) (indices_at us cs))) (sym (cut_pool us c is))
    ∙ ap (λ (k : ℕ). with_place (index_pool (cut_units us c)) k (map (λ (i : Index). i.unit) (indices_at us cs))) cut.0
    ∙ ap (with_place (index_pool (cut_units us c)) at) (on ∙ ap (λ (n : ℕ). index_places (at + n) (map (cut_units us) cs)) (sym (cut_length us c is)))

-- what is read can be stored
pub read_stored : (us : List ℕ) (m : Mentions) (is : List Index) → length us < 2 ^ 32 → AreCodeIndices us m is → AreStored us is
read_stored us m is few r =
    let same : cuts_in us ≡ r.cuts = cuts_in_is us r.cuts r.code.cut in
    record {
      few = few;
      cut = subst (λ (cs : List Cut). AreCut 0 us cs []) (sym same) r.code.cut;
      places = ap (map (λ (i : Index). i.unit)) r.read.are ∙ places_read us 0 r.cuts r.code.cut ∙ ap (λ (cs : List Cut). index_places 0 (map (cut_units us) cs)) (sym same);
      fit = r.read.fit;
    }

-- ---- symbols

symbol_pool : (m : Mentions) (pool : Pool) (n : ℕ) → pool_of (symbol_at m (kind_of_pool pool) n) ≡ pool
symbol_pool m StringPool n = refl
symbol_pool m _ n = refl

symbol_row : (b : List ℕ) (m : Mentions) (pool : Pool) (n : ℕ) → ArePools b m → n < count_of (kind_of_pool pool) m → SymbolRow b n (symbol_at m (kind_of_pool pool) n)
symbol_row b m StringPool n h lt = h.texts_are.each n (no_name kinds.Text) (omega (arith, lt, h.texts_are.count))
symbol_row b m TypePool n h lt = h.types_are.each n (no_name kinds.Typ) (omega (arith, lt, h.types_are.count))
symbol_row b m ProtoPool n h lt = h.protos_are.each n (no_name kinds.Proto) (omega (arith, lt, h.protos_are.count))
symbol_row b m FieldPool n h lt = h.fields_are.each n (no_name kinds.Field) (omega (arith, lt, h.fields_are.count))
symbol_row b m MethodPool n h lt = h.methods_are.each n (no_name kinds.Method) (omega (arith, lt, h.methods_are.count))

pub any_default : {X : Type 0} (xs : List X) (n : ℕ) (d e : X) → n < length xs → get_or xs n d ≡ get_or xs n e
any_default [] n d e lt = absurd (omega arith)
any_default (x ∷ xs) zero d e lt = refl
any_default (x ∷ xs) (suc n) d e lt = any_default xs n d e (omega arith)

-- a row is one of those that are counted
row_counted : (b : List ℕ) (m : Mentions) (n : ℕ) (s : Symbol) → ArePools b m → SymbolRow b n s → n < count_of (kind_of_pool (pool_of s)) m
row_counted b m n (TextSymbol s) h r = omega (arith, r.row, h.texts_are.count)
row_counted b m n (TypeSymbol s) h r = omega (arith, r.row, h.types_are.count)
row_counted b m n (ProtoSymbol s) h r = omega (arith, r.row, h.protos_are.count)
row_counted b m n (FieldSymbol s) h r = omega (arith, r.row, h.fields_are.count)
row_counted b m n (MethodSymbol s) h r = omega (arith, r.row, h.methods_are.count)

-- ---- the pieces

-- the symbolic piece of these units
named_by : Option Pool → Mentions → List ℕ → ℕ → Piece
named_by None m xs n = cond (is_payload_ident (slice_index xs 0)) (symbolic.Payload xs) (symbolic.Instruction xs None)
named_by (Some pool) m xs n = symbolic.Instruction (with_index 0 xs) (Some (symbol_at m (kind_of_pool pool) n))

abbrev named : Mentions → List ℕ → Cut → Piece
named m us c = named_by (index_pool (drop c.unit us)) m (cut_units us c) (index_in (drop c.unit us))

plain_encoded : (t : Bool) (Names : ℕ → Symbol → Type 0) (xs : List ℕ) → is_payload_ident (slice_index xs 0) ≡ t → index_pool xs ≡ None → DenotesPiece Names xs (cond t (symbolic.Payload xs) (symbolic.Instruction xs None))
plain_encoded true Names xs e none = (e, refl)
plain_encoded false Names xs e none = (e, none, refl)

piece_encoded : (b : List ℕ) (m : Mentions) (us : List ℕ) (c : Cut) (o : Option Pool) → ArePools b m → IsPieceAt us c → index_pool (drop c.unit us) ≡ o → IsInRange us m c → DenotesPiece (SymbolRow b) (cut_units us c) (named_by o m (cut_units us c) (index_in (drop c.unit us)))
unfolding named_by
piece_encoded b m us c None pools is e range = plain_encoded (is_payload_ident (slice_index (cut_units us c) 0)) (SymbolRow b) (cut_units us c) refl (cut_pool us c is ∙ e)
piece_encoded b m us c (Some pool) pools is e range =
    let small : index_in (drop c.unit us) < count_of (kind_of_pool pool) m = subst (λ (o : Option Pool). MatchOption o (Unit {0}) (λ p. index_in (drop c.unit us) < count_of (kind_of_pool p) m)) e range in (
      cut_pool us c is ∙ e ∙ ap Some (sym (symbol_pool m pool (index_in (drop c.unit us)))),
      subst (λ (k : ℕ). SymbolRow b k (symbol_at m (kind_of_pool pool) (index_in (drop c.unit us)))) (sym (cut_index us c pool is e)) (symbol_row b m pool (index_in (drop c.unit us)) pools small),
      refl,
    )

pieces_encoded : (b : List ℕ) (m : Mentions) (us : List ℕ) (cs : List Cut) → ArePools b m → All (IsPieceAt us) cs → All (IsInRange us m) cs → AllZip (λ c p. DenotesPiece (SymbolRow b) (cut_units us c) p) cs (map (named m us) cs)
pieces_encoded b m us [] pools pieces range = tt
pieces_encoded b m us (c ∷ cs) pools pieces range = (
  piece_encoded b m us c (index_pool (drop c.unit us)) pools (All-head (IsPieceAt us) c cs pieces) refl (All-head (IsInRange us m) c cs range),
  pieces_encoded b m us cs pools (All-tail (IsPieceAt us) c cs pieces) (All-tail (IsInRange us m) c cs range),
)

-- an index that is put in leaves the first unit
first_by : (t : Bool) (xs : List ℕ) (i j k : ℕ) → slice_index (cond t (slice_set (slice_set xs 1 i) 2 j) (slice_set xs 1 k)) 0 ≡ slice_index xs 0
first_by true xs i j k = get_or-set_other (slice_set xs 1 i) 2 0 j 0 (λ e. omega arith) ∙ get_or-set_other xs 1 0 i 0 (λ e. omega arith)
first_by false xs i j k = get_or-set_other xs 1 0 k 0 (λ e. omega arith)

pub first_kept : (i : ℕ) (xs : List ℕ) → slice_index (with_index i xs) 0 ≡ slice_index xs 0
first_kept i xs = first_by (is_wide_index xs) xs (i % 65536) (i / 65536) i

-- the number is that of a symbol, and the piece has this symbol
abbrev Reads : Mentions → NumberedPiece → Piece → Type 0
Reads m p q = IsKnownPiece m p × (piece_in m p ≡ q)

plain_for : (t : Bool) (m : Mentions) (xs : List ℕ) → Reads m (cond t (Payload xs) (Instruction xs None)) (cond t (symbolic.Payload xs) (symbolic.Instruction xs None))
plain_for true m xs = (tt, refl)
plain_for false m xs = (tt, refl)

piece_for : (m : Mentions) (us : List ℕ) (c : Cut) (o : Option Pool) (is : List Index) → IsPieceAt us c → index_pool (drop c.unit us) ≡ o → IsInRange us m c → Reads m (piece_with o (cut_units us c) (with_index_at o us c is)) (named_by o m (cut_units us c) (index_in (drop c.unit us)))
unfolding named_by
piece_for m us c None is piece e range = plain_for (is_payload_ident (slice_index (cut_units us c) 0)) m (cut_units us c)
piece_for m us c (Some pool) is piece e range =
    let small : index_in (drop c.unit us) < count_of (kind_of_pool pool) m = subst (λ (o : Option Pool). MatchOption o (Unit {0}) (λ p. index_in (drop c.unit us) < count_of (kind_of_pool p) m)) e range in
    let xs = with_index 0 (cut_units us c) in
    let at : index_pool xs ≡ Some pool = same_pool xs (cut_units us c) (first_kept 0 (cut_units us c)) ∙ cut_pool us c piece ∙ e in (
      (subst IsSome (sym at) refl, subst (λ o. index_in (drop c.unit us) < count_of (option_map_or kind_of_pool o kinds.Text) m) (sym at) small),
      ap (λ o. symbolic.Instruction xs (Some (symbol_at m (option_map_or kind_of_pool o kinds.Text) (index_in (drop c.unit us))))) at,
    )

left_is : (o : Option Pool) (us : List ℕ) (c : Cut) (is : List Index) → left_by o (with_index_at o us c is) ≡ is
left_is None us c is = refl
left_is (Some pool) us c is = refl

pieces_for : (m : Mentions) (us : List ℕ) (cs : List Cut) → All (IsPieceAt us) cs → All (IsInRange us m) cs → Denote m (pieces_with (map (cut_units us) cs) (indices_at us cs)) (map (named m us) cs)
pieces_for m us [] pieces range = record { known = All-nil (IsKnownPiece m); mean = refl }
pieces_for m us (c ∷ cs) pieces range =
    let piece : IsPieceAt us c = All-head (IsPieceAt us) c cs pieces in
    let same : index_pool (cut_units us c) ≡ index_pool (drop c.unit us) = cut_pool us c piece in
    let is : List Index = with_index_at (index_pool (drop c.unit us)) us c (indices_at us cs) in
    let p : NumberedPiece = piece_with (index_pool (cut_units us c)) (cut_units us c) is in
    let ps : List NumberedPiece = pieces_with (map (cut_units us) cs) (left_by (index_pool (cut_units us c)) is) in
    let first : Reads m p (named m us c) = subst (λ (o : Option Pool). Reads m (piece_with o (cut_units us c) is) (named m us c)) (sym same) (piece_for m us c (index_pool (drop c.unit us)) (indices_at us cs) piece refl (All-head (IsInRange us m) c cs range)) in
    let rest : Denote m ps (map (named m us) cs) = subst (λ (js : List Index). Denote m (pieces_with (map (cut_units us) cs) js) (map (named m us) cs)) (sym (ap (λ (o : Option Pool). left_by o is) same ∙ left_is (index_pool (drop c.unit us)) us c (indices_at us cs)))
    (pieces_for m us cs (All-tail (IsPieceAt us) c cs pieces) (All-tail (IsInRange us m) c cs range)) in
    record { known = All-cons (IsKnownPiece m) p ps first.0 rest.known; mean = λ i. first.1 i ∷ rest.mean i }

-- what is read are the pieces of the code_item
pub read_pieces : (b : List ℕ) (off : ℕ) (m : Mentions) (bytes : List ℕ) (is : List Index) → ArePools b m → AreUnitsAt b off bytes → AreCodeIndices (units_in bytes) m is → ArePiecesAt b off m (pieces_with (parts_in (units_in bytes)) is)
read_pieces b off m bytes is pools at r =
    let us : List ℕ = units_in bytes in
    let pieces : All (IsPieceAt (units_in bytes)) r.cuts = code_pieces (units_in bytes) r.cuts r.code in
    record {
      cuts = r.cuts;
      symbolic = map (named m (units_in bytes)) r.cuts;
      at = record {
        in_data = at.room.in_data;
        aligned = at.room.aligned;
        code = subst (λ (us : List ℕ). IsCode us r.cuts) at.units r.code;
        pieces = subst (λ (vs : List ℕ). AllZip (λ c p. DenotesPiece (SymbolRow b) (cut_units vs c) p) r.cuts (map (named m (units_in bytes)) r.cuts)) at.units (pieces_encoded b m (units_in bytes) r.cuts pools pieces r.read.in_range);
      };
      are_encoded = subst (λ (cs : List Cut). Denote m (pieces_with (map (cut_units (units_in bytes)) cs) is) (map (named m (units_in bytes)) r.cuts)) (sym (cuts_in_is (units_in bytes) r.cuts r.code.cut))
          (subst (λ (js : List Index). Denote m (pieces_with (map (cut_units (units_in bytes)) r.cuts) js) (map (named m (units_in bytes)) r.cuts)) (sym r.read.are) (pieces_for m (units_in bytes) r.cuts pieces r.read.in_range));
    }

-- ---- and where none are read there are none

pub payload_pool : (us : List ℕ) → is_payload_ident (slice_index us 0) ≡ true → index_pool us ≡ None
payload_pool us e = ap (λ (t : Bool). cond t None (option_and_then (λ op. op.index) (opcode_of (low_byte (slice_index us 0))))) e

in_range_by : (us : List ℕ) (m : Mentions) (c : Cut) (o : Option Pool) → index_pool (drop c.unit us) ≡ o → MatchOption o (Unit {0}) (λ pool. index_in (drop c.unit us) < count_of (kind_of_pool pool) m) → IsInRange us m c
in_range_by us m c o e h = subst (λ (p : Option Pool). MatchOption p (Unit {0}) (λ pool. index_in (drop c.unit us) < count_of (kind_of_pool pool) m)) (sym e) h

piece_in_range : (b : List ℕ) (m : Mentions) (us : List ℕ) (c : Cut) (p : Piece) → ArePools b m → IsPieceAt us c → DenotesPiece (SymbolRow b) (cut_units us c) p → IsInRange us m c
piece_in_range b m us c (symbolic.Instruction xs None) pools piece h = in_range_by us m c None (sym (cut_pool us c piece) ∙ h.1) tt
piece_in_range b m us c (symbolic.Instruction xs (Some s)) pools piece h =
    let named : index_pool (drop c.unit us) ≡ Some (pool_of s) = sym (cut_pool us c piece) ∙ h.0 in
    in_range_by us m c (Some (pool_of s)) named
    (subst (λ (n : ℕ). n < count_of (kind_of_pool (pool_of s)) m) (cut_index us c (pool_of s) piece named) (row_counted b m (index_in (cut_units us c)) s pools h.1))
piece_in_range b m us c (symbolic.Payload xs) pools piece h = in_range_by us m c None (sym (cut_pool us c piece) ∙ payload_pool (cut_units us c) h.0) tt

all_in_range : (b : List ℕ) (m : Mentions) (us : List ℕ) (cs : List Cut) (ps : List Piece) → ArePools b m → All (IsPieceAt us) cs → AllZip (λ c p. DenotesPiece (SymbolRow b) (cut_units us c) p) cs ps → All (IsInRange us m) cs
all_in_range b m us [] ps pools pieces h = All-nil (IsInRange us m)
all_in_range b m us (c ∷ cs) [] pools pieces h = absurd h
all_in_range b m us (c ∷ cs) (p ∷ ps) pools pieces h =
    All-cons (IsInRange us m) c cs (piece_in_range b m us c p pools (All-head (IsPieceAt us) c cs pieces) h.0)
    (all_in_range b m us cs ps pools (All-tail (IsPieceAt us) c cs pieces) h.1)

pub none_read : (b : List ℕ) (off : ℕ) (m : Mentions) (bytes : List ℕ) → ArePools b m → AreUnitsAt b off bytes → ((cuts : List Cut) → IsCode (units_in bytes) cuts → All (IsInRange (units_in bytes) m) cuts → ⊥) → (cuts : List Cut) (ps : List Piece) → PiecesAt b off cuts ps → ⊥
none_read b off m bytes pools at none cuts ps h =
    let code : IsCode (units_in bytes) cuts = subst (λ (us : List ℕ). IsCode us cuts) (sym at.units) h.code in
    none cuts code
    (all_in_range b m (units_in bytes) cuts ps pools (code_pieces (units_in bytes) cuts code)
    (subst (λ (us : List ℕ). AllZip (λ c p. DenotesPiece (SymbolRow b) (cut_units us c) p) cuts ps) (sym at.units) h.pieces))

pub few_units : (b : List ℕ) (off : ℕ) (bytes : List ℕ) → AreUnitsAt b off bytes → length (units_in bytes) < 2 ^ 32
few_units b off bytes at = omega (arith, at.few, ap length at.units ∙ length-ushorts_at b (off + 16) (uint_at b (off + 12)))

-- ---- What faults of reading say of the file

-- units are cut in one way
pub one_cut : (us : List ℕ) (cs ds : List Cut) → IsCode us cs → IsCode us ds → cs ≡ ds
one_cut us cs ds x y = whole_once us cs ds x.cut y.cut

pub pieces_fault : (b : List ℕ) (off : ℕ) (m : Mentions) (bytes : List ℕ) (f : ItemFault) → ArePools b m → AreUnitsAt b off bytes → IsCodeFault (units_in bytes) m f → IsPiecesFault b off f
pieces_fault b off m bytes (Refused n) pools at h = (h.0, none_read b off m bytes pools at h.1)
pieces_fault b off m bytes Memory pools at h = tt

-- ---- Where instructions begin, by the bits

-- the bit as an answer
pub bit_says : (words : List ℕ) (k : ℕ) → (has_bit words k ≡ true) ↔ HasBit words k
unfolding HasBit
bit_says words k = (λ e. eqb-true (bit_at (slice_index words (k / 64)) (k % 64)) 1 e, λ has. eq-eqb (bit_at (slice_index words (k / 64)) (k % 64)) 1 has)

bit_from : (n : ℕ) (words : List ℕ) (k i : ℕ) → i < n → get_or (bits_from n words k) i false ≡ has_bit words (k + i)
bit_from zero words k i lt = absurd (omega (arith, lt))
bit_from (suc n) words k zero lt = ap (has_bit words) (omega arith)
bit_from (suc n) words k (suc i) lt = let same : k + 1 + i ≡ k + suc i = omega arith in bit_from n words (k + 1) i (omega (arith, lt)) ∙ ap (has_bit words) same

length_from : (n : ℕ) (words : List ℕ) (k : ℕ) → length (bits_from n words k) ≡ n
length_from zero words k = refl
length_from (suc n) words k = ap suc (length_from n words (k + 1))

-- the answers are those of the bits
pub bit_in : (words : List ℕ) (k : ℕ) → get_or (bits_in words) k false ≡ has_bit words k
unfolding bits_in
bit_in words k = elim (cases_lt k (64 * length words)) [
  | inl within ↦ bit_from (64 * length words) words 0 k within ∙ ap (has_bit words) (zero-add k)
  | inr past ↦
      get_or_past (bits_from (64 * length words) words 0) k false (omega (arith, length_from (64 * length words) words 0, past))
      ∙ sym (false_from_ne_true (has_bit words k) (λ e. no_bit_past words k (omega (arith, past)) ((bit_says words k).0 e)))
]

-- an answer that is right of the place is right of the bits
pub test_in : (words : List ℕ) (k : ℕ) (r : Bool) → (r ≡ true) ↔ HasPlace words (pos k) → r ≡ get_or (bits_in words) k false
test_in words k r says = same_test r (has_bit words k) (λ e. (bit_says words k).1 (says.0 e)) (λ e. says.1 ((bit_says words k).0 e)) ∙ sym (bit_in words k)

-- the starts of the code_item
pub starts_there : (b : List ℕ) (off : ℕ) (bytes words : List ℕ) → AreUnitsAt b off bytes → AreCodeStarts (units_in bytes) words → AreStartsAt b off (bits_in words)
starts_there b off bytes words at s cuts ps k h =
    let bits = (s cuts (subst (λ (us : List ℕ). IsCode us cuts) (sym at.units) h.code)).each k in
    bit_in words k ∙ same_test (has_bit words k) (is_instruction_start (units_in bytes) cuts (pos k)) (λ e. bits.0 ((bit_says words k).0 e)) (λ e. (bit_says words k).1 (bits.1 e))
    ∙ ap (λ (us : List ℕ). is_instruction_start us cuts (pos k)) at.units
