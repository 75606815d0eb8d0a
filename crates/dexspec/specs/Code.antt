-- Code items: registers, pieces, tries, handlers and debug program. Source: "Dalvik Executable format", "code_item",
-- "try_item", "encoded_catch_handler_list", "encoded_catch_handler" and "encoded_type_addr_pair". This project's rules:
-- a try names the start of a handler of the list, every handler of the list is checked, and the distinct handlers that
-- tries name are few.
use Rattle.std.specs.Prelude.{◌≡◌, ◌≢◌, ℕ, ℤ, pos, nat_abs, ◌<ℤ◌, ◌≤ℤ◌, ◌+◌, ◌*◌, ◌%◌, ◌<◌, ◌≤◌, ◌⊎◌, Bool, ◌&&◌, ◌==◌}
use Rattle.std.specs.Prelude.{IsTrue, List, [], ◌∷◌, ◌++◌, length, map, Option, Some, None, sum_by}
use Rattle.std.specs.List.{AllZip}
use Rattle.std.specs.Option.{option_eq}
use Rattle.std.specs.Cmp.Lexicographic.{pointwise}
use Rattle.dexspec.specs.Lists.{Sequence, OrNone, SomeAt, distinct}
use Rattle.dexspec.specs.Bytes.{uint_at, ushort_at, ushorts_at}
use Rattle.dexspec.specs.Numbers.{Uleb128At, Sleb128At}
use Rattle.dexspec.specs.Texts.{Text, same_text}
use Rattle.dexspec.specs.Sections.{IsInData}
use Rattle.dexspec.specs.Rows.{TypeRow, SymbolRow}
use Rattle.dexspec.specs.Pieces.{Cut, IsCode, Piece, DenotesPiece, cut_units, is_instruction_start}
use Rattle.dexspec.specs.Debug.{Debug, DebugAt}

-- a type that is caught, and the address of its handler, in units
pub record Catch : Type 0 where
  pub type : Text
  pub address : ℕ

-- the catches in order, and the catch-all address
pub record Handler : Type 0 where
  pub catches : List Catch
  pub catch_all : Option ℕ

-- the covered units, and their handler
pub record Try : Type 0 where
  pub start : ℕ
  pub count : ℕ
  pub handler : Handler

-- a code_item with symbols instead of indices
pub record Code : Type 0 where
  pub registers : ℕ
  pub ins : ℕ
  pub outs : ℕ
  pub pieces : List Piece
  pub tries : List Try
  pub debug : Option Debug

-- whether two catches are equal
abbrev pub same_catch : Catch → Catch → Bool
same_catch c d = same_text c.type d.type && c.address == d.address

-- whether two handlers are equal: types, addresses and the catch-all address
abbrev pub same_handler : Handler → Handler → Bool
same_handler h k = pointwise same_catch h.catches k.catches && option_eq ◌==◌ h.catch_all k.catch_all

-- the handlers that tries name, each once, in order of first use
abbrev pub handlers_of : List Try → List Handler
handlers_of tries = distinct same_handler (map (λ t. t.handler) tries)

-- an upper bound on the bytes of a list of handlers
abbrev pub handlers_weight : List Handler → ℕ
handlers_weight hs = 5 + sum_by (λ h. 10 + 8 * length h.catches) hs

-- ---- the fixed part and the units

-- the number of try_items of the code_item at an offset
abbrev pub tries_size : List ℕ → ℕ → ℕ
tries_size b o = ushort_at b (o + 6)

-- the number of units of the code_item at an offset
abbrev pub insns_size : List ℕ → ℕ → ℕ
insns_size b o = uint_at b (o + 12)

-- the units of the code_item at an offset
abbrev pub code_units : List ℕ → ℕ → List ℕ
code_units b o = ushorts_at b (o + 16) (insns_size b o)

-- the end of these units
abbrev pub insns_end : List ℕ → ℕ → ℕ
insns_end b o = o + 16 + 2 * insns_size b o

-- the numbers of registers, of ins and of outs of a code_item are at offset o
pub record RegistersAt (b : List ℕ) (o registers ins outs : ℕ) : Type 0 where
  pub registers_size : ushort_at b o ≡ registers
  pub ins_size : ushort_at b (o + 2) ≡ ins
  pub outs_size : ushort_at b (o + 4) ≡ outs

-- the fixed part and the units of a code_item, cut into these pieces, are at offset o of the data
pub record PiecesAt (b : List ℕ) (o : ℕ) (cuts : List Cut) (ps : List Piece) : Type 0 where
  pub in_data : IsInData b o (16 + 2 * insns_size b o)
  pub aligned : o % 4 ≡ 0
  pub code : IsCode (code_units b o) cuts
  pub pieces : AllZip (λ c p. DenotesPiece (SymbolRow b) (cut_units (code_units b o) c) p) cuts ps

-- ---- tries and handlers

-- an instruction of the code begins at this address
abbrev pub IsStart : List ℕ → List Cut → ℕ → Type 0
IsStart us cuts address = IsTrue (is_instruction_start us cuts (pos address))

-- `us` are the units of the code, `cuts` its pieces: the first two arguments of each definition of this module
module _ (us : List ℕ) (cuts : List Cut) where
  -- an encoded_type_addr_pair is at offset o
  pub record CatchAt (b : List ℕ) (o : ℕ) (c : Catch) (n : ℕ) : Type 0 where
    pub index : ℕ
    pub index_size : ℕ
    pub address_size : ℕ
    pub index_is : Uleb128At b o index index_size
    pub type : TypeRow b index c.type
    pub address : Uleb128At b (o + index_size) c.address address_size
    pub start : IsStart us cuts c.address
    pub size : n ≡ index_size + address_size

  -- if the size of a handler is 0 or less, the catch-all address follows
  abbrev pub CatchAllAt : ℤ → List ℕ → ℕ → Option ℕ → ℕ → Type 0
  CatchAllAt size b o None n = (pos 0 <ℤ size) × (n ≡ 0)
  CatchAllAt size b o (Some address) n = (size ≤ℤ pos 0) × Uleb128At b o address n × IsStart us cuts address

  -- an encoded_catch_handler is at offset o
  pub record HandlerAt (b : List ℕ) (o : ℕ) (h : Handler) (n : ℕ) : Type 0 where
    pub count : ℤ
    pub count_size : ℕ
    pub catches_size : ℕ
    pub all_size : ℕ
    pub count_is : Sleb128At b o count count_size
    pub many : nat_abs count ≡ length h.catches
    pub catches : Sequence CatchAt b (o + count_size) h.catches catches_size
    pub all : CatchAllAt count b (o + count_size + catches_size) h.catch_all all_size
    pub size : n ≡ count_size + catches_size + all_size

  -- the handler begins `off` bytes after the start of the list at offset o, which begins with a count
  pub record IsHandler (b : List ℕ) (o count_size : ℕ) (hs : List Handler) (off : ℕ) (h : Handler) : Type 0 where
    pub before : List Handler
    pub after : List Handler
    pub before_size : ℕ
    pub parts : hs ≡ before ++ h ∷ after
    pub encodes : Sequence HandlerAt b (o + count_size) before before_size
    pub place : off ≡ count_size + before_size

  -- a try_item is at offset o: a start address, a count of units that is not 0, and the distance from the offset `list`
  -- to its handler, which is one of the list there, whose count has `count_size` bytes
  pub record TryAt (list count_size : ℕ) (hs : List Handler) (b : List ℕ) (o : ℕ) (t : Try) (n : ℕ) : Type 0 where
    pub start : uint_at b o ≡ t.start
    pub count : ushort_at b (o + 4) ≡ t.count
    pub some : 0 < t.count
    pub within : t.start + t.count ≤ length us
    pub handler : IsHandler b list count_size hs (ushort_at b (o + 6)) t.handler
    pub size : n ≡ 8

-- tries are in order of their addresses, and do not overlap
abbrev pub AreApart : List Try → Type 0
AreApart (t ∷ u ∷ ts) = (t.start + t.count ≤ u.start) × AreApart (u ∷ ts)
AreApart _ = Unit {0}

-- the maximum weight of the distinct handlers of a code_item
abbrev pub most_handlers : ℕ
most_handlers = 65535

-- `count` try_items, at least one, are at offset o, and the handler list is after them
pub record TryItemsAt (us : List ℕ) (cuts : List Cut) (b : List ℕ) (o count : ℕ) (tries : List Try) : Type 0 where
  pub many : length tries ≡ count
  pub handlers : List Handler
  pub count_size : ℕ
  pub handlers_size : ℕ
  pub list_count : Uleb128At b (o + 8 * count) (length handlers) count_size
  pub list : Sequence (HandlerAt us cuts) b (o + 8 * count + count_size) handlers handlers_size
  pub items : Sequence (TryAt us cuts (o + 8 * count) count_size handlers) b o tries (8 * count)
  pub apart : AreApart tries
  pub few : handlers_weight (handlers_of tries) ≤ most_handlers

-- the try_items of the code_item at offset o are after its units; if the number of units is odd, a ushort 0 is between
abbrev pub ListedTriesAt : List ℕ → ℕ → List Cut → List Try → Type 0
ListedTriesAt b o cuts tries =
    ((insns_size b o % 2 ≡ 0) × TryItemsAt (code_units b o) cuts b (insns_end b o) (tries_size b o) tries)
    ⊎ ((insns_size b o % 2 ≡ 1) × (ushort_at b (insns_end b o) ≡ 0)
    × TryItemsAt (code_units b o) cuts b (o + 18 + 2 * insns_size b o) (tries_size b o) tries)

-- the tries of the code_item at offset o, whose units have these cuts: none, or the listed tries
abbrev pub TriesAt : List ℕ → ℕ → List Cut → List Try → Type 0
TriesAt b o cuts tries = ((tries_size b o ≡ 0) × (tries ≡ [])) ⊎ ((tries_size b o ≢ 0) × ListedTriesAt b o cuts tries)

-- ---- the whole

-- a code_item is at offset o of the data
pub record CodeAt (b : List ℕ) (o : ℕ) (c : Code) : Type 0 where
  pub registers : RegistersAt b o c.registers c.ins c.outs
  pub cuts : List Cut
  pub pieces : PiecesAt b o cuts c.pieces
  pub tries : TriesAt b o cuts c.tries
  pub debug : OrNone (SomeAt DebugAt) None b (uint_at b (o + 8)) c.debug
