-- Tries and handlers as they are read from a file: types are rows, addresses are those at which instructions begin.
use Rattle.std.specs.Prelude.{◌≡◌, ◌≢◌, ◌⊎◌, ◌%◌, ℕ, ℤ, pos, nat_abs, ◌<ℤ◌, ◌≤ℤ◌, ◌+◌, ◌*◌, ◌^◌, ◌<◌, ◌≤◌, Bool, true}
use Rattle.std.specs.Prelude.{false, List, [], ◌∷◌, length, take, Option, Some, None, slice_index_or}
use Rattle.dexspec.specs.Lists.{Sequence}
use Rattle.dexspec.specs.Bytes.{uint_at, ushort_at}
use Rattle.dexspec.specs.Numbers.{Uleb128At, Sleb128At}
use Rattle.dexspec.specs.Mentions.{Mentions}
use Rattle.dexspec.specs.Pieces.{Cut, Piece}
use Rattle.dexspec.specs.Debug.{Debug, DebugAt}
use Rattle.dexspec.specs.Code.{Code, CodeAt, PiecesAt, most_handlers}
use Rattle.dexspec.specs.Code as whole
use Rattle.dexpool.specs.declared.faults.ItemFault.{ItemFault}
use Rattle.dexpool.specs.declared.faults.ItemFault.TheVariants.{Refused, Memory}
use Rattle.dexcode.specs.declared.handlers.Catch.{Catch}
use Rattle.dexcode.specs.declared.tries.Try.{Try}
use Rattle.dexdebug.specs.Debug.{NumberedDebug}
use Rattle.dexdebug.specs.DebugReading.{IsDebugAt}
use Rattle.dexcode.specs.Numbered.{NumberedHandler, NumberedTry, NumberedItem, handlers_of, handlers_weight, with_debug}
use Rattle.dexcode.specs.Meaning.{DenotesCode}

-- an instruction begins at the address
abbrev pub IsStart : List Bool → ℕ → Type 0
IsStart starts address = slice_index_or starts address false ≡ true

-- the condition of tries is not met, for this reason; a failed allocation says nothing
abbrev pub IsTriesFault : Type 0 → ItemFault → Type 0
IsTriesFault Reason (Refused number) = (number ≡ 19) × Reason
IsTriesFault Reason Memory = Unit {0}

-- where the size of a handler is 0 or less, the address for all else follows
abbrev pub CatchAllAt : List Bool → ℤ → List ℕ → ℕ → Option ℕ → ℕ → Type 0
CatchAllAt starts size b o None n = (pos 0 <ℤ size) × (n ≡ 0)
CatchAllAt starts size b o (Some address) n = (size ≤ℤ pos 0) × Uleb128At b o address n × IsStart starts address

-- tries are in order of their addresses, and do not overlap
abbrev pub AreApart : List NumberedTry → Type 0
AreApart [] = Unit {0}
AreApart (t ∷ []) = Unit {0}
AreApart (t ∷ u ∷ ts) = (t.start_addr + t.insn_count ≤ u.start_addr) × AreApart (u ∷ ts)

module _ (starts : List Bool) (types : ℕ) where
  -- at offset o is an encoded_type_addr_pair
  pub record CatchAt (b : List ℕ) (o : ℕ) (c : Catch) (n : ℕ) : Type 0 where
    pub index_size : ℕ
    pub address_size : ℕ
    pub index_is : Uleb128At b o c.typ index_size
    pub in_range : c.typ < types
    pub address_is : Uleb128At b (o + index_size) c.addr address_size
    pub start : IsStart starts c.addr
    pub size : n ≡ index_size + address_size

  -- `count` catches were read from offset o on, in n bytes
  pub record CatchesRead (b : List ℕ) (o count : ℕ) (cs : List Catch) (n : ℕ) : Type 0 where
    pub are_encoded : Sequence CatchAt b o cs n
    pub many : length cs ≡ count
    pub within : o + n ≤ length b

  -- at offset o is an encoded_catch_handler
  pub record HandlerAt (b : List ℕ) (o : ℕ) (h : NumberedHandler) (n : ℕ) : Type 0 where
    pub count : ℤ
    pub count_size : ℕ
    pub catches_size : ℕ
    pub all_size : ℕ
    pub count_is : Sleb128At b o count count_size
    pub many : nat_abs count ≡ length h.catches
    pub catches_are : Sequence CatchAt b (o + count_size) h.catches catches_size
    pub all : CatchAllAt starts count b (o + count_size + catches_size) h.catch_all_addr all_size
    pub size : n ≡ count_size + catches_size + all_size

  -- handler i of those from an offset on begins `before` bytes after it
  pub record BeginsAt (b : List ℕ) (o : ℕ) (hs : List NumberedHandler) (i before : ℕ) : Type 0 where
    pub within : i < length hs
    pub encodes : Sequence HandlerAt b o (take i hs) before

  -- the handler begins `off` bytes from the start of the list at offset o, which begins with a count
  pub record IsHandler (b : List ℕ) (o count_size : ℕ) (hs : List NumberedHandler) (off : ℕ) (h : NumberedHandler) :
      Type 0 where
    pub index : ℕ
    pub before : ℕ
    pub begins : BeginsAt b (o + count_size) hs index before
    pub place : off ≡ count_size + before
    pub is : (d : NumberedHandler) → slice_index_or hs index d ≡ h

  -- at offset o is a try_item whose handler is in the list
  pub record TryAt (units list count_size : ℕ) (hs : List NumberedHandler) (b : List ℕ) (o : ℕ) (t : NumberedTry)
      (n : ℕ) : Type 0 where
    pub start_is : uint_at b o ≡ t.start_addr
    pub count_is : ushort_at b (o + 4) ≡ t.insn_count
    pub some : 0 < t.insn_count
    pub within : t.start_addr + t.insn_count ≤ units
    pub handler_is : IsHandler b list count_size hs (ushort_at b (o + 6)) t.handler
    pub size : n ≡ 8

  -- numbers are by the bytes of the list at offset o, as far as 16 bits count them: the number of each of its handlers,
  -- which are from another offset on, is where it begins
  pub record AreNumbered (b : List ℕ) (o first : ℕ) (hs : List NumberedHandler) (numbers : List (Option ℕ)) :
      Type 0 where
    pub begins : (k i : ℕ) → slice_index_or numbers k None ≡ Some i
        → (before : ℕ) × BeginsAt b first hs i before × (o + k ≡ first + before)
    pub known : (k i before : ℕ) → k < 2 ^ 16 → BeginsAt b first hs i before → o + k ≡ first + before
        → slice_index_or numbers k None ≡ Some i

  -- `count` handlers were read, in n bytes
  pub record HandlersRead (b : List ℕ) (o first count : ℕ) (hs : List NumberedHandler) (numbers : List (Option ℕ))
      (n : ℕ) : Type 0 where
    pub are_encoded : Sequence HandlerAt b first hs n
    pub many : length hs ≡ count
    pub within : first + n ≤ length b
    pub short : o + length numbers ≤ first + n
    pub numbered : AreNumbered b o first hs numbers

  -- at offset o is a handler list, whose handlers are numbered by its bytes
  pub record IsListAt (b : List ℕ) (o : ℕ) (hs : List NumberedHandler) (numbers : List (Option ℕ)) : Type 0 where
    pub count_size : ℕ
    pub size : ℕ
    pub count_is : Uleb128At b o (length hs) count_size
    pub are_encoded : Sequence HandlerAt b (o + count_size) hs size
    pub numbered : AreNumbered b o (o + count_size) hs numbers

  -- at offset o are `count` try_items, one or more, and after them the handler list
  pub record TryItemsAt (units : ℕ) (b : List ℕ) (o count : ℕ) (tries : List NumberedTry) : Type 0 where
    pub many : length tries ≡ count
    pub handlers : List NumberedHandler
    pub count_size : ℕ
    pub handlers_size : ℕ
    pub list_count : Uleb128At b (o + 8 * count) (length handlers) count_size
    pub list : Sequence HandlerAt b (o + 8 * count + count_size) handlers handlers_size
    pub items : Sequence (TryAt units (o + 8 * count) count_size handlers) b o tries (8 * count)
    pub apart : AreApart tries
    pub few : handlers_weight (handlers_of tries) ≤ most_handlers

-- the number of a handler was put where it begins, if 16 bits count the bytes before it
pub record IsNumberPut (place number : ℕ) (old new : List (Option ℕ)) : Type 0 where
  pub short : length new ≤ place + 1
  pub here : place < 2 ^ 16 → slice_index_or new place None ≡ Some number
  pub far : 2 ^ 16 ≤ place → new ≡ old
  pub others : (k : ℕ) → k ≢ place → slice_index_or new k None ≡ slice_index_or old k None

-- at offset o is a try_item whose handler is the one that begins at its offset in the list
pub record ListedTryAt (units : ℕ) (numbers : List (Option ℕ)) (b : List ℕ) (o : ℕ) (t : Try) (n : ℕ) : Type 0 where
  pub start_is : uint_at b o ≡ t.start_addr
  pub count_is : ushort_at b (o + 4) ≡ t.insn_count
  pub some : 0 < t.insn_count
  pub within : t.start_addr + t.insn_count ≤ units
  pub named : slice_index_or numbers (ushort_at b (o + 6)) None ≡ Some t.handler
  pub size : n ≡ 8

-- tries in order of their addresses that do not overlap, from an address on to another
abbrev pub AreApartFrom : ℕ → List Try → ℕ → Type 0
AreApartFrom from [] to = from ≡ to
AreApartFrom from (t ∷ ts) to = (from ≤ t.start_addr) × AreApartFrom (t.start_addr + t.insn_count) ts to

-- `count` try_items were read
pub record TriesRead (units : ℕ) (numbers : List (Option ℕ)) (b : List ℕ) (o count : ℕ) (ts : List Try) (to : ℕ) :
    Type 0 where
  pub are_encoded : Sequence (ListedTryAt units numbers) b o ts (8 * count)
  pub many : length ts ≡ count
  pub apart : AreApartFrom 0 ts to

-- The tries of the code_item at offset o: none, or those of its list, which comes after a zero ushort if the number of
-- units is odd.
abbrev pub TriesAt : List Bool → ℕ → List ℕ → ℕ → List NumberedTry → Type 0
TriesAt starts types b o ts =
    ((ushort_at b (o + 6) ≡ 0) × (ts ≡ []))
    ⊎ ((ushort_at b (o + 6) ≢ 0)
    × (((uint_at b (o + 12) % 2 ≡ 0)
    × TryItemsAt starts types (uint_at b (o + 12)) b (o + 16 + 2 * uint_at b (o + 12)) (ushort_at b (o + 6)) ts)
    ⊎ ((uint_at b (o + 12) % 2 ≡ 1) × (ushort_at b (o + 16 + 2 * uint_at b (o + 12)) ≡ 0)
    × TryItemsAt starts types (uint_at b (o + 12)) b (o + 18 + 2 * uint_at b (o + 12)) (ushort_at b (o + 6)) ts)))

-- ---- the whole

-- the code is that of the code_item at an offset, where symbols are numbered by their rows
pub record IsCodeAt (b : List ℕ) (off : ℕ) (m : Mentions) (c : NumberedItem) : Type 0 where
  pub symbolic : Code
  pub at : CodeAt b off symbolic
  pub encodes : DenotesCode m c symbolic

-- there are pieces at the offset
pub record HasPieces (b : List ℕ) (off : ℕ) : Type 0 where
  pub cuts : List Cut
  pub pieces : List Piece
  pub at : PiecesAt b off cuts pieces

-- the debug program is the one at an offset; at 0 there is none
abbrev pub IsDebugOrNone : List ℕ → ℕ → Mentions → Option NumberedDebug → Type 0
IsDebugOrNone b off m None = off ≡ 0
IsDebugOrNone b off m (Some d) = (off ≢ 0) × IsDebugAt b off m d

-- the code is that of the code_item at an offset, once it has the debug program at another offset, or none at 0
pub record IsCodeBeside (b : List ℕ) (off : ℕ) (m : Mentions) (c : NumberedItem) (debug_off : ℕ) : Type 0 where
  pub debug_off_is : debug_off ≡ uint_at b (off + 8)
  pub pieces : HasPieces b off
  pub completed : (d : Option NumberedDebug) → IsDebugOrNone b debug_off m d → IsCodeAt b off m (with_debug c d)

-- A condition that fails at the offset: that of pieces; or, if there are pieces, that of tries or that of the debug
-- program. A failed allocation says nothing.
abbrev pub IsCodeFault : List ℕ → ℕ → ItemFault → Type 0
IsCodeFault b off (Refused number) =
    ((number ≡ 18) × (HasPieces b off → ⊥))
    ⊎ (((number ≡ 19) × HasPieces b off
    × ((cuts : List Cut) (ps : List Piece) (tries : List whole.Try) → PiecesAt b off cuts ps
    → whole.TriesAt b off cuts tries → ⊥))
    ⊎ ((number ≡ 20) × HasPieces b off × (uint_at b (off + 8) ≢ 0)
    × ((d : Debug) → DebugAt b (uint_at b (off + 8)) d → ⊥)))
IsCodeFault b off Memory = Unit {0}
