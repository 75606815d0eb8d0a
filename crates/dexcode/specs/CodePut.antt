-- The bytes of code items whose symbols are numbers, and what these weigh.
use Rattle.std.specs.Prelude.{◌≡◌, ℕ, ℤ, pos, ◌-ℤ◌, ◌+◌, ◌*◌, ◌%◌, ◌^◌, ◌<◌, ◌≤◌, ◌==◌, if◌then◌else◌, List, [], ◌∷◌}
use Rattle.std.specs.Prelude.{◌++◌, length, take, All, slice_index_or, option_to_list, IsOk, Result, vec_capacity}
use Rattle.std.specs.Prelude.{vec_len}
use Rattle.std.specs.List.{flat_map}
use Rattle.std.specs.Option.{option_map_or}
use Rattle.std.specs.Global.{Vec}
use Rattle.dexspec.specs.Bytes.{ushort, uint}
use Rattle.dexspec.specs.Numbers.{uleb128, sleb128}
use Rattle.dexspec.specs.Code.{most_handlers}
use Rattle.dexspec.specs.Code as symbolic
use Rattle.dexspec.specs.Mentions.{Mentions}
use Rattle.dexspec.specs.Spellings.{code_bytes}
use Rattle.dexspec.specs.Weight.{code_weight}
use Rattle.dexspec.specs.internal.Writing.{Puts}
use Rattle.dexinsn.specs.Numbered.{NumberedCode, numbered_units, numbered_bytes}
use Rattle.dexcode.specs.declared.handlers.Catch.{Catch}
use Rattle.dexcode.specs.declared.tries.Try.{Try}
use Rattle.dexcode.specs.Numbered.{NumberedHandler, NumberedTry, NumberedItem, same_handler, handlers_of}
use Rattle.dexcode.specs.Numbered.{handlers_weight}
use Rattle.dexcode.specs.Meaning.{DenotesCode}
use Rattle.dexpool.specs.Numberings.{AreRising}

-- an encoded_type_addr_pair
abbrev pub numbered_catch_bytes : Catch → List ℕ
numbered_catch_bytes c = uleb128 c.typ ++ uleb128 c.addr

-- the number of catches, 0 or less where there is an address for all else
abbrev pub handler_count : NumberedHandler → ℤ
handler_count h = option_map_or (λ address. pos 0 -ℤ pos (length h.catches)) h.catch_all_addr (pos (length h.catches))

-- an encoded_catch_handler
abbrev pub numbered_handler_bytes : NumberedHandler → List ℕ
numbered_handler_bytes h =
    sleb128 (handler_count h)
    ++ (flat_map numbered_catch_bytes h.catches ++ flat_map uleb128 (option_to_list h.catch_all_addr))

-- where the handler begins, of handlers of which the first begins at a place
abbrev pub numbered_handler_off : ℕ → List NumberedHandler → NumberedHandler → ℕ
numbered_handler_off from [] h = from
numbered_handler_off from (k ∷ ks) h =
    if same_handler k h then from else numbered_handler_off (from + length (numbered_handler_bytes k)) ks h

-- a try_item
abbrev pub numbered_try_bytes : List NumberedHandler → NumberedTry → List ℕ
numbered_try_bytes hs t =
    uint t.start_addr
    ++ (ushort t.insn_count ++ ushort (numbered_handler_off (length (uleb128 (length hs))) hs t.handler))

-- an encoded_catch_handler_list
abbrev pub numbered_list_bytes : List NumberedHandler → List ℕ
numbered_list_bytes hs = uleb128 (length hs) ++ flat_map numbered_handler_bytes hs

-- the tries, and the handlers that they name
abbrev pub numbered_table_bytes : List NumberedHandler → List NumberedTry → List ℕ
numbered_table_bytes hs ts = flat_map (numbered_try_bytes hs) ts ++ numbered_list_bytes hs

-- a zero ushort where the number of units is odd
abbrev pub gap_bytes : ℕ → List ℕ
gap_bytes count = if count % 2 == 1 then ushort 0 else []

-- after `count` units: the padding, the tries, and the handlers that they name
abbrev pub numbered_tries_bytes : ℕ → List NumberedTry → List ℕ
numbered_tries_bytes count [] = []
numbered_tries_bytes count (t ∷ ts) = gap_bytes count ++ numbered_table_bytes (handlers_of (t ∷ ts)) (t ∷ ts)

-- the numbers before the units, whose count is `units`
abbrev pub numbered_head_bytes : ℕ → ℕ → NumberedCode → ℕ → List ℕ
numbered_head_bytes debug_off tries c units =
    ushort c.registers ++ (ushort c.ins ++ (ushort c.outs ++ (ushort tries ++ (uint debug_off ++ uint units))))

-- how many units there are
abbrev pub unit_count : NumberedCode → ℕ
unit_count c = length (flat_map numbered_units c.pieces)

-- a code_item of this code and these tries, whose debug program has this offset
unfoldable pub numbered_item_bytes : ℕ → NumberedCode → List NumberedTry → List ℕ
numbered_item_bytes debug_off c tries =
    numbered_head_bytes debug_off (length tries) c (unit_count c)
    ++ (numbered_bytes c.pieces ++ numbered_tries_bytes (unit_count c) tries)

-- a code_item whose debug program has this offset, its numbers put in
abbrev pub numbered_code_bytes : ℕ → NumberedItem → List ℕ
numbered_code_bytes debug_off c = numbered_item_bytes debug_off c.body c.tries

-- ---- weight

-- code without tries has no handler list
abbrev pub numbered_tries_weight : List NumberedTry → ℕ
numbered_tries_weight [] = 0
numbered_tries_weight (t ∷ ts) = 8 * length (t ∷ ts) + handlers_weight (handlers_of (t ∷ ts))

-- a code_item without its debug program
abbrev pub numbered_code_weight : NumberedItem → ℕ
numbered_code_weight c = 24 + 2 * unit_count c.body + numbered_tries_weight c.tries

-- ---- as they are stored

-- the number of each type that is caught has 16 bits
abbrev pub HasShortTypes : NumberedHandler → Type 0
HasShortTypes h = All (λ c. c.typ < 2 ^ 16) h.catches

-- handlers that weigh no more than they may, and the number of each type that is caught has 16 bits
pub record AreShort (hs : List NumberedHandler) : Type 0 where
  pub light : handlers_weight hs ≤ most_handlers
  pub typed : All HasShortTypes hs

-- where handler i begins, from the start of the list
abbrev pub place_of : List NumberedHandler → ℕ → ℕ
place_of hs i = length (uleb128 (length hs)) + length (flat_map numbered_handler_bytes (take i hs))

-- the places are those where handlers begin
pub record ArePlaces (hs : List NumberedHandler) (places : List ℕ) : Type 0 where
  pub enough : length hs ≤ length places
  pub each : (i : ℕ) → i < length hs → slice_index_or places i 0 ≡ place_of hs i

-- a try_item whose handler begins at one of the places
abbrev pub placed_try_bytes : List ℕ → Try → List ℕ
placed_try_bytes places t = uint t.start_addr ++ (ushort t.insn_count ++ ushort (slice_index_or places t.handler 0))

-- ---- the code that numbers denote

-- the length is that of the code_item of each code that the numbers denote, under a numbering whose symbols rise
abbrev pub IsCodeLen : NumberedItem → ℕ → Type 0
IsCodeLen c len =
    (m : Mentions) (debug_off : ℕ) (x : symbolic.Code) → AreRising m → DenotesCode m c x
    → len ≡ length (code_bytes m debug_off x)

-- what is put is the code_item of the code that the numbers denote
abbrev pub PutsDenotedCode : {T E : Type 0} → Mentions → ℕ → NumberedItem → Vec ℕ → Vec ℕ → Result T E → Type 0
PutsDenotedCode m debug_off c old new r =
    (x : symbolic.Code) → DenotesCode m c x → Puts (code_bytes m debug_off x) old new r

-- the code that the numbers denote weighs at least 3 more than the bytes
abbrev pub DenotedWeighsMore : Mentions → ℕ → NumberedItem → Type 0
DenotedWeighsMore m debug_off c =
    (x : symbolic.Code) → DenotesCode m c x → length (numbered_code_bytes debug_off c) + 3 ≤ code_weight x

-- the call succeeds if the spare capacity is the weight of the code that the numbers denote, less 3
abbrev pub IsOkWithRoomForDenoted : {T E : Type 0} → Mentions → NumberedItem → Vec ℕ → Result T E → Type 0
IsOkWithRoomForDenoted m c old r =
    (x : symbolic.Code) → DenotesCode m c x → vec_len old + code_weight x ≤ vec_capacity old + 3 → IsOk r
