-- Remapped numbers fit their places.
use Rattle.dexinsn.proofs.Common.{if◌then◌else◌, ◌≡◌, ℕ, ◌+◌, ◌^◌, ◌<◌, ◌≤◌, max, nat_lt, ◌==◌, Bool, true, false, not, ◌&&◌, ◌||◌, cond, replicate, List, [], ◌∷◌, ◌++◌, length, take, drop, map, get_or, slice_index, Option, Some, None, inl, inr, refl, ap, sym, ◌∙◌, subst, arith, zero-add, All, Contains, flat_map, range_with_len, IsSome, option_and_then, option_map_or, ltb-true, ltb-false, eqb-true, and_parts, take_more, append-nil, get_or-replicate, get_or-map-range_with_len, flat_map-append, All-nil, All-cons, All-head, All-tail, All-push, All-weaker, All-get_or, Contains-append_left, Contains-append_right, Pool, StringPool, TypePool, ProtoPool, FieldPool, MethodPool, TextSymbol, Mentions, Opcode, opcode_of, opcode_runs, Piece, index_pool, is_wide_index, is_payload_ident, low_byte, with_index, Text, SymbolKind, IsAt, Maps, image, image_of, AllMapTo, IsMappedUse, Contains-nil, Contains-cons_cases, Contains-first, Index, is_text, is_short_string, short_number, short_string, short_strings, HasConstString, IsGreatest, short_at, ImagesFit, IsNotTooLarge, MapsShort, NumberedPiece, Instruction, Denote, IsKnownPiece, piece_in, kind_in, kind_of_pool, piece_uses, uses_of, FitsPlace, FitPlaces, HasImage, parts_in, piece_with, left_by, pieces_with, AreStored, FitsAt, Payload}
use Rattle.dexspec.specs.Pieces as symbolic
use Rattle.dexspec.specs.Mentions.{piece_symbols}
use Rattle.dexpool.specs.declared.symbols.SymbolKind.TheVariants as kinds
use Rattle.std.proofs.lemmas.List.Elements.{All-append, All-contains, Contains-get_or}
use Rattle.dexspec.proofs.lists.Mapped.{Contains-map_source}
use Rattle.dexspec.proofs.lists.Members.{Contains-flat_map, Contains-flat_map_source}
use Rattle.dexspec.proofs.merge.Depths.{Contains-map}
use Rattle.dexpool.specs.NumberedSymbols.{text_at, symbol_at}
use Rattle.dexpool.specs.Orderly.{KeepOrder, MapsDown}
use Rattle.dexpool.specs.Pools.{count_of}
use Rattle.dexpool.proofs.Parts.{all_parts}
use Rattle.dexpool.proofs.Numbers.{member_at, some_of}
use Rattle.dexinsn.specs.{HasPlace}
use Rattle.dexinsn.proofs.Lined.{Heads, Lined, LinedBy, stored_lined, head_kind, head_room, head_wide}

-- ---- images, piece by piece and use by use

image_of_use : (r : Maps) (p : NumberedPiece) → All (IsMappedUse r) (piece_uses p) → HasImage r p
image_of_use r (Instruction us (Some n)) h = All-head (IsMappedUse r) (record { kind = kind_in us; number = n }) [] h
image_of_use r _ h = tt

use_of_image : (r : Maps) (p : NumberedPiece) → HasImage r p → All (IsMappedUse r) (piece_uses p)
use_of_image r (Instruction us (Some n)) h = All-cons (IsMappedUse r) (record { kind = kind_in us; number = n }) [] h (All-nil (IsMappedUse r))
use_of_image r _ h = All-nil (IsMappedUse r)

pub images_of_uses : (r : Maps) (ps : List NumberedPiece) → All (IsMappedUse r) (uses_of ps) → All (HasImage r) ps
images_of_uses r ps h = All-weaker (λ p. All (IsMappedUse r) (piece_uses p)) (HasImage r) (image_of_use r) ps (all_parts (IsMappedUse r) piece_uses ps h)

pub uses_of_images : (r : Maps) (ps : List NumberedPiece) → All (HasImage r) ps → All (IsMappedUse r) (uses_of ps)
uses_of_images r [] h = All-nil (IsMappedUse r)
uses_of_images r (p ∷ ps) h = All-append (IsMappedUse r) (piece_uses p) (uses_of ps) (use_of_image r p (All-head (HasImage r) p ps h)) (uses_of_images r ps (All-tail (HasImage r) p ps h))

-- ---- after a cut

cut_place : (r : Maps) (p : NumberedPiece) → MapsDown r → FitsPlace p → HasImage r p → HasPlace r p
cut_place r (Instruction us (Some n)) down fits image =
    let at = some_of (image_of r (kind_in us) n) image in
    let le : at.0 ≤ n = down (kind_in us) n at.0 at.1 in (at.0, at.1, omega (arith, le, fits))
cut_place r _ down fits image = tt

pub places_after_cut : (r : Maps) (ps : List NumberedPiece) → MapsDown r → FitPlaces ps → All (IsMappedUse r) (uses_of ps) → All (HasPlace r) ps
places_after_cut r ps down fit uses k d lt = cut_place r (get_or ps k d) down (fit k d lt) (images_of_uses r ps uses k d lt)

-- ---- after a join

pub images_after_join : (m n : Mentions) (r : Maps) → AllMapTo m n r → IsNotTooLarge n → ImagesFit r
images_after_join m n r l few = record {
  texts_fit = λ i j e. omega (arith, (l.texts_mapped.same i j [] e).within, few.texts_few);
  types_fit = λ i j e. omega (arith, (l.types_mapped.same i j [] e).within, few.types_few);
  protos_fit = λ i j e. omega (arith, (l.protos_mapped.same i j (record { return_type = []; parameters = [] }) e).within, few.protos_few);
  fields_fit = λ i j e. omega (arith, (l.fields_mapped.same i j (record { class = []; name = []; type = [] }) e).within, few.fields_few);
  methods_fit = λ i j e. omega (arith, (l.methods_mapped.same i j (record { class = []; name = []; proto = record { return_type = []; parameters = [] } }) e).within, few.methods_few);
}

-- every image has 32 bits, and those that are not of texts have 16
wide_image : (r : Maps) (k : SymbolKind) (i j : ℕ) → ImagesFit r → image_of r k i ≡ Some j → j < 2 ^ 32
wide_image r kinds.Text i j fit e = omega (arith, fit.texts_fit i j e)
wide_image r kinds.Typ i j fit e = omega (arith, fit.types_fit i j e)
wide_image r kinds.Proto i j fit e = omega (arith, fit.protos_fit i j e)
wide_image r kinds.Field i j fit e = omega (arith, fit.fields_fit i j e)
wide_image r kinds.Method i j fit e = omega (arith, fit.methods_fit i j e)

-- no number of a short string has an image beyond 16 bits
abbrev pub ShortMapped : Maps → List ℕ → Type 0
ShortMapped r ns = (i j : ℕ) → Contains ns i → image r.texts i ≡ Some j → j < 2 ^ 16

image_by : (r : Maps) (w : Bool) (k : SymbolKind) (i j : ℕ) → ImagesFit r → ((is_text k && not w) ≡ true → image_of r k i ≡ Some j → j < 2 ^ 16) → image_of r k i ≡ Some j → j < cond w (2 ^ 32) (2 ^ 16)
image_by r true k i j fit short e = wide_image r k i j fit e
image_by r false kinds.Text i j fit short e = short refl e
image_by r false kinds.Typ i j fit short e = fit.types_fit i j e
image_by r false kinds.Proto i j fit short e = fit.protos_fit i j e
image_by r false kinds.Field i j fit short e = fit.fields_fit i j e
image_by r false kinds.Method i j fit short e = fit.methods_fit i j e

text_image : (r : Maps) (k : SymbolKind) (w : Bool) (i j : ℕ) → (is_text k && not w) ≡ true → image_of r k i ≡ Some j → image r.texts i ≡ Some j
text_image r kinds.Text w i j is e = e
text_image r _ w i j is e = absurd cc

short_here : (b : Bool) (n : ℕ) → b ≡ true → Contains (if b then n ∷ [] else []) n
short_here true n is = Contains-first n []
short_here false n is = absurd cc

joined_place : (r : Maps) (p : NumberedPiece) → ImagesFit r → ShortMapped r (short_string p) → HasImage r p → HasPlace r p
joined_place r (Instruction us (Some n)) fit short has =
    let at = some_of (image_of r (kind_in us) n) has in
    (at.0, at.1, image_by r (is_wide_index us) (kind_in us) n at.0 fit (λ is f. short n at.0 (short_here (is_short_string us) n is) (text_image r (kind_in us) (is_wide_index us) n at.0 is f)) at.1)
joined_place r _ fit short has = tt

-- the number of a short string has an image if each symbol has one
text_remapped : (r : Maps) (k : SymbolKind) (w : Bool) (i : ℕ) → (is_text k && not w) ≡ true → IsSome (image_of r k i) → IsSome (image r.texts i)
text_remapped r kinds.Text w i is some = some
text_remapped r _ w i is some = absurd cc

short_is : (b : Bool) (n k : ℕ) → Contains (if b then n ∷ [] else []) k → (b ≡ true) × (n ≡ k)
short_is true n k c = elim (Contains-cons_cases n k [] c) [
  | inl e ↦ (refl, e)
  | inr l ↦ absurd (Contains-nil k l)
]
short_is false n k c = absurd (Contains-nil k c)

short_remapped : (r : Maps) (p : NumberedPiece) (i : ℕ) → HasImage r p → Contains (short_string p) i → IsSome (image r.texts i)
short_remapped r (Instruction us (Some n)) i has c = let s = short_is (is_short_string us) n i c in subst (λ k. IsSome (image r.texts k)) s.1 (text_remapped r (kind_in us) (is_wide_index us) n s.0 has)
short_remapped r _ i has c = absurd (Contains-nil i c)

pub shorts_remapped : (r : Maps) (ps : List NumberedPiece) (i : ℕ) → All (HasImage r) ps → Contains (short_strings ps) i → IsSome (image r.texts i)
shorts_remapped r ps i all c = let at = Contains-flat_map_source short_string ps i c in short_remapped r at.0 i (All-contains (HasImage r) ps at.0 all at.1) at.2

-- of two numbers of texts the lesser has the lesser image
lesser_by : (r : Maps) (i g j k : ℕ) (b : Bool) → nat_lt i g ≡ b → KeepOrder r → image r.texts g ≡ Some k → k < 2 ^ 16 → i ≤ g → image r.texts i ≡ Some j → j < 2 ^ 16
lesser_by r i g j k true test order e lt le f = let less : j < k = order.texts_keep i g j k (ltb-true i g test) f e in omega (arith, less, lt)
lesser_by r i g j k false test order e lt le f = let same : i ≡ g = omega (arith, ltb-false i g test, le) in let one : Some j ≡ Some k = sym f ∙ ap (image r.texts) same ∙ e in let is : j ≡ k = cc in omega (arith, is, lt)

lesser_image : (r : Maps) (i g j : ℕ) (o : Option ℕ) → KeepOrder r → image r.texts g ≡ o → IsSome o → MapsShort r (Some g) → i ≤ g → image r.texts i ≡ Some j → j < 2 ^ 16
lesser_image r i g j None order e some short le f = absurd cc
lesser_image r i g j (Some k) order e some short le f = lesser_by r i g j k (nat_lt i g) refl order e (short k e) le f

pub short_mapped : (r : Maps) (ns : List ℕ) (greatest : Option ℕ) → KeepOrder r → IsGreatest ns greatest → MapsShort r greatest → ((i : ℕ) → Contains ns i → IsSome (image r.texts i)) → ShortMapped r ns
short_mapped r ns None order is short remapped i j c e = absurd (Contains-nil i (subst (λ ks. Contains ks i) is c))
short_mapped r ns (Some g) order is short remapped i j c e = lesser_image r i g j (image r.texts g) order refl (remapped g is.0) short (subst (λ k. k ≤ g) c.2 (All-get_or (λ k. k ≤ g) ns c.0 i c.1 is.1)) e

pub places_after_join : (r : Maps) (ps : List NumberedPiece) (greatest : Option ℕ) → KeepOrder r → ImagesFit r → IsGreatest (short_strings ps) greatest → MapsShort r greatest → All (IsMappedUse r) (uses_of ps) → All (HasPlace r) ps
places_after_join r ps greatest order fit is short uses k d lt =
    let images : All (HasImage r) ps = images_of_uses r ps uses in
    let mapped : ShortMapped r (short_strings ps) = short_mapped r (short_strings ps) greatest order is short (λ i c. shorts_remapped r ps i images c) in
    joined_place r (get_or ps k d) fit (λ i j c e. mapped i j (Contains-flat_map short_string ps (get_or ps k d) i (Contains-get_or ps k d lt) c) e) (images k d lt)

-- ---- numbers as they are stored

plain_fits : (t : Bool) (xs : List ℕ) → FitsPlace (cond t (Payload xs) (Instruction xs None))
plain_fits true xs = tt
plain_fits false xs = tt

fits_by : (o : Option Pool) (us xs : List ℕ) (parts : List (List ℕ)) (is : List Index) → ((js : List Index) → Lined us parts js → All (FitsAt us) js → FitPlaces (pieces_with parts js)) → LinedBy o us xs (Lined us parts) is
    → All (FitsAt us) is → FitPlaces (piece_with o xs is ∷ pieces_with parts (left_by o is))
fits_by None us xs parts is on h all = All-cons FitsPlace (piece_with None xs is) (pieces_with parts is) (plain_fits (is_payload_ident (slice_index xs 0)) xs) (on is h all)
fits_by (Some pool) us xs parts [] on h all = absurd h
fits_by (Some pool) us xs parts (i ∷ is) on h all =
    All-cons FitsPlace (piece_with (Some pool) xs (i ∷ is)) (pieces_with parts is) (subst (λ (n : ℕ). i.number < n) (sym (head_room us xs i h.0)) (All-head (FitsAt us) i is all)) (on is h.1 (All-tail (FitsAt us) i is all))

fits_lined : (us : List ℕ) (parts : List (List ℕ)) (is : List Index) → Lined us parts is → All (FitsAt us) is → FitPlaces (pieces_with parts is)
fits_lined us [] is h all = All-nil FitsPlace
fits_lined us (xs ∷ parts) is h all = fits_by (index_pool xs) us xs parts is (fits_lined us parts) h all

pub stored_fit : (us : List ℕ) (is : List Index) → AreStored us is → FitPlaces (pieces_with (parts_in us) is)
stored_fit us is s = fits_lined us (parts_in us) is (stored_lined us is s) s.fit

head_short : (us xs : List ℕ) (i : Index) → Heads us xs i → short_number (with_index 0 xs) i.number ≡ short_at us i
head_short us xs i h =
    ap (λ k. if is_text k && not (is_wide_index (with_index 0 xs)) then i.number ∷ [] else []) (head_kind us xs i h)
    ∙ ap (λ w. if is_text (kind_in (drop i.unit us)) && not w then i.number ∷ [] else []) (head_wide us xs i h)

plain_short : (t : Bool) (xs : List ℕ) → short_string (cond t (Payload xs) (Instruction xs None)) ≡ []
plain_short true xs = refl
plain_short false xs = refl

shorts_by : (o : Option Pool) (us xs : List ℕ) (parts : List (List ℕ)) (is : List Index) → ((js : List Index) → Lined us parts js → short_strings (pieces_with parts js) ≡ flat_map (short_at us) js) → LinedBy o us xs (Lined us parts) is
    → short_string (piece_with o xs is) ++ short_strings (pieces_with parts (left_by o is)) ≡ flat_map (short_at us) is
shorts_by None us xs parts is on h = ap (λ (ns : List ℕ). ns ++ short_strings (pieces_with parts is)) (plain_short (is_payload_ident (slice_index xs 0)) xs) ∙ on is h
shorts_by (Some pool) us xs parts [] on h = absurd h
shorts_by (Some pool) us xs parts (i ∷ is) on h = ap (λ (ns : List ℕ). ns ++ short_strings (pieces_with parts is)) (head_short us xs i h.0) ∙ ap (λ (ns : List ℕ). short_at us i ++ ns) (on is h.1)

shorts_lined : (us : List ℕ) (parts : List (List ℕ)) (is : List Index) → Lined us parts is → short_strings (pieces_with parts is) ≡ flat_map (short_at us) is
shorts_lined us [] is h = ap (flat_map (short_at us)) (sym h)
shorts_lined us (xs ∷ parts) is h = shorts_by (index_pool xs) us xs parts is (shorts_lined us parts) h

pub stored_shorts : (us : List ℕ) (is : List Index) → AreStored us is → short_strings (pieces_with (parts_in us) is) ≡ flat_map (short_at us) is
stored_shorts us is s = shorts_lined us (parts_in us) is (stored_lined us is s)

-- ---- the greatest, one number after the other

-- one more, which is greater or is not
greater_by : (ns : List ℕ) (g n m : ℕ) (b : Bool) → nat_lt g n ≡ b → max g n ≡ m → IsGreatest ns (Some g) → IsGreatest (ns ++ n ∷ []) (Some m)
greater_by ns g n m true test e is =
    let less : g < n = ltb-true g n test in
    let same : n ≡ m = omega (arith, e, less) in (
      Contains-append_right ns (n ∷ []) m (subst (Contains (n ∷ [])) same (Contains-first n [])),
      All-push (λ k. k ≤ m) ns n (All-weaker (λ k. k ≤ g) (λ k. k ≤ m) (λ k h. omega (arith, h, less, same)) ns is.1) (omega (arith, same)),
    )
greater_by ns g n m false test e is =
    let le : n ≤ g = ltb-false g n test in
    let same : g ≡ m = omega (arith, e, le) in (Contains-append_left ns (n ∷ []) m (subst (Contains ns) same is.0), All-push (λ k. k ≤ m) ns n (All-weaker (λ k. k ≤ g) (λ k. k ≤ m) (λ k h. omega (arith, h, same)) ns is.1) (omega (arith, le, same)))

pub greater_most : (ns : List ℕ) (g n : ℕ) → IsGreatest ns (Some g) → IsGreatest (ns ++ n ∷ []) (Some (max g n))
greater_most ns g n is = greater_by ns g n (max g n) (nat_lt g n) refl refl is

-- the indices up to one more
pub shorts_more : (us : List ℕ) (is : List Index) (i : ℕ) (d : Index) → i < length is → flat_map (short_at us) (take (i + 1) is) ≡ flat_map (short_at us) (take i is) ++ short_at us (get_or is i d)
shorts_more us is i d lt =
    ap (flat_map (short_at us)) (take_more is i d lt) ∙ flat_map-append (short_at us) (take i is) (get_or is i d ∷ []) ∙ ap (λ ns. flat_map (short_at us) (take i is) ++ ns) (append-nil (short_at us (get_or is i d)))

short_by : (b : Bool) (n : ℕ) → b ≡ true → (if b then n ∷ [] else []) ≡ n ∷ []
short_by true n e = refl
short_by false n e = absurd cc

none_by : (b : Bool) (n : ℕ) → b ≡ false → (if b then n ∷ [] else []) ≡ []
none_by true n e = absurd cc
none_by false n e = refl

module _ (us : List ℕ) (is : List Index) (i : ℕ) (d : Index) (lt : i < length is) where
  pub greatest_with : (g : Option ℕ) → is_short_string (drop (get_or is i d).unit us) ≡ true → IsGreatest (flat_map (short_at us) (take i is) ++ (get_or is i d).number ∷ []) g → IsGreatest (flat_map (short_at us) (take (i + 1) is)) g
  greatest_with g short h = subst (λ ns. IsGreatest ns g) (sym (shorts_more us is i d lt ∙ ap (λ ns. flat_map (short_at us) (take i is) ++ ns) (short_by (is_short_string (drop (get_or is i d).unit us)) (get_or is i d).number short))) h

  pub greatest_without : (g : Option ℕ) → is_short_string (drop (get_or is i d).unit us) ≡ false → IsGreatest (flat_map (short_at us) (take i is)) g → IsGreatest (flat_map (short_at us) (take (i + 1) is)) g
  greatest_without g long h =
      subst (λ ns. IsGreatest ns g) (sym (shorts_more us is i d lt ∙ ap (λ ns. flat_map (short_at us) (take i is) ++ ns) (none_by (is_short_string (drop (get_or is i d).unit us)) (get_or is i d).number long) ∙ append-nil (flat_map (short_at us) (take i is)))) h

-- the same, with the code's own names for the units and for the indices
pub greatest_for : (us vs : List ℕ) (is js : List Index) (g : Option ℕ) → AreStored us is → vs ≡ us → js ≡ is → IsGreatest (flat_map (short_at vs) js) g → IsGreatest (short_strings (pieces_with (parts_in us) is)) g
greatest_for us vs is js g s same_us same_is h = subst (λ ns. IsGreatest ns g) (ap (λ (ws : List ℕ). flat_map (short_at ws) js) same_us ∙ ap (flat_map (short_at us)) same_is ∙ sym (stored_shorts us is s)) h

-- ---- short strings by their opcode

-- of the opcodes with the index of a text there are two
names_text : Option Pool → ℕ → Bool
names_text (Some StringPool) op = op == 0x1a || op == 0x1b
names_text _ op = true

abbrev is_string_op : ℕ → Bool
is_string_op op = names_text (option_and_then (λ (o : Opcode). o.index) (opcode_of op)) op

string_ops : map is_string_op (range_with_len 0 256) ≡ replicate 256 true
unfolding opcode_of opcode_runs names_text
string_ops = refl

string_op : (op : ℕ) → op < 256 → is_string_op op ≡ true
string_op op small = sym (get_or-map-range_with_len is_string_op 0 256 op op false small (zero-add op)) ∙ ap (λ bs. get_or bs op false) string_ops ∙ get_or-replicate 256 op true false small

either_op : (a b : Bool) (op : ℕ) → (op == 0x1a) ≡ a → b ≡ false → (a || b) ≡ true → op ≡ 0x1a
either_op true b op is narrow h = eqb-true op 0x1a is
either_op false b op is narrow h = absurd cc

const_of : (op : ℕ) → names_text (Some StringPool) op ≡ true → (op == 0x1b) ≡ false → op ≡ 0x1a
unfolding names_text
const_of op h wide = either_op (op == 0x1a) (op == 0x1b) op refl wide h

const_by : (o : Option Pool) (op : ℕ) → o ≡ Some StringPool → names_text o op ≡ true → (op == 0x1b) ≡ false → op ≡ 0x1a
const_by None op e h wide = absurd cc
const_by (Some pool) op e h wide = const_of op (subst (λ o. names_text o op ≡ true) e h) wide

pool_under : (t : Bool) (o : Option Pool) → cond t None o ≡ Some StringPool → o ≡ Some StringPool
pool_under true o e = absurd cc
pool_under false o e = e

-- the index of a text that has 16 bits is that of a const-string
const_string : (us : List ℕ) → index_pool us ≡ Some StringPool → is_wide_index us ≡ false → low_byte (slice_index us 0) ≡ 0x1a
const_string us pool narrow =
    let named = pool_under (is_payload_ident (slice_index us 0)) (option_and_then (λ (o : Opcode). o.index) (opcode_of (low_byte (slice_index us 0)))) pool in
    const_by (option_and_then (λ (o : Opcode). o.index) (opcode_of (low_byte (slice_index us 0)))) (low_byte (slice_index us 0)) named (string_op (low_byte (slice_index us 0)) (omega arith)) narrow

text_const : (us : List ℕ) → index_pool us ≡ Some StringPool → kind_in us ≡ kinds.Text
text_const us e = ap (λ (o : Option Pool). option_map_or kind_of_pool o kinds.Text) e

short_const : (us : List ℕ) → index_pool us ≡ Some StringPool → low_byte (slice_index us 0) ≡ 0x1a → is_short_string us ≡ true
short_const us pool op = ap (λ k. is_text k && not (is_wide_index us)) (text_const us pool) ∙ ap not (ap (λ (n : ℕ). n == 0x1b) op)

-- ---- what short strings denote

-- a number whose symbol is a text is that of the text
text_named : (m : Mentions) (o : Option Pool) (n : ℕ) (s : Text) → IsSome o → n < count_of (option_map_or kind_of_pool o kinds.Text) m → symbol_at m (option_map_or kind_of_pool o kinds.Text) n ≡ TextSymbol s → (o ≡ Some StringPool) × IsAt m.texts n s
text_named m None n s some lt e = absurd cc
text_named m (Some StringPool) n s some lt e = let same : get_or m.texts n [] ≡ s = cc in (refl, subst (IsAt m.texts n) same (member_at m.texts n [] lt))
text_named m (Some TypePool) n s some lt e = absurd cc
text_named m (Some ProtoPool) n s some lt e = absurd cc
text_named m (Some FieldPool) n s some lt e = absurd cc
text_named m (Some MethodPool) n s some lt e = absurd cc

-- a piece that denotes a const-string of the text
named_piece : (m : Mentions) (p : NumberedPiece) (us : List ℕ) (s : Text) → IsKnownPiece m p → piece_in m p ≡ symbolic.Instruction us (Some (TextSymbol s)) → low_byte (slice_index us 0) ≡ 0x1a → (n : ℕ) × Contains (short_string p) n × IsAt m.texts n s
named_piece m (Instruction xs None) us s h e op = absurd cc
named_piece m (Instruction xs (Some n)) us s h e op =
    let units : xs ≡ us = ap symbolic.units_of e in
    let symbol : symbol_at m (kind_in xs) n ≡ TextSymbol s = ap (λ q. get_or (piece_symbols q) 0 (TextSymbol s)) e in
    let named = text_named m (index_pool xs) n s h.0 h.1 symbol in
    (n, subst (λ b. Contains (if b then n ∷ [] else []) n) (sym (short_const xs named.0 (ap (λ (ys : List ℕ). low_byte (slice_index ys 0)) units ∙ op))) (Contains-first n []), named.1)
named_piece m (Payload xs) us s h e op = absurd cc

pub short_named : (m : Mentions) (ps : List NumberedPiece) (qs : List Piece) (s : Text) → Denote m ps qs → HasConstString qs s → (n : ℕ) × Contains (short_strings ps) n × IsAt m.texts n s
short_named m ps qs s h has =
    let piece = Contains-map_source (piece_in m) ps (symbolic.Instruction has.units (Some (TextSymbol s))) (subst (λ ys. Contains ys (symbolic.Instruction has.units (Some (TextSymbol s)))) (sym h.mean) has.piece) in
    let named = named_piece m piece.0 has.units s (All-contains (IsKnownPiece m) ps piece.0 h.known piece.1) piece.2 has.short in
    (named.0, Contains-flat_map short_string ps piece.0 named.0 piece.1 named.1, named.2)

-- the pool of a short string's index
text_pool : (o : Option Pool) → IsSome o → is_text (option_map_or kind_of_pool o kinds.Text) ≡ true → o ≡ Some StringPool
text_pool None some e = absurd cc
text_pool (Some StringPool) some e = refl
text_pool (Some TypePool) some e = absurd cc
text_pool (Some ProtoPool) some e = absurd cc
text_pool (Some FieldPool) some e = absurd cc
text_pool (Some MethodPool) some e = absurd cc

not_back : (b : Bool) → not b ≡ true → b ≡ false
not_back true e = absurd cc
not_back false e = refl

abbrev Meant : Mentions → ℕ → Piece → Type 0
Meant m n q = IsAt m.texts n (text_at m n) × (us : List ℕ) × (q ≡ symbolic.Instruction us (Some (TextSymbol (text_at m n)))) × (low_byte (slice_index us 0) ≡ 0x1a)

meant_piece : (m : Mentions) (p : NumberedPiece) (n : ℕ) → IsKnownPiece m p → Contains (short_string p) n → Meant m n (piece_in m p)
meant_piece m (Instruction us (Some k)) n h c =
    let short = short_is (is_short_string us) k n c in
    let parts = and_parts (is_text (kind_in us)) (not (is_wide_index us)) short.0 in
    let pool = text_pool (index_pool us) h.0 parts.0 in
    let kind = text_const us pool in
    let piece : piece_in m (Instruction us (Some k)) ≡ symbolic.Instruction us (Some (TextSymbol (text_at m k))) = ap (λ x. symbolic.Instruction us (Some (symbol_at m x k))) kind in
    subst (λ i. Meant m i (piece_in m (Instruction us (Some k)))) short.1 (member_at m.texts k [] (subst (λ x. k < count_of x m) kind h.1), us, piece, const_string us pool (not_back (is_wide_index us) parts.1))
meant_piece m _ n h c = absurd (Contains-nil n c)

pub short_denoted : (m : Mentions) (ps : List NumberedPiece) (qs : List Piece) (n : ℕ) → Denote m ps qs → Contains (short_strings ps) n → (s : Text) × IsAt m.texts n s × HasConstString qs s
short_denoted m ps qs n h c =
    let source = Contains-flat_map_source short_string ps n c in
    let meant = meant_piece m source.0 n (All-contains (IsKnownPiece m) ps source.0 h.known source.1) source.2 in (
      text_at m n,
      meant.0,
      record {
        units = meant.1;
        piece = subst (λ ys. Contains ys (symbolic.Instruction meant.1 (Some (TextSymbol (text_at m n))))) h.mean (subst (Contains (map (piece_in m) ps)) meant.2 (Contains-map (piece_in m) ps source.0 source.1));
        short = meant.3;
      },
    )
