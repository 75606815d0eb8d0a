-- Pieces listed one by one.
use Rattle.dexinsn.proofs.Common.{◌≡◌, ℕ, ◌+◌, ◌*◌, ◌/◌, ◌<◌, ◌≤◌, ◌==◌, Bool, true, false, cond, List, [], ◌∷◌, length, drop, take, map, slice_index, Option, Some, None, inl, inr, refl, ap, sym, ◌∙◌, subst, arith, length-drop, option_map, option_map_or, drop-drop, drop_all, get_or-take, Pool, Cut, AreCut, piece_size, cut_units, index_pool, is_payload_ident, packed_switch_ident, sparse_switch_ident, array_data_ident, with_index, low_byte, piece_is, units_by, SymbolKind, Index, IsPieceAt, Instruction, kind_in, kind_of_pool, cuts_from, cuts_in, parts_in, first_number, piece_with, left_by, pieces_with, with_place, index_places, AreStored, units_of, payload_shown, listed, symbol_by, kind_from, listing, IsListing, ListsFirst, Payload}
use Rattle.dexpool.specs.declared.symbols.SymbolKind.TheVariants as symbols
use Rattle.dexinsn.specs.declared.listing.PieceKind.{PieceKind}
use Rattle.dexinsn.specs.declared.listing.PieceKind.TheVariants as kinds
use Rattle.dexinsn.specs.{kind_of}
use Rattle.dexinsn.proofs.IndexRoom.{Fits, piece_size-fits}
use Rattle.dexinsn.proofs.StoredRead.{cuts_from_is, same_pool, first_kept, cut_pool, cut_length, payload_pool}
use Rattle.dexinsn.proofs.SamePieces.{left_by_places, length-blank, blank_is}

-- ---- what is shown of one piece

-- a payload by its kind and its units
abbrev shown_by : Bool → Bool → ℕ → ℕ → ℕ → PieceKind
shown_by t s a b c = cond t (kinds.PackedSwitch a) (cond s (kinds.SparseSwitch a) (kinds.ArrayData a (b + 65536 * c)))

shown_same : (t s : Bool) (xs ys : List ℕ) (n : ℕ) → n ≡ units_by t s (slice_index ys 1) (slice_index ys 2) (slice_index ys 3) → ((j : ℕ) → j < n → slice_index xs j ≡ slice_index ys j)
    → shown_by t s (slice_index xs 1) (slice_index xs 2) (slice_index xs 3) ≡ shown_by t s (slice_index ys 1) (slice_index ys 2) (slice_index ys 3)
shown_same true s xs ys n e f = ap kinds.PackedSwitch (f 1 (omega arith))
shown_same false true xs ys n e f = ap kinds.SparseSwitch (f 1 (omega arith))
shown_same false false xs ys n e f = λ i. kinds.ArrayData ((f 1 (omega arith)) i) ((f 2 (omega arith)) i + 65536 * (f 3 (omega arith)) i)

-- the units of the piece show what all units show
payload_same : (at n : ℕ) (ys : List ℕ) → piece_size at ys ≡ Some n → is_payload_ident (slice_index ys 0) ≡ true → payload_shown (take n ys) ≡ payload_shown ys
payload_same at n ys is ident = elim (piece_is at ys n is) [
  | inl p ↦
      ap (λ (u : ℕ). shown_by (u == packed_switch_ident) (u == sparse_switch_ident) (slice_index (take n ys) 1) (slice_index (take n ys) 2) (slice_index (take n ys) 3)) (get_or-take n ys 0 0 (piece_size-fits at ys n is).0)
      ∙ shown_same (slice_index ys 0 == packed_switch_ident) (slice_index ys 0 == sparse_switch_ident) (take n ys) ys n (sym p.units) (λ j lt. get_or-take n ys j 0 lt)
  | inr p ↦ absurd (let bad : true ≡ false = sym ident ∙ p.ident in cc)
]

plain_kind : (t : Bool) (xs : List ℕ) → kind_of (cond t (Payload xs) (Instruction xs None)) ≡ cond t (payload_shown xs) (kinds.Instruction (low_byte (slice_index xs 0)) None)
plain_kind true xs = refl
plain_kind false xs = refl

plain_units : (t : Bool) (xs : List ℕ) → units_of (cond t (Payload xs) (Instruction xs None)) ≡ xs
plain_units true xs = refl
plain_units false xs = refl

plain_same : (t : Bool) (at n : ℕ) (ys : List ℕ) → piece_size at ys ≡ Some n → is_payload_ident (slice_index ys 0) ≡ t
    → cond t (payload_shown (take n ys)) (kinds.Instruction (low_byte (slice_index (take n ys) 0)) None) ≡ cond t (payload_shown ys) (kinds.Instruction (low_byte (slice_index ys 0)) None)
plain_same true at n ys is e = payload_same at n ys is e
plain_same false at n ys is e = ap (λ (u : ℕ). kinds.Instruction (low_byte u) None) (get_or-take n ys 0 0 (piece_size-fits at ys n is).0)

no_payload : (t : Bool) (ys : List ℕ) (pool : Pool) → is_payload_ident (slice_index ys 0) ≡ t → index_pool ys ≡ Some pool → t ≡ false
no_payload true ys pool e named = let none : index_pool ys ≡ None = payload_pool ys e in absurd cc
no_payload false ys pool e named = refl

-- what is shown of a piece with these indices
kind_by : (o : Option Pool) (at n : ℕ) (ys : List ℕ) (is : List Index) → piece_size at ys ≡ Some n → index_pool ys ≡ o → kind_of (piece_with o (take n ys) is) ≡ kind_from ys (symbol_by o is)
kind_by None at n ys is size e =
    plain_kind (is_payload_ident (slice_index (take n ys) 0)) (take n ys)
    ∙ ap (λ (u : ℕ). cond (is_payload_ident u) (payload_shown (take n ys)) (kinds.Instruction (low_byte (slice_index (take n ys) 0)) None)) (get_or-take n ys 0 0 (piece_size-fits at ys n size).0)
    ∙ plain_same (is_payload_ident (slice_index ys 0)) at n ys size refl
kind_by (Some pool) at n ys is size e =
    let first : slice_index (with_index 0 (take n ys)) 0 ≡ slice_index ys 0 = first_kept 0 (take n ys) ∙ get_or-take n ys 0 0 (piece_size-fits at ys n size).0 in
    let kind : kind_in (with_index 0 (take n ys)) ≡ kind_of_pool pool = ap (λ (o : Option Pool). option_map_or kind_of_pool o symbols.Text) (same_pool (with_index 0 (take n ys)) ys first ∙ e) in
    ap (λ (u : ℕ). kinds.Instruction (low_byte u) (option_map (λ i. (kind_in (with_index 0 (take n ys)), i)) (first_number is))) first
    ∙ ap (λ (k : SymbolKind). kinds.Instruction (low_byte (slice_index ys 0)) (option_map (λ i. (k, i)) (first_number is))) kind
    ∙ ap (λ (t : Bool). cond t (payload_shown ys) (kinds.Instruction (low_byte (slice_index ys 0)) (option_map (λ i. (kind_of_pool pool, i)) (first_number is)))) (sym (no_payload (is_payload_ident (slice_index ys 0)) ys pool refl e))

size_by : (o : Option Pool) (xs : List ℕ) (is : List Index) → length (units_of (piece_with o xs is)) ≡ length xs
size_by None xs is = ap length (plain_units (is_payload_ident (slice_index xs 0)) xs)
size_by (Some pool) xs is = ap length (blank_is _ xs refl) ∙ length-blank _ xs

-- ---- the pieces from a unit on

pub listing_start : (us : List ℕ) (is : List Index) → AreStored us is → IsListing us 0 is
unfolding cuts_in
listing_start us is s = record { few = s.few; within = omega arith; cut = s.cut; places = s.places }

pub listing_whole : (us : List ℕ) (is : List Index) → listing us 0 is ≡ listed 0 (pieces_with (parts_in us) is)
unfolding listing cuts_in
listing_whole us is = refl

pub listing_end : (us : List ℕ) (at : ℕ) (is : List Index) → length us ≤ at → listing us at is ≡ []
unfolding listing
listing_end us at is le = ap (λ (cs : List Cut). listed at (pieces_with (map (cut_units us) cs) is)) (cuts_from_is (length us) at (drop at us) [] (drop_all at us le) (omega (arith, length-drop at us)))

cut_on : (us : List ℕ) (at : ℕ) (cs : List Cut) → AreCut at (drop at us) cs [] → at < length us → piece_size at (drop at us) ≡ None → ⊥
cut_on us at [] cut lt none = omega (arith, ap length cut, length-drop at us)
cut_on us at (c ∷ cs) cut lt none = let bad : Some c.units ≡ None = sym cut.1 ∙ none in cc

-- a piece begins before the end
pub listing_on : (us : List ℕ) (at : ℕ) (is : List Index) → IsListing us at is → at < length us → piece_size at (drop at us) ≡ None → ⊥
listing_on us at is l lt none = cut_on us at (cuts_from (length us) at (drop at us)) l.cut lt none

-- the cuts after the first piece
record IsAfter (us : List ℕ) (at n : ℕ) (cs : List Cut) : Type 0 where
  cuts : cs ≡ record { unit = at; units = n } ∷ cuts_from (length us) (at + n) (drop (at + n) us)
  cut : AreCut (at + n) (drop (at + n) us) (cuts_from (length us) (at + n) (drop (at + n) us)) []

after_first_cut : (us : List ℕ) (at n : ℕ) (cs : List Cut) → AreCut at (drop at us) cs [] → piece_size at (drop at us) ≡ Some n → IsAfter us at n cs
after_first_cut us at n [] cut size = let f : Fits (drop at us) n = piece_size-fits at (drop at us) n size in absurd (omega (arith, f.0, f.1, ap length cut))
after_first_cut us at n (c ∷ cs) cut size =
    let units : c.units ≡ n = let e : Some c.units ≡ Some n = sym cut.1 ∙ size in cc in
    let later : AreCut (at + n) (drop (at + n) us) cs [] = subst (λ (k : ℕ). AreCut (at + k) (drop (at + k) us) cs []) units (subst (λ (xs : List ℕ). AreCut (at + c.units) xs cs []) (drop-drop c.units at us) cut.2) in
    let rest : cuts_from (length us) (at + n) (drop (at + n) us) ≡ cs = cuts_from_is (length us) (at + n) (drop (at + n) us) cs later (omega (arith, length-drop (at + n) us)) in
    record {
      cuts = ap (λ (k : ℕ). record { unit = k; units = c.units } ∷ cs) cut.0 ∙ ap (λ (k : ℕ). record { unit = at; units = k } ∷ cs) units ∙ ap (λ (ds : List Cut). record { unit = at; units = n } ∷ ds) (sym rest);
      cut = subst (λ (ds : List Cut). AreCut (at + n) (drop (at + n) us) ds []) (sym rest) later;
    }

-- the first piece, and what is after it
pub listing_more : (us : List ℕ) (at n : ℕ) (is : List Index) → IsListing us at is → piece_size at (drop at us) ≡ Some n
    → ListsFirst us at is (record { unit = at; units = n; kind = kind_from (drop at us) (symbol_by (index_pool (drop at us)) is) }) (left_by (index_pool (drop at us)) is)
unfolding listing
listing_more us at n is l size =
    let b : IsAfter us at n (cuts_from (length us) at (drop at us)) = after_first_cut us at n (cuts_from (length us) at (drop at us)) l.cut size in
    let f : Fits (drop at us) n = piece_size-fits at (drop at us) n size in
    let piece : IsPieceAt us (record { unit = at; units = n }) = size in
    let pool : index_pool (take n (drop at us)) ≡ index_pool (drop at us) = cut_pool us (record { unit = at; units = n }) piece in
    let units : length (take n (drop at us)) ≡ n = cut_length us (record { unit = at; units = n }) piece in
    let first_units : length (units_of (piece_with (index_pool (drop at us)) (take n (drop at us)) is)) ≡ n = size_by (index_pool (drop at us)) (take n (drop at us)) is ∙ units in
    let places : map (λ (i : Index). i.unit) is ≡ with_place (index_pool (take n (drop at us))) at (index_places (at + length (take n (drop at us))) (map (cut_units us) (cuts_from (length us) (at + n) (drop (at + n) us)))) =
    l.places ∙ ap (λ (cs : List Cut). index_places at (map (cut_units us) cs)) b.cuts in
    record {
      first =
          ap (λ (cs : List Cut). listed at (pieces_with (map (cut_units us) cs) is)) b.cuts
          ∙ ap (λ (o : Option Pool). listed at (piece_with o (take n (drop at us)) is ∷ pieces_with (map (cut_units us) (cuts_from (length us) (at + n) (drop (at + n) us))) (left_by o is))) pool
          ∙ λ i. record { unit = at; units = first_units i; kind = (kind_by (index_pool (drop at us)) at n (drop at us) is size refl) i } ∷ listed (at + first_units i) (pieces_with (map (cut_units us) (cuts_from (length us) (at + n) (drop (at + n) us))) (left_by (index_pool (drop at us)) is));
      later = record {
        few = l.few;
        within = omega (arith, f.0, f.1, l.within, length-drop at us);
        cut = b.cut;
        places =
            left_by_places (index_pool (drop at us)) at (index_places (at + length (take n (drop at us))) (map (cut_units us) (cuts_from (length us) (at + n) (drop (at + n) us)))) is
            (places ∙ ap (λ (o : Option Pool). with_place o at (index_places (at + length (take n (drop at us))) (map (cut_units us) (cuts_from (length us) (at + n) (drop (at + n) us))))) pool)
            ∙ ap (λ (k : ℕ). index_places (at + k) (map (cut_units us) (cuts_from (length us) (at + n) (drop (at + n) us)))) units;
      };
    }

-- ---- the units of a payload

two_of : (t s : Bool) (a b c : ℕ) → 1 < units_by t s a b c
two_of true s a b c = omega arith
two_of false true a b c = omega arith
two_of false false a b c = omega arith

pub payload_two : (at n : ℕ) (ys : List ℕ) → piece_size at ys ≡ Some n → is_payload_ident (slice_index ys 0) ≡ true → 1 < length ys
payload_two at n ys is ident = elim (piece_is at ys n is) [
  | inl p ↦ omega (arith, p.units, p.within, two_of (slice_index ys 0 == packed_switch_ident) (slice_index ys 0 == sparse_switch_ident) (slice_index ys 1) (slice_index ys 2) (slice_index ys 3))
  | inr p ↦ absurd (let bad : true ≡ false = sym ident ∙ p.ident in cc)
]

pub payload_four : (at n : ℕ) (ys : List ℕ) → piece_size at ys ≡ Some n → slice_index ys 0 ≡ array_data_ident → 3 < length ys
payload_four at n ys is ident = elim (piece_is at ys n is) [
  | inl p ↦
      let size : units_by (slice_index ys 0 == packed_switch_ident) (slice_index ys 0 == sparse_switch_ident) (slice_index ys 1) (slice_index ys 2) (slice_index ys 3) ≡ 4 + ((slice_index ys 2 + 65536 * slice_index ys 3) * slice_index ys 1 + 1) / 2 =
      ap (λ (u : ℕ). units_by (u == packed_switch_ident) (u == sparse_switch_ident) (slice_index ys 1) (slice_index ys 2) (slice_index ys 3)) ident in
      omega (arith, sym p.units ∙ size, p.within)
  | inr p ↦ absurd (let bad : true ≡ false = sym (ap is_payload_ident ident) ∙ p.ident in cc)
]
