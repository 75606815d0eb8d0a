-- Pieces and the indices beside them, one after the other.
use Rattle.dexinsn.proofs.Common.{get_or, ◌≡◌, ℕ, ◌+◌, ◌-◌, ◌<◌, ◌^◌, Bool, true, false, cond, List, [], ◌∷◌, ◌++◌, length, drop, map, slice_index, Option, Some, None, refl, ap, sym, ◌∙◌, subst, arith, length-drop, All, option_map_or, unwrap_or, drop-drop, get_or-map, length-map, All-cons, All-get_or, All-head, All-nil, All-tail, Pool, Cut, AreCut, piece_size, cut_units, index_pool, is_wide_index, is_payload_ident, with_index, Maps, image_of, Use, Index, IsPieceAt, NumberedPiece, Instruction, kind_in, kind_of_pool, index_room, piece_uses, uses_of, renumbered_piece, cuts_in, parts_in, piece_with, left_by, pieces_with, with_place, index_places, AreStored, FitsAt, use_at, HasPlaceAt, renumbered_index, IsIndexed, Payload}
use Rattle.dexpool.specs.declared.symbols.SymbolKind.TheVariants as kinds
use Rattle.dexinsn.specs.{HasPlace}
use Rattle.dexinsn.proofs.IndexRoom.{HasRoom, has_room}
use Rattle.dexinsn.proofs.StoredRead.{same_pool, same_wide, first_kept, cut_pool, cut_first, cut_length}

-- an index is that of the units
pub record Heads (us xs : List ℕ) (i : Index) : Type 0 where
  pub first : slice_index (drop i.unit us) 0 ≡ slice_index xs 0
  pub indexed : IsIndexed us i

abbrev pub LinedBy : Option Pool → List ℕ → List ℕ → (List Index → Type 0) → List Index → Type 0
LinedBy None us xs On is = On is
LinedBy (Some pool) us xs On [] = ⊥
LinedBy (Some pool) us xs On (i ∷ is) = Heads us xs i × On is

-- each of the parts that has an index has one of the list
abbrev pub Lined : List ℕ → List (List ℕ) → List Index → Type 0
Lined us [] is = is ≡ []
Lined us (xs ∷ parts) is = LinedBy (index_pool xs) us xs (Lined us parts) is

lined_by : (o : Option Pool) (us : List ℕ) (c : Cut) (at : ℕ) (parts : List (List ℕ)) (places : List ℕ) (is : List Index) → c.unit ≡ at → IsPieceAt us c → index_pool (cut_units us c) ≡ o → map (λ (i : Index). i.unit) is ≡ with_place o at places
    → ((js : List Index) → map (λ (i : Index). i.unit) js ≡ places → Lined us parts js) → LinedBy o us (cut_units us c) (Lined us parts) is
lined_by None us c at parts places is unit piece e same on = on is same
lined_by (Some pool) us c at parts places [] unit piece e same on = absurd cc
lined_by (Some pool) us c at parts places (i ∷ is) unit piece e same on =
    let here : i.unit ≡ at = cc in
    let rest : map (λ (i : Index). i.unit) is ≡ places = cc in
    let there : i.unit ≡ c.unit = here ∙ sym unit in
    let r : HasRoom (drop c.unit us) c.units = has_room c.unit (drop c.unit us) c.units pool piece (sym (cut_pool us c piece) ∙ e) in
    let l : length (drop c.unit us) ≡ length us - c.unit = length-drop c.unit us in (
      record {
        first = ap (λ (k : ℕ). slice_index (drop k us) 0) there ∙ sym (cut_first us c piece);
        indexed = record {
          within = omega (arith, r.within, r.two);
          wide = λ wide. let w : is_wide_index (drop c.unit us) ≡ true = ap (λ (k : ℕ). is_wide_index (drop k us)) (sym there) ∙ wide in omega (arith, r.within, r.three w);
        };
      },
      on is rest,
    )

lined_from : (us : List ℕ) (at : ℕ) (cs : List Cut) (is : List Index) → AreCut at (drop at us) cs [] → map (λ (i : Index). i.unit) is ≡ index_places at (map (cut_units us) cs) → Lined us (map (cut_units us) cs) is
lined_from us at [] [] cut same = refl
lined_from us at [] (i ∷ is) cut same = absurd cc
lined_from us at (c ∷ cs) is cut same =
    let piece : IsPieceAt us c = subst (λ (k : ℕ). piece_size k (drop k us) ≡ Some c.units) (sym cut.0) cut.1 in
    let on = λ (js : List Index) (e : map (λ (i : Index). i.unit) js ≡ index_places (at + length (cut_units us c)) (map (cut_units us) cs)).
    lined_from us (at + c.units) cs js (subst (λ (xs : List ℕ). AreCut (at + c.units) xs cs []) (drop-drop c.units at us) cut.2)
    (e ∙ ap (λ (n : ℕ). index_places (at + n) (map (cut_units us) cs)) (cut_length us c piece)) in
    lined_by (index_pool (cut_units us c)) us c at (map (cut_units us) cs) (index_places (at + length (cut_units us c)) (map (cut_units us) cs)) is cut.0 piece refl same on

-- what is stored is so
pub stored_lined : (us : List ℕ) (is : List Index) → AreStored us is → Lined us (parts_in us) is
stored_lined us is s = lined_from us 0 (cuts_in us) is s.cut s.places

-- ---- what each index has

indexed_by : (o : Option Pool) (us xs : List ℕ) (parts : List (List ℕ)) (is : List Index) → ((js : List Index) → Lined us parts js → All (IsIndexed us) js) → LinedBy o us xs (Lined us parts) is → All (IsIndexed us) is
indexed_by None us xs parts is on h = on is h
indexed_by (Some pool) us xs parts [] on h = absurd h
indexed_by (Some pool) us xs parts (i ∷ is) on h = All-cons (IsIndexed us) i is h.0.indexed (on is h.1)

all_indexed : (us : List ℕ) (parts : List (List ℕ)) (is : List Index) → Lined us parts is → All (IsIndexed us) is
all_indexed us [] is h = subst (All (IsIndexed us)) (sym h) (All-nil (IsIndexed us))
all_indexed us (xs ∷ parts) is h = indexed_by (index_pool xs) us xs parts is (all_indexed us parts) h

pub stored_indexed : (us : List ℕ) (is : List Index) → AreStored us is → All (IsIndexed us) is
stored_indexed us is s = all_indexed us (parts_in us) is (stored_lined us is s)

-- ---- what follows from the first unit

pub same_kind_in : (xs ys : List ℕ) → slice_index xs 0 ≡ slice_index ys 0 → kind_in xs ≡ kind_in ys
same_kind_in xs ys e = ap (λ (o : Option Pool). option_map_or kind_of_pool o kinds.Text) (same_pool xs ys e)

pub head_kind : (us xs : List ℕ) (i : Index) → Heads us xs i → kind_in (with_index 0 xs) ≡ kind_in (drop i.unit us)
head_kind us xs i h = same_kind_in (with_index 0 xs) (drop i.unit us) (first_kept 0 xs ∙ sym h.first)

pub head_wide : (us xs : List ℕ) (i : Index) → Heads us xs i → is_wide_index (with_index 0 xs) ≡ is_wide_index (drop i.unit us)
head_wide us xs i h = same_wide (with_index 0 xs) (drop i.unit us) (first_kept 0 xs ∙ sym h.first)

pub head_room : (us xs : List ℕ) (i : Index) → Heads us xs i → index_room (with_index 0 xs) ≡ index_room (drop i.unit us)
head_room us xs i h = ap (λ (t : Bool). cond t (2 ^ 32) (2 ^ 16)) (same_wide (with_index 0 xs) (drop i.unit us) (first_kept 0 xs ∙ sym h.first))

-- ---- the symbols that occur

plain_uses : (t : Bool) (xs : List ℕ) → piece_uses (cond t (Payload xs) (Instruction xs None)) ≡ []
plain_uses true xs = refl
plain_uses false xs = refl

uses_by : (o : Option Pool) (us xs : List ℕ) (parts : List (List ℕ)) (is : List Index) → ((js : List Index) → Lined us parts js → uses_of (pieces_with parts js) ≡ map (use_at us) js) → LinedBy o us xs (Lined us parts) is
    → piece_uses (piece_with o xs is) ++ uses_of (pieces_with parts (left_by o is)) ≡ map (use_at us) is
uses_by None us xs parts is on h = ap (λ (ys : List Use). ys ++ uses_of (pieces_with parts is)) (plain_uses (is_payload_ident (slice_index xs 0)) xs) ∙ on is h
uses_by (Some pool) us xs parts [] on h = absurd h
uses_by (Some pool) us xs parts (i ∷ is) on h = ap (λ k. record { kind = k; number = i.number } ∷ uses_of (pieces_with parts is)) (head_kind us xs i h.0) ∙ ap (λ (ys : List Use). use_at us i ∷ ys) (on is h.1)

uses_lined : (us : List ℕ) (parts : List (List ℕ)) (is : List Index) → Lined us parts is → uses_of (pieces_with parts is) ≡ map (use_at us) is
uses_lined us [] is h = ap (map (use_at us)) (sym h)
uses_lined us (xs ∷ parts) is h = uses_by (index_pool xs) us xs parts is (uses_lined us parts) h

pub stored_uses : (us : List ℕ) (is : List Index) → AreStored us is → uses_of (pieces_with (parts_in us) is) ≡ map (use_at us) is
stored_uses us is s = uses_lined us (parts_in us) is (stored_lined us is s)

-- ---- other numbers

place_back : (r : Maps) (us xs : List ℕ) (i : Index) → Heads us xs i → HasPlaceAt r us i → HasPlace r (Instruction (with_index 0 xs) (Some i.number))
place_back r us xs i h p = (p.0, ap (λ k. image_of r k i.number) (head_kind us xs i h) ∙ p.1, subst (λ (n : ℕ). p.0 < n) (sym (head_room us xs i h)) p.2)

has_places_by : (r : Maps) (o : Option Pool) (us xs : List ℕ) (parts : List (List ℕ)) (is : List Index) → ((js : List Index) → Lined us parts js → All (HasPlace r) (pieces_with parts js) → All (HasPlaceAt r us) js) → LinedBy o us xs (Lined us parts) is
    → HasPlace r (piece_with o xs is) → All (HasPlace r) (pieces_with parts (left_by o is)) → All (HasPlaceAt r us) is
has_places_by r None us xs parts is on h first rest = on is h rest
has_places_by r (Some pool) us xs parts [] on h first rest = absurd h
has_places_by r (Some pool) us xs parts (i ∷ is) on h first rest = All-cons (HasPlaceAt r us) i is ((first.0, ap (λ k. image_of r k i.number) (sym (head_kind us xs i h.0)) ∙ first.1, subst (λ (n : ℕ). first.0 < n) (head_room us xs i h.0) first.2)) (on is h.1 rest)

has_places : (r : Maps) (us : List ℕ) (parts : List (List ℕ)) (is : List Index) → Lined us parts is → All (HasPlace r) (pieces_with parts is) → All (HasPlaceAt r us) is
has_places r us [] is h all = subst (All (HasPlaceAt r us)) (sym h) (All-nil (HasPlaceAt r us))
has_places r us (xs ∷ parts) is h all =
    has_places_by r (index_pool xs) us xs parts is (has_places r us parts) h
    (All-head (HasPlace r) (piece_with (index_pool xs) xs is) (pieces_with parts (left_by (index_pool xs) is)) all)
    (All-tail (HasPlace r) (piece_with (index_pool xs) xs is) (pieces_with parts (left_by (index_pool xs) is)) all)

pub stored_places : (r : Maps) (us : List ℕ) (is : List Index) → AreStored us is → All (HasPlace r) (pieces_with (parts_in us) is) → All (HasPlaceAt r us) is
stored_places r us is s all = has_places r us (parts_in us) is (stored_lined us is s) all

plain_has : (r : Maps) (t : Bool) (xs : List ℕ) → HasPlace r (cond t (Payload xs) (Instruction xs None))
plain_has r true xs = tt
plain_has r false xs = tt

places_back_by : (r : Maps) (o : Option Pool) (us xs : List ℕ) (parts : List (List ℕ)) (is : List Index) → ((js : List Index) → Lined us parts js → All (HasPlaceAt r us) js → All (HasPlace r) (pieces_with parts js)) → LinedBy o us xs (Lined us parts) is
    → All (HasPlaceAt r us) is → All (HasPlace r) (piece_with o xs is ∷ pieces_with parts (left_by o is))
places_back_by r None us xs parts is on h all = All-cons (HasPlace r) (piece_with None xs is) (pieces_with parts is) (plain_has r (is_payload_ident (slice_index xs 0)) xs) (on is h all)
places_back_by r (Some pool) us xs parts [] on h all = absurd h
places_back_by r (Some pool) us xs parts (i ∷ is) on h all =
    All-cons (HasPlace r) (piece_with (Some pool) xs (i ∷ is)) (pieces_with parts is) (place_back r us xs i h.0 (All-head (HasPlaceAt r us) i is all)) (on is h.1 (All-tail (HasPlaceAt r us) i is all))

places_back : (r : Maps) (us : List ℕ) (parts : List (List ℕ)) (is : List Index) → Lined us parts is → All (HasPlaceAt r us) is → All (HasPlace r) (pieces_with parts is)
places_back r us [] is h all = All-nil (HasPlace r)
places_back r us (xs ∷ parts) is h all = places_back_by r (index_pool xs) us xs parts is (places_back r us parts) h all

pub stored_places_back : (r : Maps) (us : List ℕ) (is : List Index) → AreStored us is → All (HasPlaceAt r us) is → All (HasPlace r) (pieces_with (parts_in us) is)
stored_places_back r us is s all = places_back r us (parts_in us) is (stored_lined us is s) all

plain_renumbered : (r : Maps) (t : Bool) (xs : List ℕ) → cond t (Payload xs) (Instruction xs None) ≡ renumbered_piece r (cond t (Payload xs) (Instruction xs None))
plain_renumbered r true xs = refl
plain_renumbered r false xs = refl

unwrapped : (o : Option ℕ) (j : ℕ) → o ≡ Some j → Some (unwrap_or o 0) ≡ o
unwrapped None j e = cc
unwrapped (Some x) j e = refl

renumbered_by : (r : Maps) (o : Option Pool) (us xs : List ℕ) (parts : List (List ℕ)) (is : List Index) → ((js : List Index) → Lined us parts js → All (HasPlaceAt r us) js → pieces_with parts (map (renumbered_index r us) js) ≡ map (renumbered_piece r) (pieces_with parts js)) → LinedBy o us xs (Lined us parts) is
    → All (HasPlaceAt r us) is → (piece_with o xs (map (renumbered_index r us) is) ∷ pieces_with parts (left_by o (map (renumbered_index r us) is))) ≡ (renumbered_piece r (piece_with o xs is) ∷ map (renumbered_piece r) (pieces_with parts (left_by o is)))
renumbered_by r None us xs parts is on h all =
    ap (λ (p : NumberedPiece). p ∷ pieces_with parts (map (renumbered_index r us) is)) (plain_renumbered r (is_payload_ident (slice_index xs 0)) xs)
    ∙ ap (λ (ps : List NumberedPiece). renumbered_piece r (cond (is_payload_ident (slice_index xs 0)) (Payload xs) (Instruction xs None)) ∷ ps) (on is h all)
renumbered_by r (Some pool) us xs parts [] on h all = absurd h
renumbered_by r (Some pool) us xs parts (i ∷ is) on h all =
    let p : HasPlaceAt r us i = All-head (HasPlaceAt r us) i is all in
    ap (λ (o : Option ℕ). Instruction (with_index 0 xs) o ∷ pieces_with parts (map (renumbered_index r us) is))
    (unwrapped (image_of r (kind_in (drop i.unit us)) i.number) p.0 p.1 ∙ ap (λ k. image_of r k i.number) (sym (head_kind us xs i h.0)))
    ∙ ap (λ (ps : List NumberedPiece). Instruction (with_index 0 xs) (image_of r (kind_in (with_index 0 xs)) i.number) ∷ ps) (on is h.1 (All-tail (HasPlaceAt r us) i is all))

renumbered_lined : (r : Maps) (us : List ℕ) (parts : List (List ℕ)) (is : List Index) → Lined us parts is → All (HasPlaceAt r us) is → pieces_with parts (map (renumbered_index r us) is) ≡ map (renumbered_piece r) (pieces_with parts is)
renumbered_lined r us [] is h all = refl
renumbered_lined r us (xs ∷ parts) is h all = renumbered_by r (index_pool xs) us xs parts is (renumbered_lined r us parts) h all

-- the pieces with other numbers
pub stored_renumbered : (r : Maps) (us : List ℕ) (is : List Index) → AreStored us is → All (HasPlaceAt r us) is → pieces_with (parts_in us) (map (renumbered_index r us) is) ≡ map (renumbered_piece r) (pieces_with (parts_in us) is)
stored_renumbered r us is s all = renumbered_lined r us (parts_in us) is (stored_lined us is s) all

same_units : (r : Maps) (us : List ℕ) (is : List Index) → map (λ (i : Index). i.unit) (map (renumbered_index r us) is) ≡ map (λ (i : Index). i.unit) is
same_units r us [] = refl
same_units r us (i ∷ is) = ap (λ (ns : List ℕ). i.unit ∷ ns) (same_units r us is)

image_fits : (o : Option ℕ) (j k : ℕ) → o ≡ Some j → j < k → unwrap_or o 0 < k
image_fits None j k e lt = absurd cc
image_fits (Some x) j k e lt = let same : x ≡ j = cc in subst (λ (n : ℕ). n < k) (sym same) lt

still_fit : (r : Maps) (us : List ℕ) (is : List Index) → All (HasPlaceAt r us) is → All (FitsAt us) (map (renumbered_index r us) is)
still_fit r us [] all = All-nil (FitsAt us)
still_fit r us (i ∷ is) all =
    let p : HasPlaceAt r us i = All-head (HasPlaceAt r us) i is all in
    All-cons (FitsAt us) (renumbered_index r us i) (map (renumbered_index r us) is) (image_fits (image_of r (kind_in (drop i.unit us)) i.number) p.0 (index_room (drop i.unit us)) p.1 p.2)
    (still_fit r us is (All-tail (HasPlaceAt r us) i is all))

-- they can be stored
pub still_stored : (r : Maps) (us : List ℕ) (is : List Index) → AreStored us is → All (HasPlaceAt r us) is → AreStored us (map (renumbered_index r us) is)
still_stored r us is s all = record { few = s.few; cut = s.cut; places = same_units r us is ∙ s.places; fit = still_fit r us is all }

-- both, with the code's own name for the units
pub renumber_all : (r : Maps) (us vs : List ℕ) (is js : List Index) → AreStored us is → vs ≡ us → All (HasPlace r) (pieces_with (parts_in us) is) → js ≡ map (renumbered_index r vs) is → AreStored us js × (pieces_with (parts_in us) js ≡ map (renumbered_piece r) (pieces_with (parts_in us) is))
renumber_all r us vs is js s same all e =
    let places : All (HasPlaceAt r us) is = stored_places r us is s all in
    let f : js ≡ map (renumbered_index r us) is = e ∙ ap (λ (ws : List ℕ). map (renumbered_index r ws) is) same in (subst (AreStored us) (sym f) (still_stored r us is s places), ap (pieces_with (parts_in us)) f ∙ stored_renumbered r us is s places)

-- the same, with the code's own names for the units and for the indices
pub indexed_for : (us vs : List ℕ) (is js : List Index) → AreStored us is → vs ≡ us → js ≡ is → All (IsIndexed vs) js
indexed_for us vs is js s same_us same_is = subst (λ (ws : List ℕ). All (IsIndexed ws) js) (sym same_us) (subst (All (IsIndexed us)) (sym same_is) (stored_indexed us is s))

pub uses_for : (us vs : List ℕ) (is js : List Index) → AreStored us is → vs ≡ us → js ≡ is → uses_of (pieces_with (parts_in us) is) ≡ map (use_at vs) js
uses_for us vs is js s same_us same_is = stored_uses us is s ∙ ap (λ (ks : List Index). map (use_at us) ks) (sym same_is) ∙ ap (λ (ws : List ℕ). map (use_at ws) js) (sym same_us)

pub places_for : (r : Maps) (us vs : List ℕ) (is js : List Index) → AreStored us is → vs ≡ us → js ≡ is → All (HasPlace r) (pieces_with (parts_in us) is) → All (HasPlaceAt r vs) js
places_for r us vs is js s same_us same_is all = subst (λ (ws : List ℕ). All (HasPlaceAt r ws) js) (sym same_us) (subst (All (HasPlaceAt r us)) (sym same_is) (stored_places r us is s all))

pub places_back_for : (r : Maps) (us vs : List ℕ) (is js : List Index) → AreStored us is → vs ≡ us → js ≡ is → All (HasPlaceAt r vs) js → All (HasPlace r) (pieces_with (parts_in us) is)
places_back_for r us vs is js s same_us same_is all = stored_places_back r us is s (subst (All (HasPlaceAt r us)) same_is (subst (λ (ws : List ℕ). All (HasPlaceAt r ws) js) same_us all))

-- as many symbols occur as there are indices
pub count_for : (us : List ℕ) (is : List Index) → AreStored us is → length (uses_of (pieces_with (parts_in us) is)) ≡ length is
count_for us is s = ap length (stored_uses us is s) ∙ length-map is (use_at us)

-- each is that of its index
pub symbol_for : (us : List ℕ) (is : List Index) (i : ℕ) (x : Index) (d : Use) → AreStored us is → i < length is → x ≡ get_or is i x → get_or (uses_of (pieces_with (parts_in us) is)) i d ≡ use_at us x
symbol_for us is i x d s lt at = ap (λ (ys : List Use). get_or ys i d) (stored_uses us is s) ∙ get_or-map (use_at us) is i x d lt ∙ ap (use_at us) (sym at)

pub indexed_at : (us : List ℕ) (is : List Index) (i : ℕ) (x : Index) → AreStored us is → i < length is → x ≡ get_or is i x → IsIndexed us x
indexed_at us is i x s lt at = subst (IsIndexed us) (sym at) (All-get_or (IsIndexed us) is i x lt (stored_indexed us is s))
