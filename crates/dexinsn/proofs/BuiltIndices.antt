-- Indices that are built from units that are checked.
use Rattle.dexinsn.proofs.Common.{◌≡◌, ℕ, ◌+◌, ◌*◌, ◌<◌, ◌≤◌, true, false, List, [], ◌∷◌, ◌++◌, length, drop, take, Option, Some, None, refl, ap, sym, ◌∙◌, subst, arith, length-drop, zero-add, All, IsSome, is_some, option_map, append_assoc, drop-drop, length-append, Mentions, IsInData, Pool, Cut, AreCut, index_in, index_pool, piece_size, Index, PiecesShape, kind_of_pool, FitsAt, AreCodeIndices, AreUnitsAt, indices_at, with_index_at, AreTheIndices, HaveIndices, IsChecked, IsShapeAt}
use Rattle.dexinsn.specs.{units_in}
use Rattle.dexinsn.proofs.CodeRead.{units_there}
use Rattle.dexinsn.proofs.Halves.{uint_after}
use Rattle.dexinsn.proofs.Once.{whole_once}
use Rattle.dexinsn.proofs.IndexRoom.{piece_size-fits}

-- These indices are built, the pieces from a unit on have the others, and together they are all.
pub record IndicesBuilt (us : List ℕ) (count at : ℕ) (is : List Index) : Type 0 where
  pub rest : List Cut
  pub ahead : AreCut at (drop at us) rest []
  pub left : length is + length (indices_at us rest) ≡ count
  pub whole : (cs : List Cut) → AreCut 0 us cs [] → is ++ indices_at us rest ≡ indices_at us cs

pub none_built : (us : List ℕ) (count : ℕ) (is : List Index) → is ≡ [] → HaveIndices us count → IndicesBuilt us count 0 is
none_built us count is none h = subst (IndicesBuilt us count 0) (sym none) record {
  rest = h.cuts;
  ahead = h.cut;
  left = zero-add (length (indices_at us h.cuts)) ∙ h.counted;
  whole = λ cs cut. ap (indices_at us) (whole_once us h.cuts cs h.cut cut);
}

-- the piece that is next
pub record NextPiece (us : List ℕ) (count at : ℕ) (is : List Index) : Type 0 where
  pub piece : Cut
  pub rest : List Cut
  pub unit : piece.unit ≡ at
  pub size : piece_size at (drop at us) ≡ Some piece.units
  pub ahead : AreCut (at + piece.units) (drop (at + piece.units) us) rest []
  pub left : length is + length (indices_at us (piece ∷ rest)) ≡ count
  pub whole : (cs : List Cut) → AreCut 0 us cs [] → is ++ indices_at us (piece ∷ rest) ≡ indices_at us cs

pub next_piece : (us : List ℕ) (count at : ℕ) (is : List Index) → IndicesBuilt us count at is → length is < count → NextPiece us count at is
next_piece us count at is h more = by_rest h.rest h.ahead h.left h.whole
  where
    by_rest : (rest : List Cut) → AreCut at (drop at us) rest [] → length is + length (indices_at us rest) ≡ count → ((cs : List Cut) → AreCut 0 us cs [] → is ++ indices_at us rest ≡ indices_at us cs) → NextPiece us count at is
    by_rest [] ahead left whole = absurd (omega (arith, more, left))
    by_rest (c ∷ cs) ahead left whole = record {
      piece = c;
      rest = cs;
      unit = ahead.0;
      size = ahead.1;
      ahead = subst (λ (xs : List ℕ). AreCut (at + c.units) xs cs []) (drop-drop c.units at us) ahead.2;
      left = left;
      whole = whole;
    }

-- it begins within the units, which do not end before it does
pub next_within : (us : List ℕ) (count at size : ℕ) (is : List Index) → NextPiece us count at is → piece_size at (drop at us) ≡ Some size → at + size ≤ length us
next_within us count at size is n size_is = let f = piece_size-fits at (drop at us) size size_is in omega (arith, f.0, f.1, length-drop at us)

pub some_units : (us : List ℕ) (at size : ℕ) → piece_size at (drop at us) ≡ Some size → 0 < size
some_units us at size is = (piece_size-fits at (drop at us) size is).0

pub next_begins : (us : List ℕ) (count at : ℕ) (is : List Index) → NextPiece us count at is → at < length us
next_begins us count at is n = let f = piece_size-fits at (drop at us) n.piece.units n.size in omega (arith, f.0, f.1, length-drop at us)

-- there is a piece at the unit
pub next_size : (us : List ℕ) (count at : ℕ) (is : List Index) → NextPiece us count at is → IsSome (piece_size at (drop at us))
next_size us count at is n = subst (λ (o : Option ℕ). IsSome o) (sym n.size) refl

pub some_pool : (o : Option Pool) → is_some (option_map kind_of_pool o) ≡ true → (pool : Pool) × (o ≡ Some pool)
some_pool None e = absurd cc
some_pool (Some pool) e = (pool, refl)

pub no_pool : (o : Option Pool) → is_some (option_map kind_of_pool o) ≡ false → o ≡ None
no_pool None e = refl
no_pool (Some pool) e = absurd cc

same_size : (a b : ℕ) (o : Option ℕ) → o ≡ Some a → o ≡ Some b → a ≡ b
same_size a b o x y = let e : Some a ≡ Some b = sym x ∙ y in cc

-- a piece without an index
pub plain_built : (us : List ℕ) (count at size : ℕ) (is : List Index) → NextPiece us count at is → piece_size at (drop at us) ≡ Some size → index_pool (drop at us) ≡ None → IndicesBuilt us count (at + size) is
plain_built us count at size is n size_is none =
    let here : index_pool (drop n.piece.unit us) ≡ None = ap (λ (k : ℕ). index_pool (drop k us)) n.unit ∙ none in
    let those : indices_at us (n.piece ∷ n.rest) ≡ indices_at us n.rest = ap (λ (o : Option Pool). with_index_at o us n.piece (indices_at us n.rest)) here in
    record {
      rest = n.rest;
      ahead = subst (λ (k : ℕ). AreCut (at + k) (drop (at + k) us) n.rest []) (same_size n.piece.units size (piece_size at (drop at us)) n.size size_is) n.ahead;
      left = ap (λ (js : List Index). length is + length js) (sym those) ∙ n.left;
      whole = λ cs cut. ap (λ (js : List Index). is ++ js) (sym those) ∙ n.whole cs cut;
    }

-- one with an index
pub index_built : (us : List ℕ) (count at size number : ℕ) (is more : List Index) (pool : Pool) → NextPiece us count at is → piece_size at (drop at us) ≡ Some size → index_pool (drop at us) ≡ Some pool → number ≡ index_in (drop at us) → more ≡ is ++ record { unit = at; number = number } ∷ []
    → IndicesBuilt us count (at + size) more
index_built us count at size number is more pool n size_is some number_is grown =
    let here : index_pool (drop n.piece.unit us) ≡ Some pool = ap (λ (k : ℕ). index_pool (drop k us)) n.unit ∙ some in
    let index : Index = record { unit = at; number = number } in
    let those : indices_at us (n.piece ∷ n.rest) ≡ index ∷ indices_at us n.rest =
    ap (λ (o : Option Pool). with_index_at o us n.piece (indices_at us n.rest)) here ∙ ap (λ (k : ℕ). record { unit = k; number = index_in (drop k us) } ∷ indices_at us n.rest) n.unit
    ∙ ap (λ (x : ℕ). record { unit = at; number = x } ∷ indices_at us n.rest) (sym number_is) in
    let joined : more ++ indices_at us n.rest ≡ is ++ indices_at us (n.piece ∷ n.rest) =
    ap (λ (js : List Index). js ++ indices_at us n.rest) grown ∙ append_assoc is (index ∷ []) (indices_at us n.rest) ∙ ap (λ (js : List Index). is ++ js) (sym those) in
    record {
      rest = n.rest;
      ahead = subst (λ (k : ℕ). AreCut (at + k) (drop (at + k) us) n.rest []) (same_size n.piece.units size (piece_size at (drop at us)) n.size size_is) n.ahead;
      left = sym (length-append more (indices_at us n.rest)) ∙ ap length joined ∙ length-append is (indices_at us (n.piece ∷ n.rest)) ∙ n.left;
      whole = λ cs cut. joined ∙ n.whole cs cut;
    }

append_none : (is js : List Index) → length js ≡ 0 → is ++ js ≡ is
append_none [] [] none = refl
append_none (i ∷ is) [] none = ap (λ (ks : List Index). i ∷ ks) (append_none is [] none)
append_none is (j ∷ js) none = absurd (omega (arith, none))

pub all_built : (us : List ℕ) (count at : ℕ) (is : List Index) → IndicesBuilt us count at is → count ≤ length is → AreTheIndices us is
all_built us count at is h all = λ cs cut. sym (append_none is (indices_at us h.rest) (omega (arith, all, h.left))) ∙ h.whole cs cut

-- ---- the whole

-- the bytes of the units
pub shape_units : (b : List ℕ) (off : ℕ) (m : Mentions) (s : PiecesShape) (rest bytes : List ℕ) → IsShapeAt b off m s → rest ≡ drop 16 (drop off b) → bytes ≡ take (2 * s.units) rest → AreUnitsAt b off bytes
shape_units b off m s rest bytes h following front =
    units_there b off s.units rest bytes (sym h.units ∙ sym (uint_after b off 12)) h.few h.room.aligned
    (subst (λ (n : ℕ). IsInData b off (16 + 2 * n)) h.units h.room.in_data) following front

pub shape_checked : (b : List ℕ) (off : ℕ) (m : Mentions) (s : PiecesShape) (bytes : List ℕ) → IsShapeAt b off m s → AreUnitsAt b off bytes → IsChecked (units_in bytes) m s.indices
shape_checked b off m s bytes h at = subst (λ (us : List ℕ). IsChecked us m s.indices) (sym at.units) h.checked

pub checked_have : (us : List ℕ) (m : Mentions) (count : ℕ) → IsChecked us m count → HaveIndices us count
checked_have us m count h = record { cuts = h.cuts; cut = h.code.cut; counted = h.counted }

pub built_read : (us : List ℕ) (m : Mentions) (count : ℕ) (is : List Index) → IsChecked us m count → AreTheIndices us is → AreCodeIndices us m is
built_read us m count is h are =
    let these : is ≡ indices_at us h.cuts = are h.cuts h.code.cut in record {
      cuts = h.cuts;
      code = h.code;
      read = record { are = these; in_range = h.in_range; fit = subst (All (FitsAt us)) (sym these) h.fit };
    }
