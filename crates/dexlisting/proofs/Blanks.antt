-- Pieces in a full listing are listed as what they mean.
use Rattle.std.proofs.Common.{ℕ, suc, zero, ◌≡◌, ◌+◌, ◌*◌, ◌<◌, ◌≤◌, ◌==◌, Bool, true, false, cond, Some, None, List, [], ◌∷◌, ◌++◌, length, map, take, drop, refl, ap, sym, ◌∙◌, subst, arith, append_assoc, append-nil, length-append}
use Rattle.std.specs.Prelude.{All, codes, slice_index}
use Rattle.std.specs.List.{flat_map}
use Rattle.std.proofs.lemmas.Grind.{flat_map-append}
use Rattle.std.proofs.Math.Seq.{drop-append_seam, take-append_seam}
use Rattle.std.proofs.lemmas.List.Elements.{All-nil, All-cons}
use Rattle.dexspec.specs.Mentions.{Mentions}
use Rattle.dexspec.specs.Pieces.{packed_switch_ident, sparse_switch_ident, element_width, element_count, int_in, ints_in}
use Rattle.dexspec.specs.Pieces as pieces
use Rattle.dexinsn.specs.declared.listing.Piece.{Piece}
use Rattle.dexinsn.specs.declared.listing.PieceKind.{PieceKind}
use Rattle.dexinsn.specs.declared.listing.PieceKind.TheVariants as kinds
use Rattle.dexinsn.specs.Listing.{units_of, kind_of, listed}
use Rattle.dexout.specs.Printed.{place_text, count_text}
use Rattle.dexlisting.specs.FullListing.{signed_text, literal_text, offsets_text, keys_text, units_text, instruction_text, entries_text, full_piece_text, full_piece_line, full_piece_lines}
use Rattle.dexlisting.specs.internal.FullPieces.{packed_entries, sparse_entries, full_kind_text, full_listed_line}
use Rattle.dexinsn.specs.Numbered.{NumberedPiece, Instruction, Payload, numbered_units, unit_count, piece_in}
use Rattle.dexinsn.specs.Blank.{blank_units}
use Rattle.dexlisting.proofs.Shown.{indexed}

same_blank : (p : NumberedPiece) → length (numbered_units p) ≡ length (blank_units p)
same_blank (Instruction us None) = refl
same_blank (Instruction us (Some n)) = indexed n us
same_blank (Payload us) = refl

blank_is : (p : NumberedPiece) → blank_units p ≡ units_of p
blank_is (Instruction us n) = refl
blank_is (Payload us) = refl

-- the units are as many, if those of an index are zero
pub blanks_counted : (ps : List NumberedPiece) → unit_count ps ≡ length (flat_map blank_units ps)
blanks_counted [] = refl
blanks_counted (p ∷ ps) = omega (arith, length-append (numbered_units p) (flat_map numbered_units ps), length-append (blank_units p) (flat_map blank_units ps), same_blank p, blanks_counted ps)

-- the units of a piece are within those of all
pub listed_within : (n at : ℕ) (ps : List NumberedPiece) → at + length (flat_map blank_units ps) ≤ n → All (λ p. p.unit + p.units ≤ n) (listed at ps)
listed_within n at [] few = All-nil (λ (p : Piece). p.unit + p.units ≤ n)
listed_within n at (p ∷ ps) few =
    let more = length-append (blank_units p) (flat_map blank_units ps) in
    let same = blank_is p in
    All-cons (λ (x : Piece). x.unit + x.units ≤ n) (record { unit = at; units = length (units_of p); kind = kind_of p }) (listed (at + length (units_of p)) ps)
    (omega (arith, few, more, ap length same)) (listed_within n (at + length (units_of p)) ps (omega (arith, few, more, ap length same)))

-- ---- numbers of payloads

ints_next : (us : List ℕ) (at n : ℕ) → ints_in us at (suc n) ≡ ints_in us at n ++ (int_in us (at + 2 * n) ∷ [])
ints_next us at zero = let e : at + 2 * 0 ≡ at = omega arith in rw e refl
ints_next us at (suc n) = let e : at + 2 + 2 * n ≡ at + 2 * suc n = omega arith in ap (λ zs. int_in us at ∷ zs) (ints_next us (at + 2) n ∙ ap (λ k. ints_in us (at + 2) n ++ (int_in us k ∷ [])) e)

ints_more : (us : List ℕ) (at n : ℕ) → ints_in us at (n + 1) ≡ ints_in us at n ++ (int_in us (at + 2 * n) ∷ [])
ints_more us at n = let e : n + 1 ≡ suc n = omega arith in ap (ints_in us at) e ∙ ints_next us at n

-- with one distance more
pub offsets_more : (us : List ℕ) (at n : ℕ) → offsets_text (ints_in us at (n + 1)) ≡ offsets_text (ints_in us at n) ++ (codes " " ++ signed_text (int_in us (at + 2 * n)))
offsets_more us at n =
    ap offsets_text (ints_more us at n) ∙ flat_map-append (λ z. codes " " ++ signed_text z) (ints_in us at n) (int_in us (at + 2 * n) ∷ [])
    ∙ ap (λ r. offsets_text (ints_in us at n) ++ r) (append-nil (codes " " ++ signed_text (int_in us (at + 2 * n))))

-- with one key more
pub keys_more : (us : List ℕ) (at n : ℕ) → keys_text (ints_in us at (n + 1)) ≡ keys_text (ints_in us at n) ++ (codes " " ++ literal_text (int_in us (at + 2 * n)))
keys_more us at n =
    ap keys_text (ints_more us at n) ∙ flat_map-append (λ z. codes " " ++ literal_text z) (ints_in us at n) (int_in us (at + 2 * n) ∷ [])
    ∙ ap (λ r. keys_text (ints_in us at n) ++ r) (append-nil (codes " " ++ literal_text (int_in us (at + 2 * n))))

-- ---- what is listed

by_ident : (m : Mentions) (at : ℕ) (us : List ℕ) (b c : Bool) (s w n : ℕ) →
    full_kind_text m (cond b (kinds.PackedSwitch s) (cond c (kinds.SparseSwitch s) (kinds.ArrayData w n))) at us
    ≡ cond b (count_text (codes "packed-switch-payload size=") s) (cond c (count_text (codes "sparse-switch-payload size=") s) (count_text (codes "fill-array-data-payload width=") w ++ count_text (codes " size=") n))
    ++ cond b (packed_entries us s) (cond c (sparse_entries us s) [])
by_ident m at us true c s w n = refl
by_ident m at us false true s w n = refl
by_ident m at us false false s w n = sym (append-nil (count_text (codes "fill-array-data-payload width=") w ++ count_text (codes " size=") n))

full_kind_shown : (m : Mentions) (at : ℕ) (p : NumberedPiece) → full_kind_text m (kind_of p) at (blank_units p) ≡ full_piece_text at (piece_in m p)
unfolding instruction_text entries_text
full_kind_shown m at (Instruction us None) = refl
full_kind_shown m at (Instruction us (Some n)) = refl
full_kind_shown m at (Payload us) = by_ident m at us (slice_index us 0 == packed_switch_ident) (slice_index us 0 == sparse_switch_ident) (slice_index us 1) (element_width us) (element_count us)

same_units : (m : Mentions) (p : NumberedPiece) → pieces.units_of (piece_in m p) ≡ blank_units p
same_units m (Instruction us None) = refl
same_units m (Instruction us (Some n)) = refl
same_units m (Payload us) = refl

full_line_shown : (m : Mentions) (method all : List ℕ) (at : ℕ) (p : NumberedPiece) → take (length (units_of p)) (drop at all) ≡ blank_units p
    → full_listed_line m method all (record { unit = at; units = length (units_of p); kind = kind_of p }) ≡ full_piece_line method at (piece_in m p)
unfolding full_listed_line full_piece_line
full_line_shown m method all at p are =
    ap (λ us. codes "    " ++ (place_text at ++ (codes ": " ++ (units_text us ++ (codes "| " ++ (full_kind_text m (kind_of p) at us ++ (codes "\t" ++ (method ++ codes "\n")))))))) are
    ∙ ap (λ k. codes "    " ++ (place_text at ++ (codes ": " ++ (units_text (blank_units p) ++ (codes "| " ++ (k ++ (codes "\t" ++ (method ++ codes "\n")))))))) (full_kind_shown m at p)
    ∙ ap (λ us. codes "    " ++ (place_text at ++ (codes ": " ++ (units_text us ++ (codes "| " ++ (full_piece_text at (piece_in m p) ++ (codes "\t" ++ (method ++ codes "\n")))))))) (sym (same_units m p))

-- the lines of pieces after some units are those of what they mean
full_listed_after : (m : Mentions) (method before : List ℕ) (ps : List NumberedPiece)
    → flat_map (full_listed_line m method (before ++ flat_map blank_units ps)) (listed (length before) ps) ≡ full_piece_lines method (length before) (map (piece_in m) ps)
full_listed_after m method before [] = refl
full_listed_after m method before (p ∷ ps) =
    let us = blank_units p in
    let rest = flat_map blank_units ps in
    let all = before ++ (us ++ rest) in
    let many : length (units_of p) ≡ length us = sym (ap length (blank_is p)) in
    let here : take (length (units_of p)) (drop (length before) all) ≡ us = ap (λ n. take n (drop (length before) all)) many ∙ ap (take (length us)) (drop-append_seam before (us ++ rest)) ∙ take-append_seam us rest in
    let place : length before + length (units_of p) ≡ length (before ++ us) = omega (arith, many, length-append before us) in
    let counted : length before + length (pieces.units_of (piece_in m p)) ≡ length (before ++ us) = omega (arith, ap length (same_units m p), length-append before us) in
    ap (λ line. line ++ flat_map (full_listed_line m method all) (listed (length before + length (units_of p)) ps)) (full_line_shown m method all (length before) p here)
    ∙ ap (λ r. full_piece_line method (length before) (piece_in m p) ++ r)
    (ap (λ n. flat_map (full_listed_line m method all) (listed n ps)) place
    ∙ ap (λ xs. flat_map (full_listed_line m method xs) (listed (length (before ++ us)) ps)) (sym (append_assoc before us rest))
    ∙ full_listed_after m method (before ++ us) ps
    ∙ ap (λ n. full_piece_lines method n (map (piece_in m) ps)) (sym counted))

-- the lines of pieces are those of what they mean
pub full_listed_shown : (m : Mentions) (method : List ℕ) (ps : List NumberedPiece)
    → flat_map (full_listed_line m method (flat_map blank_units ps)) (listed 0 ps) ≡ full_piece_lines method 0 (map (piece_in m) ps)
full_listed_shown m method ps = full_listed_after m method [] ps
