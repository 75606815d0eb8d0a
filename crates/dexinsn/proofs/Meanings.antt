-- What numbers denote: ranks, and the same symbols under other numbers.
use Rattle.dexinsn.proofs.Common.{◌≡◌, ℕ, List, map, Some, refl, ap, sym, ◌∙◌, subst, ushort, All, AllZip, flat_map, Mentions, piece_symbols, with_index, AreRising, AreMarksOf, Maps, image_of, AllMapTo, HasMark, IsUseOf, NumberedPiece, Instruction, Denote, IsKnownPiece, piece_in, kind_in, piece_uses, uses_of, numbered_units, numbered_bytes, HasImage, renumbered_piece}
use Rattle.std.proofs.lemmas.List.Elements.{All-weaker}
use Rattle.std.specs.Prelude.{Result}
use Rattle.std.specs.Global.{Vec}
use Rattle.dexspec.specs.internal.Writing.{Puts}
use Rattle.std.specs.Option.{IsSome}
use Rattle.dexspec.specs.Pieces.{Piece}
use Rattle.dexspec.specs.Pieces as symbolic
use Rattle.dexspec.specs.Spellings.{piece_units}
use Rattle.dexpool.specs.NumberedSymbols.{symbol_of}
use Rattle.dexpool.specs.declared.marks.Marks.{Marks}
use Rattle.dexpool.proofs.Numbers.{number_ranked, number_keeps, number_used, some_of, all_used, flat_mapped, all_kept, all_marked}
use Rattle.dexpool.proofs.KeptTables.{all_both}
use Rattle.dexinsn.specs.Numbered.{HasPlace}

piece_is : (m : Mentions) → AreRising m → (p : NumberedPiece) → IsKnownPiece m p → piece_units m (piece_in m p) ≡ numbered_units p
piece_is m rising (Instruction us (Some n)) h = ap (λ (k : ℕ). with_index k us) (number_ranked m rising (kind_in us) n h.1)
piece_is m rising _ h = refl

-- the units are those of the symbolic pieces, where each index is the rank of its symbol
pub units_are : (m : Mentions) (ps : List NumberedPiece) (qs : List Piece) → AreRising m → Denote m ps qs → flat_map numbered_units ps ≡ flat_map (piece_units m) qs
units_are m ps qs rising h = sym (flat_mapped (IsKnownPiece m) (piece_units m) (piece_in m) numbered_units (piece_is m rising) ps h.known) ∙ ap (flat_map (piece_units m)) h.mean

-- ---- other numbers

piece_kept : (m n : Mentions) (r : Maps) → AllMapTo m n r → (p : NumberedPiece) → IsKnownPiece m p × HasImage r p → IsKnownPiece n (renumbered_piece r p) × (piece_in n (renumbered_piece r p) ≡ piece_in m p)
piece_kept m n r l (Instruction us (Some i)) h =
    let image = some_of (image_of r (kind_in us) i) h.1 in
    let kept = number_keeps m n r l (kind_in us) i image.0 image.1 in
    subst (λ o. IsKnownPiece n (Instruction us o) × (piece_in n (Instruction us o) ≡ piece_in m (Instruction us (Some i)))) (sym image.1)
    ((h.0.0, kept.0), ap (λ x. symbolic.Instruction us (Some (symbol_of (kind_in us) x))) kept.1)
piece_kept m n r l _ h = (tt, refl)

-- the pieces denote the same symbolic ones
pub renumbered_denote : (m n : Mentions) (r : Maps) (ps : List NumberedPiece) (qs : List Piece) → AllMapTo m n r → All (HasImage r) ps → Denote m ps qs → Denote n (map (renumbered_piece r) ps) qs
renumbered_denote m n r ps qs l images h =
    let kept = all_kept (IsKnownPiece n) (piece_in n) (λ p. IsKnownPiece m p × HasImage r p) (renumbered_piece r) (piece_in m) (piece_kept m n r l) ps (all_both (IsKnownPiece m) (HasImage r) (λ p. IsKnownPiece m p × HasImage r p) ps h.known images (λ p k i. (k, i))) in
    record { known = kept.0; mean = kept.1 ∙ h.mean }

image_of_place : (r : Maps) (p : NumberedPiece) → HasPlace r p → HasImage r p
image_of_place r (Instruction us (Some i)) h = subst IsSome (sym h.1) refl
image_of_place r _ h = tt

-- numbers that have places have images
pub images_of_places : (r : Maps) (ps : List NumberedPiece) → All (HasPlace r) ps → All (HasImage r) ps
images_of_places r ps h = All-weaker (HasPlace r) (HasImage r) (image_of_place r) ps h

-- ---- the symbols that occur

piece_used : (m : Mentions) (p : NumberedPiece) → IsKnownPiece m p → AllZip (IsUseOf m) (piece_uses p) (piece_symbols (piece_in m p))
piece_used m (Instruction us (Some i)) h = (number_used m (kind_in us) i h.1, tt)
piece_used m _ h = tt

-- the symbols that occur are those of the symbolic pieces, one for one
pub uses_encoded : (m : Mentions) (ps : List NumberedPiece) (qs : List Piece) → Denote m ps qs → AllZip (IsUseOf m) (uses_of ps) (flat_map piece_symbols qs)
uses_encoded m ps qs h = subst (λ ys. AllZip (IsUseOf m) (uses_of ps) (flat_map piece_symbols ys)) h.mean (all_used (IsKnownPiece m) (piece_in m) m piece_uses piece_symbols (piece_used m) ps h.known)

-- so are the bytes
pub bytes_put : {T E : Type 0} (m : Mentions) (ps : List NumberedPiece) (qs : List Piece) (old new : Vec ℕ) (r : Result T E) → flat_map numbered_units ps ≡ flat_map (piece_units m) qs → Puts (numbered_bytes ps) old new r → Puts (flat_map ushort (flat_map (piece_units m) qs)) old new r
unfolding numbered_bytes
bytes_put m ps qs old new r e h = subst (λ us. Puts (flat_map ushort us) old new r) e h

-- there is a mark for each symbol that occurs
pub marks_there : (m : Mentions) (marks : Marks) (ps : List NumberedPiece) (qs : List Piece) → AreMarksOf m marks → Denote m ps qs → All (HasMark marks) (uses_of ps)
marks_there m marks ps qs are h = all_marked m marks (uses_of ps) (flat_map piece_symbols qs) are (uses_encoded m ps qs h)
