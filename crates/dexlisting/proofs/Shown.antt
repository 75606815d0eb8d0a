-- Pieces are listed as what they mean.
use Rattle.std.proofs.Common.{ℕ, ◌≡◌, ◌+◌, ◌*◌, ◌/◌, ◌%◌, ◌==◌, Bool, true, false, cond, Some, None, List, [], ◌∷◌, ◌++◌, length, map, refl, ap, sym, ◌∙◌, subst, arith, slice_set, length-append}
use Rattle.std.specs.Prelude.{All, slice_index, codes}
use Rattle.std.specs.List.{flat_map}
use Rattle.std.proofs.lemmas.List.{append-nil, length-set, length-map}
use Rattle.std.proofs.lemmas.List.Elements.{All-nil, All-cons, All-head, All-tail}
use Rattle.dexspec.specs.Bytes.{ushort}
use Rattle.dexspec.proofs.numbers.ByteNumbers.{length-ushort}
use Rattle.dexspec.specs.Mentions.{Mentions}
use Rattle.dexspec.specs.Pieces.{packed_switch_ident, sparse_switch_ident, element_width, element_count, is_wide_index, with_index}
use Rattle.dexspec.specs.Pieces as pieces
use Rattle.dexinsn.specs.Numbered.{NumberedPiece, Instruction, Payload, numbered_units, numbered_bytes, unit_count, IsKnownPiece, piece_in}
use Rattle.dexinsn.specs.declared.listing.Piece.{Piece}
use Rattle.dexinsn.specs.declared.listing.PieceKind.{PieceKind}
use Rattle.dexinsn.specs.declared.listing.PieceKind.TheVariants as kinds
use Rattle.dexinsn.specs.Listing.{units_of, kind_of, payload_shown, listed}
use Rattle.dexcode.specs.Numbered.{NumberedItem, NumberedTry, NumberedHandler, all_named, handlers_of}
use Rattle.dexcode.specs.declared.tries.Try.{Try}
use Rattle.dexcode.specs.Meaning.{code_in}
use Rattle.dexlisting.specs.Listing.{mnemonic_text, counts_line, code_lines, piece_lines, piece_text, payload_text}
use Rattle.dexout.specs.Printed.{place_text, count_text}
use Rattle.dexlisting.specs.internal.Known.{IsKnownKind, kind_text, listed_line}

either : (m : Mentions) (b : Bool) (x y : PieceKind) → IsKnownKind m x → IsKnownKind m y → IsKnownKind m (cond b x y)
either m true x y p q = p
either m false x y p q = q

payload_known : (m : Mentions) (us : List ℕ) → IsKnownKind m (payload_shown us)
payload_known m us =
    either m (slice_index us 0 == packed_switch_ident) (kinds.PackedSwitch (slice_index us 1)) (cond (slice_index us 0 == sparse_switch_ident) (kinds.SparseSwitch (slice_index us 1)) (kinds.ArrayData (element_width us) (element_count us))) tt
    (either m (slice_index us 0 == sparse_switch_ident) (kinds.SparseSwitch (slice_index us 1)) (kinds.ArrayData (element_width us) (element_count us)) tt tt)

kind_known : (m : Mentions) (p : NumberedPiece) → IsKnownPiece m p → IsKnownKind m (kind_of p)
kind_known m (Instruction us None) known = tt
kind_known m (Instruction us (Some n)) known = known.1
kind_known m (Payload us) known = payload_known m us

-- each piece of a listing has the number of a symbol
pub listed_known : (m : Mentions) (at : ℕ) (ps : List NumberedPiece) → All (IsKnownPiece m) ps → All (λ p. IsKnownKind m p.kind) (listed at ps)
listed_known m at [] known = All-nil (λ p. IsKnownKind m p.kind)
listed_known m at (p ∷ ps) known =
    All-cons (λ x. IsKnownKind m x.kind) (record { unit = at; units = length (units_of p); kind = kind_of p }) (listed (at + length (units_of p)) ps) (kind_known m p (All-head (IsKnownPiece m) p ps known))
    (listed_known m (at + length (units_of p)) ps (All-tail (IsKnownPiece m) p ps known))

chosen : (m : Mentions) (b : Bool) (x y : PieceKind) → kind_text m (cond b x y) ≡ cond b (kind_text m x) (kind_text m y)
chosen m true x y = refl
chosen m false x y = refl

kind_shown : (m : Mentions) (p : NumberedPiece) → kind_text m (kind_of p) ≡ piece_text (piece_in m p)
kind_shown m (Instruction us None) = append-nil (mnemonic_text us)
kind_shown m (Instruction us (Some n)) = refl
kind_shown m (Payload us) =
    chosen m (slice_index us 0 == packed_switch_ident) (kinds.PackedSwitch (slice_index us 1)) (cond (slice_index us 0 == sparse_switch_ident) (kinds.SparseSwitch (slice_index us 1)) (kinds.ArrayData (element_width us) (element_count us)))
    ∙ ap (λ z. cond (slice_index us 0 == packed_switch_ident) (count_text (codes "packed-switch-payload size=") (slice_index us 1)) z)
    (chosen m (slice_index us 0 == sparse_switch_ident) (kinds.SparseSwitch (slice_index us 1)) (kinds.ArrayData (element_width us) (element_count us)))

same_length : (m : Mentions) (p : NumberedPiece) → length (units_of p) ≡ length (pieces.units_of (piece_in m p))
same_length m (Instruction us None) = refl
same_length m (Instruction us (Some n)) = refl
same_length m (Payload us) = refl

-- the lines of pieces are those of what they mean
pub listed_shown : (m : Mentions) (at : ℕ) (ps : List NumberedPiece) → flat_map (listed_line m) (listed at ps) ≡ piece_lines at (map (piece_in m) ps)
unfolding listed_line
listed_shown m at [] = refl
listed_shown m at (p ∷ ps) =
    ap (λ k. (codes "    " ++ (place_text at ++ (codes ": " ++ (k ++ codes "\n")))) ++ flat_map (listed_line m) (listed (at + length (units_of p)) ps)) (kind_shown m p)
    ∙ ap (λ r. (codes "    " ++ (place_text at ++ (codes ": " ++ (piece_text (piece_in m p) ++ codes "\n")))) ++ r)
    (listed_shown m (at + length (units_of p)) ps ∙ ap (λ n. piece_lines (at + n) (map (piece_in m) ps)) (same_length m p))

pub indexed : (n : ℕ) (us : List ℕ) → length (with_index n us) ≡ length us
indexed n us = by_width (is_wide_index us) n us
  where
    by_width : (b : Bool) (n : ℕ) (us : List ℕ) → length (cond b (slice_set (slice_set us 1 (n % 65536)) 2 (n / 65536)) (slice_set us 1 n)) ≡ length us
    by_width true n us = length-set (slice_set us 1 (n % 65536)) 2 (n / 65536) ∙ length-set us 1 (n % 65536)
    by_width false n us = length-set us 1 n

same_count : (m : Mentions) (p : NumberedPiece) → length (numbered_units p) ≡ length (pieces.units_of (piece_in m p))
same_count m (Instruction us None) = refl
same_count m (Instruction us (Some n)) = indexed n us
same_count m (Payload us) = refl

-- they have as many units
pub units_counted : (m : Mentions) (ps : List NumberedPiece) → unit_count ps ≡ length (flat_map pieces.units_of (map (piece_in m) ps))
units_counted m [] = refl
units_counted m (p ∷ ps) = omega (arith, length-append (numbered_units p) (flat_map numbered_units ps), length-append (pieces.units_of (piece_in m p)) (flat_map pieces.units_of (map (piece_in m) ps)), same_count m p, units_counted m ps)

-- and tries that are stored are as many as those that they are
pub tries_counted : {X : Type 0} (f : NumberedTry → X) (stored : List Try) (tries : List NumberedTry) → ((hs : List NumberedHandler) → hs ≡ handlers_of tries → all_named hs stored ≡ tries) → length stored ≡ length (map f tries)
tries_counted f stored tries are = sym (length-map stored _) ∙ ap length (are (handlers_of tries) refl) ∙ sym (length-map tries f)

-- the lines of code are those of its counts and of its pieces
pub code_shown : (m : Mentions) (c : NumberedItem) → counts_line (code_in m c) ++ flat_map (listed_line m) (listed 0 c.body.pieces) ≡ code_lines (code_in m c)
code_shown m c = ap (λ r. counts_line (code_in m c) ++ r) (listed_shown m 0 c.body.pieces)

bytes_of_units : (us : List ℕ) → length (flat_map ushort us) ≡ 2 * length us
bytes_of_units [] = refl
bytes_of_units (u ∷ us) = omega (arith, length-append (ushort u) (flat_map ushort us), length-ushort u, bytes_of_units us)

-- each unit has two bytes
pub bytes_counted : (ps : List NumberedPiece) → length (numbered_bytes ps) ≡ 2 * unit_count ps
unfolding numbered_bytes
bytes_counted ps = bytes_of_units (flat_map numbered_units ps)

pub mapped : {X Y : Type 0} (f : Y → List ℕ) (h : X → Y) (xs : List X) → flat_map (λ x. f (h x)) xs ≡ flat_map f (map h xs)
mapped f h [] = refl
mapped f h (x ∷ xs) = ap (λ r. f (h x) ++ r) (mapped f h xs)
