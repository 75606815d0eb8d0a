-- Annotation sets and ref lists are at the offset of their canonical bytes, if their members are at their offsets.
use Rattle.dexspec.proofs.Common.{◌≡◌, ℕ, ◌+◌, ◌-◌, ◌*◌, ◌%◌, ◌^◌, ◌<◌, ◌≤◌, List, [], ◌∷◌, length, map, refl, ap, subst, sym, ◌∙◌, arith, inl, inr, IsTrue, flat_map, AllZip, length-append}
use Rattle.dexspec.specs.{rises, OrNone, uint, uint_at, uints_at, BytesAt, text_cmp, data_off, IsInData, Annotation, AnnotationSet, AnnotationAt, SetAt, RefListAt, offsets_bytes}
use Rattle.dexspec.proofs.written.PlacedBytes.{is_at_within, is_at, length_rows}
use Rattle.dexspec.proofs.numbers.ByteNumbers.{length-uint, uint_at-encodes}
use Rattle.dexspec.proofs.written.NumbersWritten.{prefix_is_at, suffix_is_at}

-- offsets of items are read back
offsets_read : {X : Type 0} (R : ℕ → X → Type 0) → ((p : ℕ) (x : X) → R p x → p < 2 ^ 32) → (b : List ℕ) (o : ℕ) (offs : List ℕ) (xs : List X) → AllZip R offs xs → BytesAt b o (flat_map uint offs) → uints_at b o (length offs) ≡ offs
offsets_read R small b o [] [] are h = refl
offsets_read R small b o [] (x ∷ xs) are h = absurd are
offsets_read R small b o (p ∷ offs) [] are h = absurd are
offsets_read R small b o (p ∷ offs) (x ∷ xs) are h =
    let rest = flat_map uint offs in
    let first : uint_at b o ≡ p = uint_at-encodes (small p x are.0) (prefix_is_at (uint p) rest h) in
    let others : uints_at b (o + 4) (length offs) ≡ offs = offsets_read R small b (o + 4) offs xs are.1 (is_at (omega (arith, length-uint p)) (suffix_is_at (uint p) rest h)) in
    ap (λ n. n ∷ uints_at b (o + 4) (length offs)) first ∙ ap (λ l. p ∷ l) others

-- a count and offsets that were written in the data are read back
record OffsetsAt (b : List ℕ) (o : ℕ) (offs : List ℕ) : Type 0 where
  in_data : IsInData b o (4 + 4 * uint_at b o)
  are : uints_at b (o + 4) (uint_at b o) ≡ offs

offsets_written : {X : Type 0} (R : ℕ → X → Type 0) → ((p : ℕ) (x : X) → R p x → p < 2 ^ 32) → (b : List ℕ) (o : ℕ) (offs : List ℕ) (xs : List X) → length b < 2 ^ 32 → data_off b ≤ o → AllZip R offs xs
    → BytesAt b o (offsets_bytes offs) → OffsetsAt b o offs
offsets_written R small b o offs xs short following are h =
    let rest = flat_map uint offs in
    let size : length (offsets_bytes offs) ≡ 4 + 4 * length offs = omega (arith, length-append (uint (length offs)) rest, length-uint (length offs), length_rows uint 4 length-uint offs) in
    let within : 4 + 4 * length offs ≤ length b - o = omega (arith, size, is_at_within h) in
    let count : uint_at b o ≡ length offs = uint_at-encodes (omega (arith, within)) (prefix_is_at (uint (length offs)) rest h) in
    let after_count : BytesAt b (o + 4) rest = is_at (omega (arith, length-uint (length offs))) (suffix_is_at (uint (length offs)) rest h) in
    record {
      in_data = record { following = following; within = omega (arith, within, count) };
      are = ap (uints_at b (o + 4)) count ∙ offsets_read R small b (o + 4) offs xs are after_count;
    }

module _ (b : List ℕ) (short : length b < 2 ^ 32) where
  -- the offset of an annotation has 32 bits
  annotation_small : (p : ℕ) (a : Annotation) → AnnotationAt b p a → p < 2 ^ 32
  annotation_small p a h = omega (arith, is_at_within h.visibility, short)

  -- the offset of a set, or 0, has 32 bits
  pub set_small : (p : ℕ) (s : AnnotationSet) → OrNone SetAt [] b p s → p < 2 ^ 32
  set_small p s (inl h) = omega (arith, h.0)
  set_small p s (inr h) = omega (arith, h.1.in_data.within, short)

  -- a set is at an offset, if its annotations are at their offsets
  pub set_written : (o : ℕ) (offs : List ℕ) (set : AnnotationSet) → data_off b ≤ o → o % 4 ≡ 0 → AllZip (AnnotationAt b) offs set → IsTrue (rises text_cmp (map (λ a. a.type) set)) → BytesAt b o (offsets_bytes offs) → SetAt b o set
  set_written o offs set following aligned are rise h =
      let read = offsets_written (AnnotationAt b) annotation_small b o offs set short following are h in
      record { in_data = read.in_data; aligned = aligned; annotations = subst (λ ps. AllZip (AnnotationAt b) ps set) (sym read.are) are; rise = rise }

  -- a ref list is at an offset, if its sets are at their offsets
  pub ref_list_written : (o : ℕ) (offs : List ℕ) (list : List AnnotationSet) → data_off b ≤ o → o % 4 ≡ 0 → AllZip (OrNone SetAt [] b) offs list → BytesAt b o (offsets_bytes offs) → RefListAt b o list
  ref_list_written o offs list following aligned are h =
      let read = offsets_written (OrNone SetAt [] b) set_small b o offs list short following are h in
      record { in_data = read.in_data; aligned = aligned; sets = subst (λ ps. AllZip (OrNone SetAt [] b) ps list) (sym read.are) are }
