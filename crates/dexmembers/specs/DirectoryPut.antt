-- Annotations directories as they are put: pairs of an index and an offset, those of two lists merged.
use Rattle.std.specs.Prelude.{ℕ, ◌+◌, nat_lt, if◌then◌else◌, ◌==◌, List, [], ◌∷◌, ◌++◌, map, length, take, drop, ◌≡◌}
use Rattle.std.specs.Prelude.{◌≤◌, ◌*◌, vec_capacity, vec_len}
use Rattle.std.specs.List.{flat_map, zip}
use Rattle.std.specs.Global.{Vec}
use Rattle.dexspec.specs.Bytes.{uint}
use Rattle.dexmembers.specs.Numbered.{NumberedField, NumberedMethod, NumberedMembers}

-- a pair in its place among others, and the rest of its list after it
abbrev pub put_among : ℕ × ℕ → (List (ℕ × ℕ) → List (ℕ × ℕ)) → List (ℕ × ℕ) → List (ℕ × ℕ)
put_among p rest [] = p ∷ rest []
put_among p rest (q ∷ qs) = if nat_lt p.0 q.0 then p ∷ rest (q ∷ qs) else q ∷ put_among p rest qs

-- two lists of pairs in one, that of the lesser index first
abbrev pub merged : List (ℕ × ℕ) → List (ℕ × ℕ) → List (ℕ × ℕ)
merged [] qs = qs
merged (p ∷ ps) qs = put_among p (merged ps) qs

-- the pair, unless its offset is 0
abbrev pub kept_pair : ℕ × ℕ → List (ℕ × ℕ)
kept_pair p = if p.1 == 0 then [] else p ∷ []

-- the bytes of a pair, unless its offset is 0
abbrev pub pair_bytes : ℕ × ℕ → List ℕ
pair_bytes p = if p.1 == 0 then [] else uint p.0 ++ uint p.1

-- how many offsets are not 0
abbrev pub count_placed : List ℕ → ℕ
count_placed [] = 0
count_placed (o ∷ os) = (if o == 0 then 0 else 1) + count_placed os

-- pairs of the members of two lists, with the offsets for the first and then for the second
abbrev pub pairs_of_both : List ℕ → List ℕ → List ℕ → List (ℕ × ℕ)
pairs_of_both is js offs = merged (zip is (take (length is) offs)) (zip js (drop (length is) offs))

-- the bytes of those with offsets that are not 0
abbrev pub both_bytes : List ℕ → List ℕ → List ℕ → List ℕ
both_bytes is js offs = flat_map pair_bytes (pairs_of_both is js offs)

-- the same of the members of two lists, by their numbers
abbrev pub both_bytes_by : {X : Type 0} → (X → ℕ) → List X → List X → List ℕ → List ℕ
both_bytes_by number_of xs ys offs = both_bytes (map number_of xs) (map number_of ys) offs

-- the numbers of fields
abbrev pub field_numbers : List NumberedField → List ℕ
field_numbers fs = map (λ f. f.number) fs

-- the numbers of methods
abbrev pub method_numbers : List NumberedMethod → List ℕ
method_numbers xs = map (λ x. x.number) xs

-- an annotations_directory_item, from the offset of the class's own set and those of the sets of its fields, of its
-- methods, and of the lists of sets of its methods' parameters
abbrev pub numbered_directory_bytes : NumberedMembers → ℕ → List ℕ → List ℕ → List ℕ → List ℕ
numbered_directory_bytes x own field_offs method_offs parameter_offs =
    uint own
    ++ (uint (count_placed field_offs) ++ (uint (count_placed method_offs) ++ (uint (count_placed parameter_offs)
    ++ (both_bytes (field_numbers x.static_fields) (field_numbers x.instance_fields) field_offs
    ++ (both_bytes (method_numbers x.direct_methods) (method_numbers x.virtual_methods) method_offs
    ++ both_bytes (method_numbers x.direct_methods) (method_numbers x.virtual_methods) parameter_offs)))))

-- ---- its parts

-- the pairs of the fields
abbrev pub field_pairs_bytes : NumberedMembers → List ℕ → List ℕ
field_pairs_bytes x offs = both_bytes (field_numbers x.static_fields) (field_numbers x.instance_fields) offs

-- pairs of the methods
abbrev pub method_pairs_bytes : NumberedMembers → List ℕ → List ℕ
method_pairs_bytes x offs = both_bytes (method_numbers x.direct_methods) (method_numbers x.virtual_methods) offs

-- the length is that of the directory with these offsets, wherever the class's own set is
abbrev pub IsDirectoryLen : NumberedMembers → List ℕ → List ℕ → List ℕ → ℕ → Type 0
IsDirectoryLen x field_offs method_offs parameter_offs len =
    (own : ℕ) → len ≡ length (numbered_directory_bytes x own field_offs method_offs parameter_offs)

-- there is spare room of 16 bytes, and of eight for each offset that is not 0
abbrev pub HasDirectoryRoom : List ℕ → List ℕ → List ℕ → Vec ℕ → Type 0
HasDirectoryRoom field_offs method_offs parameter_offs old =
    vec_len old + (16 + 8 * (count_placed field_offs + count_placed method_offs + count_placed parameter_offs))
    ≤ vec_capacity old
