-- Upper bounds on the bytes of class data and directories, by the numbers of members.
use Rattle.dexspec.proofs.Common.{ℕ, ◌+◌, ◌*◌, ◌≤◌, Bool, true, false, List, [], ◌∷◌, ◌++◌, map, length, take, drop, Option, Some, None, arith, flat_map, if◌then◌else◌, ◌==◌, length-append, slice_index, zip, IfSome, concat, Ordering, Greater, length-flat_map, Mentions}
use Rattle.std.specs.FinMap.Entries.{by_order}
use Rattle.dexspec.specs.{zip_with, add_in_order, in_order, uint, uleb128, Text, FieldDef, MethodDef, Definition, declared_fields, declared_methods, field_of, method_of, field_index, method_index, differences, encoded_fields_bytes, encoded_method_bytes, encoded_methods_bytes, class_data_bytes, SetOffsets, pair_cmp, pairs, pairs_bytes, directory_bytes}
use Rattle.dexspec.proofs.numbers.ByteNumbers.{length-uint}
use Rattle.dexspec.proofs.size.SizeSums.{or_zero, sum_by-at_most, sum_by-zip_with, map-length, length-concat}
use Rattle.dexspec.proofs.size.SizeItems.{uleb128-size}

-- ---- class data

-- items from two lists, each of at most k bytes
pub zipped-size : {X Y : Type 0} (g : X → Y → List ℕ) (k : ℕ) (xs : List X) (ys : List Y) → ((x : X) (y : Y) → length (g x y) ≤ k) → length (concat (zip_with g xs ys)) ≤ length xs * k
zipped-size g k xs ys le =
    let each = sum_by-zip_with (λ (b : List ℕ). length b) (λ x. k) g xs ys le in
    let all = sum_by-at_most (λ x. k) k xs (λ x. omega arith) in
    omega (arith, length-concat (zip_with g xs ys), each, all)

pub fields-size : (m : Mentions) (class : Text) (fs : List FieldDef) → length (encoded_fields_bytes m class fs) ≤ length fs * 10
fields-size m class fs =
    zipped-size (λ (f : FieldDef) (difference : ℕ). uleb128 difference ++ uleb128 f.flags) 10 fs (differences 0 (map (λ f. field_index m (field_of class f)) fs))
    (λ f difference. omega (arith, length-append (uleb128 difference) (uleb128 f.flags), uleb128-size difference, uleb128-size f.flags))

method-size : (x : MethodDef) (p : ℕ × ℕ) → length (encoded_method_bytes x p) ≤ 15
method-size x p = omega (arith, length-append (uleb128 p.0) (uleb128 x.flags ++ uleb128 p.1), length-append (uleb128 x.flags) (uleb128 p.1), uleb128-size p.0, uleb128-size x.flags, uleb128-size p.1)

pub methods-size : (m : Mentions) (class : Text) (xs : List MethodDef) (offs : List ℕ) → length (encoded_methods_bytes m class xs offs) ≤ length xs * 15
methods-size m class xs offs = zipped-size encoded_method_bytes 15 xs (zip (differences 0 (map (λ x. method_index m (method_of class x)) xs)) offs) method-size

pub class_data_bytes-size : (m : Mentions) (d : Definition) (offs : List ℕ) → length (class_data_bytes m d offs) ≤ 20 + 10 * length (declared_fields d.1) + 15 * length (declared_methods d.1)
unfolding class_data_bytes
class_data_bytes-size m (name, c) offs =
    let direct = methods-size m name c.direct_methods (take (length c.direct_methods) offs) in
    let virtual = methods-size m name c.virtual_methods (drop (length c.direct_methods) offs) in
    omega (arith, length-append {A = ℕ}, length-append {A = FieldDef}, length-append {A = MethodDef}, uleb128-size, fields-size m name c.static_fields, fields-size m name c.instance_fields, direct, virtual)

-- ---- directories

ordered-size : {K : Type 0} (o : Ordering) (k x : K) (xs ys : List K) → length ys ≤ length xs + 1 → length (by_order o (k ∷ x ∷ xs) (x ∷ xs) (x ∷ ys)) ≤ length xs + 2
ordered-size Greater k x xs ys h = omega (arith, h)
ordered-size _ k x xs ys h = omega arith

module _ {K : Type 0} (R : K → K → Ordering) where
  add_in_order-size : (k : K) (xs : List K) → length (add_in_order R k xs) ≤ length xs + 1
  add_in_order-size k [] = omega arith
  add_in_order-size k (x ∷ xs) = let h = ordered-size (R k x) k x xs (add_in_order R k xs) (add_in_order-size k xs) in omega (arith, h)

  pub in_order-size : (xs : List K) → length (in_order R xs) ≤ length xs
  in_order-size [] = omega arith
  in_order-size (x ∷ xs) = omega (arith, add_in_order-size x (in_order R xs), in_order-size xs)

zip-size : {X Y : Type 0} (xs : List X) (ys : List Y) → length (zip xs ys) ≤ length xs
zip-size (x ∷ xs) (y ∷ ys) = omega (arith, zip-size xs ys)
zip-size _ _ = omega arith

kept-size : (b : Bool) (p : ℕ × ℕ) → length (if b then [] else p ∷ []) ≤ 1
kept-size true p = omega arith
kept-size false p = omega arith

pub pairs-size : (indices offs : List ℕ) → length (pairs indices offs) ≤ length indices
pairs-size indices offs =
    let keep = λ (p : ℕ × ℕ). if p.1 == 0 then [] else p ∷ [] in
    let each = sum_by-at_most (λ (p : ℕ × ℕ). length (keep p)) 1 (zip indices offs) (λ p. kept-size (p.1 == 0) p) in
    omega (arith, in_order-size pair_cmp (flat_map keep (zip indices offs)), length-flat_map keep (zip indices offs), each, zip-size indices offs)

pairs_bytes-size : (ps : List (ℕ × ℕ)) → length (pairs_bytes ps) ≤ length ps * 8
pairs_bytes-size ps =
    let pair = λ (p : ℕ × ℕ). uint p.0 ++ uint p.1 in
    let each = sum_by-at_most (λ (p : ℕ × ℕ). length (pair p)) 8 ps (λ p. omega (arith, length-append (uint p.0) (uint p.1), length-uint p.0, length-uint p.1)) in
    omega (arith, length-flat_map pair ps, each)

unless-size : (b : Bool) (n : ℕ) (xs : List ℕ) → length xs ≤ n → or_zero (λ (x : List ℕ). length x) (if b then None else Some xs) ≤ n
unless-size true n xs h = omega arith
unless-size false n xs h = h

parts-size : (own : ℕ) (a b c : List (ℕ × ℕ))
    → length (uint own ++ (uint (length a) ++ (uint (length b) ++ (uint (length c) ++ (pairs_bytes a ++ (pairs_bytes b ++ pairs_bytes c)))))) ≤ 16 + 8 * length a + 8 * length b + 8 * length c
parts-size own a b c = omega (arith, length-append {A = ℕ}, length-uint, pairs_bytes-size a, pairs_bytes-size b, pairs_bytes-size c)

pub directory_bytes-size : (m : Mentions) (d : Definition) (sets : SetOffsets) (refs : List ℕ) → or_zero (λ (x : List ℕ). length x) (directory_bytes m d sets refs) ≤ 16 + 8 * length (declared_fields d.1) + 16 * length (declared_methods d.1)
directory_bytes-size m (name, c) sets refs =
    let field_indices = map (λ f. field_index m (field_of name f)) (declared_fields c) in
    let method_indices = map (λ x. method_index m (method_of name x)) (declared_methods c) in
    let a = pairs field_indices sets.fields in
    let b = pairs method_indices (map (λ (offs : List ℕ). slice_index offs 0) sets.methods) in
    let p = pairs method_indices refs in
    unless-size (sets.own + (length a + (length b + length p)) == 0) (16 + 8 * length (declared_fields c) + 16 * length (declared_methods c)) _
    (omega (arith, parts-size sets.own a b p, pairs-size, map-length (λ f. field_index m (field_of name f)) (declared_fields c), map-length (λ x. method_index m (method_of name x)) (declared_methods c)))

some-within : (n : ℕ) (o : Option (List ℕ)) → or_zero (λ (x : List ℕ). length x) o ≤ n → IfSome o (λ bytes. length bytes ≤ n)
some-within n None h = tt
some-within n (Some bytes) h = h

-- a directory that is present
pub directory-size : (m : Mentions) (d : Definition) (sets : SetOffsets) (refs : List ℕ) → IfSome (directory_bytes m d sets refs) (λ bytes. length bytes ≤ 16 + 8 * length (declared_fields d.1) + 16 * length (declared_methods d.1))
directory-size m d sets refs = some-within (16 + 8 * length (declared_fields d.1) + 16 * length (declared_methods d.1)) (directory_bytes m d sets refs) (directory_bytes-size m d sets refs)
