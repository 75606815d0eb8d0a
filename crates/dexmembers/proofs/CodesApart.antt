-- What members weigh, by their code and by all else.
use Rattle.dexmembers.proofs.Common.{◌≡◌, ℕ, ◌+◌, ◌-◌, ◌^◌, min, List, [], ◌∷◌, ◌++◌, length, map, refl, ap, ◌∙◌, arith, sum_by, Option, map-append, sum_by-cons, sum_by-append, option_to_list, zip_with, NumberedItem, NumberedSet, NumberedDirectory, NumberedValues}
use Rattle.dexspec.proofs.size.SizeSums.{sum_by-map}
use Rattle.dexmembers.specs.{NumberedMethod, NumberedMembers, methods_of, numbered_whole_weight, numbered_method_weight, numbered_members_weight, codes_weight, codes_of, method_code_weight, own_method_weight, own_members_weight}
use Rattle.dexmembers.specs.internal.Attaching.{method_with}
use Rattle.dexmembers.specs.internal.RowParts.{attached}
use Rattle.dexmembers.specs.declared.class_data.EncodedMethod.{EncodedMethod as MethodRead}
use Rattle.dexmembers.specs.declared.class_data.ClassData.{ClassData as DataRead}

-- the code of a method, if it has some
abbrev code_of : NumberedMethod → Option NumberedItem
code_of x = x.code

-- what code weighs with its debug program, if there is some
abbrev optional_weight : Option NumberedItem → ℕ
optional_weight code = sum_by numbered_whole_weight (option_to_list code)

-- code of two lists
pub codes_append : (xs ys : List (Option NumberedItem)) → codes_weight (xs ++ ys) ≡ codes_weight xs + codes_weight ys
codes_append xs ys = sum_by-append optional_weight xs ys

-- code method by method
codes_by_method : (xs : List NumberedMethod) → codes_weight (map code_of xs) ≡ sum_by method_code_weight xs
codes_by_method xs = sum_by-map optional_weight code_of xs

methods_apart : (xs : List NumberedMethod) → sum_by numbered_method_weight xs ≡ sum_by method_code_weight xs + sum_by own_method_weight xs
methods_apart [] = refl
methods_apart (x ∷ xs) =
    let one : numbered_method_weight x ≡ method_code_weight x + own_method_weight x = omega arith in
    omega (arith, one, methods_apart xs, sum_by-cons numbered_method_weight x xs, sum_by-cons own_method_weight x xs, sum_by-cons method_code_weight x xs)

-- all that is declared
pub members_apart : (x : NumberedMembers) → numbered_members_weight x ≡ codes_weight (codes_of x) + own_members_weight x
members_apart x = omega (arith, methods_apart (methods_of x), codes_by_method (methods_of x))

-- by what the code of direct and of virtual methods weighs
pub weighed_apart : (x : NumberedMembers) (direct virtual weight : ℕ) → direct ≡ min (2 ^ 64 - 1) (sum_by method_code_weight x.direct_methods) → virtual ≡ min (2 ^ 64 - 1) (sum_by method_code_weight x.virtual_methods)
    → weight ≡ min (2 ^ 64 - 1) (min (2 ^ 64 - 1) (direct + virtual) + own_members_weight x) → weight ≡ min (2 ^ 64 - 1) (numbered_members_weight x)
weighed_apart x direct virtual weight d v w = omega (arith, methods_apart (methods_of x), sum_by-append method_code_weight x.direct_methods x.virtual_methods, d, v, w)

-- methods have the code that is put into them
zip_codes : (sets : List (ℕ × NumberedSet)) (lists : List (ℕ × List NumberedSet)) (xs : List MethodRead) (codes : List (Option NumberedItem)) → length codes ≡ length xs → map code_of (zip_with (method_with sets lists) xs codes) ≡ codes
zip_codes sets lists [] [] e = refl
zip_codes sets lists [] (c ∷ codes) e = absurd (omega (arith, e))
zip_codes sets lists (x ∷ xs) [] e = absurd (omega (arith, e))
zip_codes sets lists (x ∷ xs) (c ∷ codes) e = ap (λ (l : List (Option NumberedItem)). c ∷ l) (zip_codes sets lists xs codes (omega (arith, e)))

-- what the code of a row's methods weighs
pub attached_codes : (d : DataRead) (a : NumberedDirectory) (direct virtual : List (Option NumberedItem)) (vs : NumberedValues) → length direct ≡ length d.direct_methods.items → length virtual ≡ length d.virtual_methods.items
    → codes_weight (codes_of (attached d a direct virtual vs)) ≡ codes_weight direct + codes_weight virtual
attached_codes d a direct virtual vs first second =
    let ds = zip_with (method_with a.methods a.parameters) d.direct_methods.items direct in
    let xs = zip_with (method_with a.methods a.parameters) d.virtual_methods.items virtual in
    let front : codes_weight (map code_of ds) ≡ codes_weight direct = ap codes_weight (zip_codes a.methods a.parameters d.direct_methods.items direct first) in
    let back : codes_weight (map code_of xs) ≡ codes_weight virtual = ap codes_weight (zip_codes a.methods a.parameters d.virtual_methods.items virtual second) in
    let both : codes_weight (map code_of (ds ++ xs)) ≡ codes_weight (map code_of ds) + codes_weight (map code_of xs) = ap codes_weight (map-append code_of ds xs) ∙ codes_append (map code_of ds) (map code_of xs) in
    omega (arith, front, back, both)
