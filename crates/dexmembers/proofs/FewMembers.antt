-- Members weigh something each.
use Rattle.dexmembers.proofs.Common.{◌*◌, ◌^◌, ◌<◌, ◌≤◌, List, [], ◌∷◌, length, sum_by, arith, length-append, sum_by-cons}
use Rattle.dexmembers.specs.{NumberedField, NumberedMethod, NumberedMembers, AreFew, fields_of, methods_of, numbered_field_weight, own_method_weight, own_members_weight}

numbered_fields_weigh : (fs : List NumberedField) → 18 * length fs ≤ sum_by numbered_field_weight fs
numbered_fields_weigh [] = omega arith
numbered_fields_weigh (f ∷ fs) = omega (arith, sum_by-cons numbered_field_weight f fs, numbered_fields_weigh fs)

own_methods_weigh : (xs : List NumberedMethod) → 31 * length xs ≤ sum_by own_method_weight xs
own_methods_weigh [] = omega arith
own_methods_weigh (x ∷ xs) = omega (arith, sum_by-cons own_method_weight x xs, own_methods_weigh xs)

-- what weighs less than 2 ^ 32 without its code has few members
pub weighed_few : (x : NumberedMembers) → own_members_weight x < 2 ^ 32 → AreFew x.static_fields x.instance_fields x.direct_methods x.virtual_methods
weighed_few x light =
    let fs = numbered_fields_weigh (fields_of x) in
    let ms = own_methods_weigh (methods_of x) in
    let fields = length-append x.static_fields x.instance_fields in
    let methods = length-append x.direct_methods x.virtual_methods in
    record {
      few_fields = omega (arith, light, fs, ms, fields, methods);
      few_methods = omega (arith, light, fs, ms, fields, methods);
    }
