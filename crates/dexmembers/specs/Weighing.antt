-- What a class declares weighs, by its numbers.
use Rattle.std.specs.Prelude.{ℕ, ◌+◌, List, Option, map, sum_by, option_to_list}
use Rattle.dexspec.specs.Weight.{debug_weight}
use Rattle.dexval.specs.Spelled.{numbered_set_weight, numbered_sets_weight, numbered_statics_weight}
use Rattle.dexdebug.specs.Debug.{NumberedDebug, unindexed}
use Rattle.dexcode.specs.Numbered.{NumberedItem}
use Rattle.dexcode.specs.CodePut.{numbered_code_weight}
use Rattle.dexmembers.specs.Numbered.{NumberedField, NumberedMethod, NumberedMembers, fields_of, methods_of}

-- a declared field with its set
abbrev pub numbered_field_weight : NumberedField → ℕ
numbered_field_weight f = 18 + numbered_set_weight f.annotations

-- a debug program
abbrev pub numbered_debug_weight : NumberedDebug → ℕ
numbered_debug_weight d = debug_weight (unindexed d)

-- code with its debug program
abbrev pub numbered_whole_weight : NumberedItem → ℕ
numbered_whole_weight c = numbered_code_weight c + sum_by numbered_debug_weight (option_to_list c.debug)

-- a declared method with its code, debug program and sets
abbrev pub numbered_method_weight : NumberedMethod → ℕ
numbered_method_weight x =
    31 + sum_by numbered_whole_weight (option_to_list x.code) + numbered_set_weight x.annotations
    + numbered_sets_weight x.parameter_annotations

-- all that a class declares
abbrev pub numbered_members_weight : NumberedMembers → ℕ
numbered_members_weight x =
    numbered_set_weight x.annotations + sum_by numbered_field_weight (fields_of x)
    + sum_by numbered_method_weight (methods_of x) + numbered_statics_weight x.static_values

-- ---- code apart

-- code of methods with its debug programs
abbrev pub codes_weight : List (Option NumberedItem) → ℕ
codes_weight codes = sum_by (λ code. sum_by numbered_whole_weight (option_to_list code)) codes

-- the code of each method
abbrev pub codes_of : NumberedMembers → List (Option NumberedItem)
codes_of x = map (λ y. y.code) (methods_of x)

-- the code of a declared method with its debug program
abbrev pub method_code_weight : NumberedMethod → ℕ
method_code_weight x = sum_by numbered_whole_weight (option_to_list x.code)

-- a declared method without its code
abbrev pub own_method_weight : NumberedMethod → ℕ
own_method_weight x = 31 + numbered_set_weight x.annotations + numbered_sets_weight x.parameter_annotations

-- all that a class declares, without code
abbrev pub own_members_weight : NumberedMembers → ℕ
own_members_weight x =
    numbered_set_weight x.annotations + sum_by numbered_field_weight (fields_of x)
    + sum_by own_method_weight (methods_of x) + numbered_statics_weight x.static_values
