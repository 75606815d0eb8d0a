-- What a class declares without its debug programs.
use Rattle.std.specs.Prelude.{List, map, Option, None}
use Rattle.std.specs.Option.{option_map}
use Rattle.dexspec.specs.Stripping.{strip_method}
use Rattle.dexcode.specs.Numbered.{NumberedItem, NumberedTry}
use Rattle.dexmembers.specs.Numbered.{NumberedMethod, NumberedMembers, Members}
use Rattle.dexmembers.specs.Held.{HeldMethod}

-- the code without its debug program
abbrev pub stripped_code : NumberedItem → NumberedItem
stripped_code c = record { body = c.body; tries = c.tries; debug = None }

-- the method, its code so
abbrev pub stripped_method : NumberedMethod → NumberedMethod
stripped_method x =
    record {
      number = x.number;
      flags = x.flags;
      code = option_map stripped_code x.code;
      annotations = x.annotations;
      parameter_annotations = x.parameter_annotations;
    }

-- the same of a method as it is held
abbrev pub stripped_held : HeldMethod → HeldMethod
stripped_held x =
    record { number = x.number; flags = x.flags; code = option_map stripped_code x.code; set = x.set; list = x.list }

-- all members, each method so
abbrev pub stripped_members : NumberedMembers → NumberedMembers
stripped_members x = record {
  annotations = x.annotations;
  static_fields = x.static_fields;
  instance_fields = x.instance_fields;
  direct_methods = map stripped_method x.direct_methods;
  virtual_methods = map stripped_method x.virtual_methods;
  static_values = x.static_values;
}

-- the same of members with symbols
abbrev pub strip_members : Members → Members
strip_members x = record {
  annotations = x.annotations;
  static_fields = x.static_fields;
  instance_fields = x.instance_fields;
  direct_methods = map strip_method x.direct_methods;
  virtual_methods = map strip_method x.virtual_methods;
  static_values = x.static_values;
}

-- the tries of the method's code, if it has some
abbrev pub method_tries : NumberedMethod → Option (List NumberedTry)
method_tries x = option_map (λ c. c.tries) x.code
