-- Class definitions with numbers instead of symbols.
use Rattle.std.specs.Prelude.{ℕ, ◌==◌, if◌then◌else◌, List, map, Option, Some, None}
use Rattle.std.specs.Option.{option_map}
use Rattle.dexspec.specs.Classes.{Definition, class_idx, access_flags, superclass_idx, interfaces_off, source_file_idx}
use Rattle.dexspec.specs.Classes.{no_index}
use Rattle.dexspec.specs.Mentions.{Mentions}
use Rattle.dexids.specs.Reading.{listed}
use Rattle.dexpool.specs.NumberedSymbols.{text_at, type_at}
use Rattle.dexmembers.specs.Numbered.{NumberedMembers, members_in}

-- A class: the numbers of its type, of its superclass, of its interfaces and of its source text, what it declares, and
-- what it weighs without the symbols that it names.
pub record NumberedClass : Type 0 where
  pub name : ℕ
  pub flags : ℕ
  pub superclass : Option ℕ
  pub interfaces : List ℕ
  pub source : Option ℕ
  pub members : NumberedMembers
  pub weight : ℕ

-- the definition that the numbers denote
abbrev pub definition_of : Mentions → NumberedClass → Definition
definition_of m c = (
  type_at m c.name,
  record {
    flags = c.flags;
    superclass = option_map (type_at m) c.superclass;
    interfaces = map (type_at m) c.interfaces;
    source = option_map (text_at m) c.source;
    annotations = (members_in m c.members).annotations;
    static_fields = (members_in m c.members).static_fields;
    instance_fields = (members_in m c.members).instance_fields;
    direct_methods = (members_in m c.members).direct_methods;
    virtual_methods = (members_in m c.members).virtual_methods;
    static_values = (members_in m c.members).static_values;
  },
)

-- the number of an index, if it is one
abbrev pub number_of : ℕ → Option ℕ
number_of i = if i == no_index then None else Some i

-- class row r with the indices of the file as numbers, what it declares, and its weight
abbrev pub class_of_row : List ℕ → ℕ → NumberedMembers → ℕ → NumberedClass
class_of_row b r x weight = record {
  name = class_idx b r;
  flags = access_flags b r;
  superclass = number_of (superclass_idx b r);
  interfaces = listed b (interfaces_off b r);
  source = number_of (source_file_idx b r);
  members = x;
  weight = weight;
}
