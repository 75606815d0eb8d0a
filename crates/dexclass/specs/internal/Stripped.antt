-- Classes without their debug programs and source texts.
use Rattle.std.specs.Prelude.{◌+◌, ◌-◌, ◌*◌, ◌^◌, min, length, None}
use Rattle.dexmembers.specs.Stripped.{stripped_members}
use Rattle.dexmembers.specs.Weighing.{numbered_members_weight}
use Rattle.dexclass.specs.Numbered.{NumberedClass}

-- the class without its source text and its methods' debug programs
abbrev pub stripped_class : NumberedClass → NumberedClass
stripped_class c = record {
  name = c.name;
  flags = c.flags;
  superclass = c.superclass;
  interfaces = c.interfaces;
  source = None;
  members = stripped_members c.members;
  weight = min (2 ^ 64 - 1) (96 + 2 * length c.interfaces + numbered_members_weight (stripped_members c.members));
}
