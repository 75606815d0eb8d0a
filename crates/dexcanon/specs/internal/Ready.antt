-- When the bytes of a file can be made.
use Rattle.std.specs.Prelude.{List}
use Rattle.dexspec.specs.Mentions.{Mentions}
use Rattle.dexspec.specs.Placing.{Ordered}
use Rattle.dexclass.specs.Numbered.{NumberedClass}
use Rattle.dexlayout.specs.Places.{Places}
use Rattle.dexlayout.specs.Laid.{AreWritable, IsLaid, ordered_of}
use Rattle.dexcanon.specs.declared.contents.Contents.{Contents}

-- the classes can be written, and the layout is theirs
pub record IsReady (m : Mentions) (cs : List NumberedClass) (p : Places) : Type 0 where
  pub writable : AreWritable m cs
  pub laid : IsLaid m cs p

-- the same of what a file is made of
abbrev pub CanBeMade : Contents → Type 0
CanBeMade c = IsReady c.numbering.now c.classes.now c.layout.now

-- its classes in their order, over the numbering of what they mention
abbrev pub ordered_in : Contents → Ordered
ordered_in c = ordered_of c.numbering.now c.classes.now
