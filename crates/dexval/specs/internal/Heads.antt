-- Values without their contents.
use Rattle.std.specs.Prelude.{[], ℕ, ℤ, pos, if◌then◌else◌}
use Rattle.dexpool.specs.Numberings.{Maps}
use Rattle.dexval.specs.internal.Scalars.{code_of_reference}
use Rattle.dexval.specs.Numbered.{NumberedValue, NumberedValues, NumberedElements, NoValue, NoElement, Plain, Named}
use Rattle.dexval.specs.Numbered.{Array, Annotated, Literal, ByteLiteral, ShortLiteral, CharLiteral, IntLiteral}
use Rattle.dexval.specs.Numbered.{LongLiteral, FloatLiteral, DoubleLiteral, NullLiteral, BooleanLiteral}

-- the head of a literal: its type code and its number
abbrev pub literal_head : Literal → ℕ × ℤ
literal_head (ByteLiteral z) = (0x00, z)
literal_head (ShortLiteral z) = (0x02, z)
literal_head (CharLiteral u) = (0x03, pos u)
literal_head (IntLiteral z) = (0x04, z)
literal_head (LongLiteral z) = (0x06, z)
literal_head (FloatLiteral bits) = (0x10, pos bits)
literal_head (DoubleLiteral bits) = (0x11, pos bits)
literal_head NullLiteral = (0x1e, pos 0)
literal_head (BooleanLiteral is) = (0x1f, pos (if is then 1 else 0))

-- the head of a value: all but the values that it holds
abbrev pub head_of : NumberedValue → ℕ × ℤ
head_of (Plain literal) = literal_head literal
head_of (Named reference i) = (code_of_reference reference, pos i)
head_of (Array xs) = (0x1c, pos 0)
head_of (Annotated t es) = (0x1d, pos t)

-- the values of an array
abbrev pub held_values : NumberedValue → NumberedValues
held_values (Array xs) = xs
held_values _ = NoValue

-- the elements of an annotation
abbrev pub held_elements : NumberedValue → NumberedElements
held_elements (Annotated t es) = es
held_elements _ = NoElement

-- the map without images
abbrev pub no_images : Maps
no_images = record { texts = []; types = []; protos = []; fields = []; methods = [] }
