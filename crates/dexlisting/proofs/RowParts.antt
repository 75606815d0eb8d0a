-- The parts of symbols have numbers of their own, and are the texts of these.
use Rattle.std.proofs.Common.{ℕ, ◌≡◌, ◌<◌, ◌∙◌, ap, sym, refl, List, [], ◌∷◌, ◌++◌, length, map}
use Rattle.std.specs.Prelude.{slice_index_or, All}
use Rattle.std.specs.List.{AllZip, flat_map}
use Rattle.std.proofs.lemmas.List.Elements.{All-nil, All-cons}
use Rattle.dexspec.specs.Texts.{Text}
use Rattle.dexspec.specs.Symbols.{Proto, Field, Method}
use Rattle.dexspec.specs.Mentions.{Mentions}
use Rattle.dexrows.specs.Numbers.{ProtoNumbers}
use Rattle.dexrows.specs.declared.fields.FieldRow.{FieldRow}
use Rattle.dexrows.specs.declared.methods.MethodRow.{MethodRow}
use Rattle.dexpool.specs.Numberings.{IsAt, DenotesProto, DenotesField, DenotesMethod}
use Rattle.dexpool.specs.NumberedSymbols.{type_at}
use Rattle.dexlisting.specs.internal.Known.{proto_at}
use Rattle.dexval.specs.Numbered.{field_at, method_at}
use Rattle.dexout.specs.Printed.{shown}

pub field_row : (m : Mentions) (i : ℕ) (row : FieldRow) → ((d : Field) → DenotesField m row (slice_index_or m.fields i d)) → DenotesField m row (field_at m i)
field_row m i row encodes = encodes (record { class = []; name = []; type = [] })

pub method_row : (m : Mentions) (i : ℕ) (row : MethodRow) → ((d : Method) → DenotesMethod m row (slice_index_or m.methods i d)) → DenotesMethod m row (method_at m i)
method_row m i row encodes = encodes (record { class = []; name = []; proto = record { return_type = []; parameters = [] } })

pub proto_row : (m : Mentions) (i : ℕ) (row : ProtoNumbers) → ((d : Proto) → DenotesProto m row (slice_index_or m.protos i d)) → DenotesProto m row (proto_at m i)
proto_row m i row encodes = encodes (record { return_type = []; parameters = [] })

pub all_within : (xs : List Text) (numbers : List ℕ) (texts : List Text) → AllZip (IsAt xs) numbers texts → All (λ n. n < length xs) numbers
all_within xs [] texts zip = All-nil (λ n. n < length xs)
all_within xs (n ∷ ns) [] zip = absurd zip
all_within xs (n ∷ ns) (t ∷ ts) zip = All-cons (λ m. m < length xs) n ns zip.0.within (all_within xs ns ts zip.1)

-- the types of numbers, one after the other
pub types_shown : (m : Mentions) (numbers : List ℕ) (texts : List Text) → AllZip (IsAt m.types) numbers texts → flat_map (λ i. shown (type_at m i)) numbers ≡ flat_map shown texts
types_shown m [] [] zip = refl
types_shown m [] (t ∷ ts) zip = absurd zip
types_shown m (n ∷ ns) [] zip = absurd zip
types_shown m (n ∷ ns) (t ∷ ts) zip = ap (λ s. shown s ++ flat_map (λ i. shown (type_at m i)) ns) (zip.0.is []) ∙ ap (λ r. shown t ++ r) (types_shown m ns ts zip.1)
