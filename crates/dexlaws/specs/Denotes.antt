-- The statements of the laws of what a file denotes.
use Rattle.std.specs.Prelude.{◌≡◌, ℕ, ◌<◌, List, length, All, Option}
use Rattle.std.specs.List.{Contains, flat_map}
use Rattle.std.specs.declared.cmp.Ordering.{Ordering}
use Rattle.std.specs.declared.cmp.Ordering.TheVariants.{Less}
use Rattle.dexspec.specs.Texts.{Text}
use Rattle.dexspec.specs.Symbols.{Symbol}
use Rattle.dexspec.specs.Header.{ClassDefs, table_size}
use Rattle.dexspec.specs.Rows.{SymbolRow}
use Rattle.dexspec.specs.Pieces.{Cut, Piece, units_of}
use Rattle.dexspec.specs.Code.{code_units, PiecesAt, TryItemsAt}
use Rattle.dexspec.specs.Classes.{Body, Definition, ClassRow}
use Rattle.dexspec.specs.Files.{Collection, definitions, Denotes, AreSame}
use Rattle.dexspec.specs.Mentions.{symbols_of}
use Rattle.dexspec.specs.Accepted.{AreRows, HasMembers, HoldBelow, IsReadable, IsAccepted}
use Rattle.dexlaws.specs.Items.{HasAtMostOne}

-- each member is a byte
abbrev pub AreBytes : List ℕ → Type 0
AreBytes b = All (λ byte. byte < 256) b

-- each class row can be read
abbrev pub AreReadable : List ℕ → Type 0
AreReadable b = (r : ℕ) → r < table_size b ClassDefs → IsReadable b r

-- the symbol of a later row is greater
abbrev pub RowsInOrder : {X : Type 0} → (X → X → Ordering) → (ℕ → X → Type 0) → Type 0
RowsInOrder {X} R Row = (i j : ℕ) (x y : X) → i < j → Row i x → Row j y → R x y ≡ Less

-- if the bytes are an accepted file that denotes the collection, the fact holds
abbrev pub OnAccepted : List ℕ → Collection → Type 0 → Type 0
OnAccepted b K fact = AreBytes b → IsAccepted b → Denotes b K → fact

-- the bytes determine a run of as many encoded members at an offset, and its size
abbrev pub AreMembersDetermined : {X : Type 0} → (List ℕ → ℕ → Option ℕ → List X → ℕ → Type 0) → Type 0
AreMembersDetermined {X} At = (b : List ℕ) (o : ℕ) (last : Option ℕ) (xs ys : List X) (n k : ℕ) → length xs ≡ length ys
    → At b o last xs n → At b o last ys k → (xs ≡ ys) × (n ≡ k)

-- the class row denotes at most one definition
abbrev pub HasOneDefinition : List ℕ → ℕ → Type 0
HasOneDefinition b r = (n m : Text) (c d : Body) → AreBytes b → ClassRow b r n c → ClassRow b r m d → (n ≡ m) × (c ≡ d)

-- a name has at most one class row
abbrev pub NamesHaveOneRow : List ℕ → Type 0
NamesHaveOneRow b =
    (r s : ℕ) (name : Text) (c d : Body) → HoldBelow 17 b → ClassRow b r name c → ClassRow b s name d → r ≡ s

-- if the definitions are those of the class rows, a collection that the file denotes has the same
abbrev pub DenotesRows : List ℕ → List Definition → Collection → Type 0
DenotesRows b D K = AreRows b (table_size b ClassDefs) D → Denotes b K → AreSame (definitions K) D

-- the units of a code item are cut in at most one way, with one list of pieces
abbrev pub ArePiecesDetermined : List ℕ → ℕ → Type 0
ArePiecesDetermined b o = (cs ds : List Cut) (ps qs : List Piece) → PiecesAt b o cs ps → PiecesAt b o ds qs
    → (cs ≡ ds) × (ps ≡ qs)

-- at most one list of a number of tries is at an offset
abbrev pub AreTriesDetermined : List ℕ → List Cut → Type 0
AreTriesDetermined units cuts = (b : List ℕ) (o count : ℕ) → HasAtMostOne (TryItemsAt units cuts b o count)

-- what holds of the cuts and pieces of the units of a code item
abbrev pub OnPieces : List ℕ → ℕ → (List Cut → List Piece → Type 0) → Type 0
OnPieces b o P = (cuts : List Cut) (ps : List Piece) → PiecesAt b o cuts ps → P cuts ps

-- the pieces have as many units as the code item
abbrev pub HasAllUnits : List ℕ → ℕ → List Piece → Type 0
HasAllUnits b o ps = length (flat_map units_of ps) ≡ length (code_units b o)

-- each symbol of the definition of a class row whose members are right has a row
abbrev pub SymbolsAreInRows : List ℕ → ℕ → Type 0
SymbolsAreInRows b r = (name : Text) (c : Body) (s : Symbol) → HoldBelow 17 b → HasMembers b r → ClassRow b r name c
    → Contains (symbols_of (name, c)) s → (i : ℕ) × SymbolRow b i s
