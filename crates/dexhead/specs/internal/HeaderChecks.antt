-- what the header's own functions check
use Rattle.std.specs.Prelude.{◌↔◌, ℕ, ◌≤◌, Bool, List, ◌∷◌, Option, MatchOption, take, drop}
use Rattle.std.specs.Str.{bytes_eq}
use Rattle.sha1.specs.Sha1.{sha1}
use Rattle.dexspec.specs.Header.{Table, TypeIds, ProtoIds, FieldIds, MethodIds, table_size}
use Rattle.dexspec.specs.Sections.{AreLaidOut}

-- whether the signature is right
unfoldable pub has_signature : List ℕ → Bool
has_signature b = bytes_eq (take 20 (drop 12 b)) (sha1 (drop 32 b))

-- these tables are well placed from there on, the last before the data
pub record IsLaidOut (b : List ℕ) (from : ℕ) (ts : List Table) : Type 0 where
  pub laid : AreLaidOut b from ts

-- where a table ends from which on others may be placed, if it is well placed from there on
abbrev pub EndsTable : List ℕ → ℕ → Table → Option ℕ → Type 0
EndsTable b from table found =
    (ts : List Table) → IsLaidOut b from (table ∷ ts) ↔ MatchOption found ⊥ (λ end. IsLaidOut b end ts)

-- the bounds on the numbers of rows, one by one
pub record AreFew (b : List ℕ) : Type 0 where
  pub types : table_size b TypeIds ≤ 65535
  pub protos : table_size b ProtoIds ≤ 65535
  pub fields : table_size b FieldIds ≤ 65536
  pub methods : table_size b MethodIds ≤ 65536
