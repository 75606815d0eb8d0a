-- Bytes of pieces that are put.
use Rattle.std.specs.Prelude.{ℕ, ◌-◌, List, take, drop}
use Rattle.std.specs.List.{flat_map}
use Rattle.dexspec.specs.Bytes.{ushort}
use Rattle.dexinsn.specs.declared.pieces.Index.{Index}
use Rattle.dexinsn.specs.Stored.{spelled_from}

-- those of the units from one place up to another
abbrev pub bytes_between : List ℕ → ℕ → ℕ → List ℕ
bytes_between us from to = flat_map ushort (take (to - from) (drop from us))

-- those of all units, with these numbers put in
abbrev pub bytes_with : List ℕ → List Index → List ℕ
bytes_with us is = flat_map ushort (spelled_from us 0 is)
