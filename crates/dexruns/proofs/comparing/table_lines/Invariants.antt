use Rattle.dexruns.proofs.Common.{◌≡◌, ◌++◌, map, string_bytes, flat_map}
use Rattle.dexruns.specs.Comparisons.{comparison_lines}
use Rattle.dexruns.specs.internal.CopyTables.{copies_list}
use Rattle.dexruns.proofs.comparing.table_lines.Given as goal

-- the lines of the classes so far are there
abbrev pub invariant-loop-name : goal.invariant-loop-name
invariant-loop-name l = record {
  printed : string_bytes l.text ++ flat_map (λ e. comparison_lines l.comparison (map (λ file. file.now) l.files) e.0 (copies_list e.1)) l.name-iterator
      ≡ flat_map (λ e. comparison_lines l.comparison (map (λ file. file.now) l.files) e.0 (copies_list e.1)) l.table.classes.entries;
}
