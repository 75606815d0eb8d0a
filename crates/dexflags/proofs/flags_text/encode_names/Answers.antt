use Rattle.std.proofs.Common.{rules, sym, ap, subst, ◌∙◌, ◌+◌, drop, false}
use Rattle.std.specs.List.{join_with_byte}
use Rattle.bitflags.specs.Sets.{Row}
use Rattle.dexio.proofs.Encoded.{Completes, completes_more, completes_all}
use Rattle.dexflags.specs.internal.FlagNames.{set_names, listed, shown_name}
use Rattle.dexflags.proofs.Composed.{all_rows, row_at, get_row, rest_text, left_skipped, left_taken, left_none}
use Rattle.dexflags.proofs.flags_text.encode_names.Goals.{then-has_flag, else-has_flag}
use Rattle.dexflags.proofs.flags_text.encode_names.Goals as goal

pub has_flag-requires-clause-single : goal.has_flag-requires-clause-single
has_flag-requires-clause-single g c =
    let row = get_row (λ f. (f.name.now, g.F.Flags.set_of f.value)) c.flags-named.result.now g.F.Flags.table c.loop-flag.flag-index c.flag-item.result (c.flags-named.ensures c.requires.exact) c.loop-flag-test.true (sym c.flag-item.is) in
    let one : Row = (c.flag-item.result.name.now, g.F.Flags.set_of c.flag-item.result.value) in
    let single = c.requires.single c.loop-flag.flag-index one row.0 in
    (single.0, sym (ap (λ r. r.1) row.1) ∙ single.1)

pub loop-flag-preserved : goal.loop-flag-preserved
loop-flag-preserved g c =
    let G = g.O.Output.gives in
    let table = g.F.Flags.table in
    let n = g.F.Flags.set_of c.args.flags.now in
    let row : Row = (c.flag-item.result.name.now, g.F.Flags.set_of c.flag-item.result.value) in
    let rows = row_at (λ f. (f.name.now, g.F.Flags.set_of f.value)) c.flags-named.result.now table c.loop-flag.flag-index c.flag-item.result (c.flags-named.ensures c.requires.exact) c.loop-flag-test.true (sym c.flag-item.is) in
    let after = drop (c.loop-flag.flag-index + 1) table in
    let left = rest_text c.loop-flag.is_first (set_names (drop c.loop-flag.flag-index table) n) in
    let whole = join_with_byte 44 (set_names table n) in
    elim c.if-has_flag.branch [
      | then-has_flag w ↦ rw (w.out-is, w.is_first-is) (completes_more G g.met.O.Output.both (listed c.loop-flag.is_first (shown_name row)) (rest_text false (set_names after n)) left whole c.args.out.now c.loop-flag.out w.encode_item.new.out
          (left_taken row after n c.loop-flag.is_first (drop c.loop-flag.flag-index table) rows (search rules)) c.loop-flag.invariant (search rules))
      | else-has_flag w ↦ rw (w.out-is, w.is_first-is) (subst (λ z. Completes G z c.loop-flag.out whole c.args.out.now) (left_skipped row after n c.loop-flag.is_first (drop c.loop-flag.flag-index table) rows (search rules)) c.loop-flag.invariant)
    ]

pub returns : goal.returns
returns g c =
    let table = g.F.Flags.table in
    let n = g.F.Flags.set_of c.args.flags.now in
    let all = all_rows (λ f. (f.name.now, g.F.Flags.set_of f.value)) c.flags-named.result.now table c.loop-flag.flag-index (c.flags-named.ensures c.requires.exact) c.loop-flag-test.false in
    completes_all g.O.Output.gives g.met.O.Output.nothing (rest_text c.loop-flag.is_first (set_names (drop c.loop-flag.flag-index table) n)) (join_with_byte 44 (set_names table n)) c.args.out.now c.loop-flag.out (left_none c.loop-flag.is_first table c.loop-flag.flag-index n all) c.loop-flag.invariant
