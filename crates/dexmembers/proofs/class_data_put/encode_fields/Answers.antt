use Rattle.dexmembers.proofs.Common.{ℕ, ◌+◌, ◌-◌, ◌++◌, ◌∙◌, ap, drop, sym, subst, arith, uleb128}
use Rattle.dexmembers.specs.{numbered_field_bytes, numbered_fields_bytes}
use Rattle.dexmembers.proofs.Partways.{Partway, partway_next, partway_last}
use Rattle.dexmembers.proofs.ClassDataSpelled.{fields_next, fields_end}
use Rattle.dexmembers.proofs.class_data_put.encode_fields.Goals as goal

pub loop-i-preserved : goal.loop-i-preserved
loop-i-preserved g c =
    let fields = c.args.fields.now in
    let i = c.loop-i.i in
    let last = c.loop-i.last in
    let field = c.get-field.result in
    let all = numbered_fields_bytes 0 fields in
    let end = c.uleb-in-loop-i.new.self in
    let number = c.saturating_sub.ensures ∙ ap (λ (n : ℕ). n - last) c.number.ensures in
    let flags = c.bits.ensures ∙ c.flags.ensures in
    let one = subst (λ bs. g.O.Output.gives bs c.loop-i.out end) (λ j. uleb128 (number j) ++ uleb128 (flags j))
    (g.met.O.Output.both (uleb128 c.saturating_sub.result) (uleb128 c.bits.result) c.loop-i.out c.uleb.new.self end c.uleb.ensures c.uleb-in-loop-i.ensures) in
    subst (λ (n : ℕ). Partway g.O.Output.gives (numbered_fields_bytes n (drop (i + 1) fields)) all c.args.out.now end) (sym c.number-last.ensures)
    (partway_next g.O.Output.gives g.met.O.Output.both (numbered_field_bytes last field) (numbered_fields_bytes field.number (drop (i + 1) fields)) all (numbered_fields_bytes last (drop i fields)) c.args.out.now c.loop-i.out end
    (fields_next last fields i field (omega arith) c.get-field.ensures) c.loop-i.invariant one)

pub returns : goal.returns
returns g c =
    let fields = c.args.fields.now in
    partway_last g.O.Output.gives (numbered_fields_bytes c.loop-i.last (drop c.loop-i.i fields)) (numbered_fields_bytes 0 fields) c.args.out.now c.loop-i.out (fields_end c.loop-i.last fields c.loop-i.i (omega arith)) c.loop-i.invariant
