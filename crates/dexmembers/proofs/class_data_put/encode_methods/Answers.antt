use Rattle.dexmembers.proofs.Common.{ℕ, ◌+◌, ◌-◌, ◌++◌, ◌∙◌, ap, drop, sym, subst, arith, slice_index, uleb128}
use Rattle.dexmembers.specs.{numbered_method_bytes, numbered_methods_bytes}
use Rattle.dexmembers.proofs.Partways.{Partway, partway_next, partway_last}
use Rattle.dexmembers.proofs.ClassDataSpelled.{methods_next, methods_end}
use Rattle.dexmembers.proofs.class_data_put.encode_methods.Goals as goal

pub loop-i-preserved : goal.loop-i-preserved
loop-i-preserved g c =
    let methods = c.args.methods.now in
    let offs = c.args.code_offs.now in
    let i = c.loop-i.i in
    let last = c.loop-i.last in
    let method = c.get-method.result in
    let all = numbered_methods_bytes 0 methods offs in
    let both = g.met.O.Output.both in
    let end = c.uleb-in-loop-i-2.new.self in
    let number = c.saturating_sub.ensures ∙ ap (λ (n : ℕ). n - last) c.number.ensures in
    let flags = c.bits.ensures ∙ c.flags.ensures in
    let off = uleb128 (slice_index offs i) in
    let one = subst (λ bs. g.O.Output.gives bs c.loop-i.out end) (λ j. uleb128 (number j) ++ (uleb128 (flags j) ++ off))
    (both (uleb128 c.saturating_sub.result) (uleb128 c.bits.result ++ off) c.loop-i.out c.uleb.new.self end c.uleb.ensures (both (uleb128 c.bits.result) off c.uleb.new.self c.uleb-in-loop-i.new.self end c.uleb-in-loop-i.ensures c.uleb-in-loop-i-2.ensures)) in
    subst (λ (n : ℕ). Partway g.O.Output.gives (numbered_methods_bytes n (drop (i + 1) methods) (drop (i + 1) offs)) all c.args.out.now end) (sym c.number-last.ensures)
    (partway_next g.O.Output.gives g.met.O.Output.both (numbered_method_bytes last method (slice_index offs i)) (numbered_methods_bytes method.number (drop (i + 1) methods) (drop (i + 1) offs)) all (numbered_methods_bytes last (drop i methods) (drop i offs)) c.args.out.now c.loop-i.out end
    (methods_next last methods offs i method (omega arith) c.requires c.get-method.ensures) c.loop-i.invariant one)

pub returns : goal.returns
returns g c =
    let methods = c.args.methods.now in
    let offs = c.args.code_offs.now in
    partway_last g.O.Output.gives (numbered_methods_bytes c.loop-i.last (drop c.loop-i.i methods) (drop c.loop-i.i offs)) (numbered_methods_bytes 0 methods offs) c.args.out.now c.loop-i.out (methods_end c.loop-i.last methods offs c.loop-i.i (omega arith)) c.loop-i.invariant
