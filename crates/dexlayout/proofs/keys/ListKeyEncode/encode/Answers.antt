use Rattle.dexlayout.proofs.Common.{List, ℕ, length, get_or, ap, arith, subst, ◌∙◌, flat_map, ushort, uint, given_more, given_all}
use Rattle.dexlayout.proofs.keys.ListKeyEncode.encode.Goals as goal

pub overflow_cast-at : goal.overflow_cast-at
overflow_cast-at g c = omega (arith, c.at.ensures ∙ ap (λ (l : List ℕ). get_or l c.loop-i.i 0) c.self.view_is, c.requires.1 c.loop-i.i 0 (omega (arith, c.loop-i-test.true, c.len-count.ensures, ap (λ (l : List ℕ). length l) c.self.view_is)))

pub loop-i-preserved : goal.loop-i-preserved
loop-i-preserved g c =
    let at = c.at.ensures ∙ ap (λ (l : List ℕ). get_or l c.loop-i.i 0) c.self.view_is in
    given_more g.O.Output.gives g.met.O.Output.both ushort c.args.self.now c.loop-i.i 0 c.u32.new.self c.loop-i.out c.u16.new.self (omega (arith, c.loop-i-test.true, c.len-count.ensures, ap (λ (l : List ℕ). length l) c.self.view_is)) c.loop-i.invariant
    (subst (λ n. g.O.Output.gives (ushort n) c.loop-i.out c.u16.new.self) at c.u16.ensures)

pub returns : goal.returns
returns g c =
    let xs = c.args.self.now in
    let count = c.len-count.ensures ∙ ap (λ (l : List ℕ). length l) c.self.view_is in
    g.met.O.Output.both (uint (length xs)) (flat_map ushort xs) c.args.out.now c.u32.new.self c.loop-i.out (subst (λ n. g.O.Output.gives (uint n) c.args.out.now c.u32.new.self) count c.u32.ensures)
    (given_all g.O.Output.gives g.met.O.Output.both ushort xs c.loop-i.i c.u32.new.self c.loop-i.out (omega (arith, c.loop-i-test.false, count)) c.loop-i.invariant)
