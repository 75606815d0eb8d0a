use Rattle.dexhead.proofs.Common.{ℕ, ◌++◌, subst, ushort, uint}
use Rattle.dexhead.proofs.map_list.MapEntryEncode.encode.Goals as goal

pub returns : goal.returns
returns g c =
    let both = g.met.O.Output.both in
    let e = c.args.self.now in
    both _ (ushort 0 ++ (uint e.size ++ uint e.off)) c.args.out.now c.u16.new.self c.u32-2.new.self (subst (λ (n : ℕ). g.O.Output.gives (ushort n) c.args.out.now c.u16.new.self) c.code.ensures c.u16.ensures)
    (both (ushort 0) (uint e.size ++ uint e.off) c.u16.new.self c.u16-2.new.self c.u32-2.new.self c.u16-2.ensures
    (both (uint e.size) (uint e.off) c.u16-2.new.self c.u32.new.self c.u32-2.new.self c.u32.ensures c.u32-2.ensures))
