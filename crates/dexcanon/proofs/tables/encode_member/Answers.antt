use Rattle.dexcanon.proofs.Common.{◌++◌, ushort, uint}
use Rattle.dexcanon.proofs.tables.encode_member.Goals as goal

pub returns : goal.returns
returns g c =
    g.met.O.Output.both (ushort c.args.class) (ushort c.args.typ ++ uint c.args.name) c.args.out.now c.u16.new.self c.u32.new.self c.u16.ensures
    (g.met.O.Output.both (ushort c.args.typ) (uint c.args.name) c.u16.new.self c.u16-2.new.self c.u32.new.self c.u16-2.ensures c.u32.ensures)
