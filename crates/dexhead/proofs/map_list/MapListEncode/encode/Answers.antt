use Rattle.dexhead.proofs.Common.{ℕ, length, map, sym, subst, flat_map, length-map, flat_map-map, uint, map_entry_bytes, entry_meant}
use Rattle.dexhead.proofs.map_list.MapListEncode.encode.Goals as goal

pub returns : goal.returns
returns g c =
    let es = c.args.self.now.entries.now in
    let entries = subst (λ bs. g.O.Output.gives bs c.u32.new.self c.encode_all.new.out) (sym (flat_map-map map_entry_bytes entry_meant es)) c.encode_all.ensures in
    g.met.O.Output.both (uint (length (map entry_meant es))) (flat_map map_entry_bytes (map entry_meant es)) c.args.out.now c.u32.new.self c.encode_all.new.out (subst (λ (n : ℕ). g.O.Output.gives (uint n) c.args.out.now c.u32.new.self) (sym (length-map es entry_meant)) c.u32.ensures) entries
