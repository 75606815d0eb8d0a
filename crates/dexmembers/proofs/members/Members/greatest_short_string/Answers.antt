use Rattle.dexmembers.proofs.Common.{List, ◌++◌, sym, subst, flat_map, flat_map-append, IsGreatest}
use Rattle.dexmembers.specs.{NumberedMethod, method_short_strings}
use Rattle.dexmembers.proofs.Placed.{greater_of}
use Rattle.dexmembers.proofs.members.Members.greatest_short_string.Goals as goal

pub returns : goal.returns
returns c =
    let direct = c.args.self.now.direct_methods in
    let virtual = c.args.self.now.virtual_methods in
    let mine = subst (λ (xs : List NumberedMethod). IsGreatest (flat_map method_short_strings xs) c.greatest_of_methods.result) c.direct_methods.ensures c.greatest_of_methods.ensures in
    let theirs = subst (λ (xs : List NumberedMethod). IsGreatest (flat_map method_short_strings xs) c.greatest_of_methods-2.result) c.virtual_methods.ensures c.greatest_of_methods-2.ensures in
    let both : IsGreatest (flat_map method_short_strings direct ++ flat_map method_short_strings virtual) c.max.result = rw c.max.ensures (greater_of (flat_map method_short_strings direct) (flat_map method_short_strings virtual) c.greatest_of_methods.result c.greatest_of_methods-2.result mine theirs) in
    subst (λ ns. IsGreatest ns c.max.result) (sym (flat_map-append method_short_strings direct virtual)) both
