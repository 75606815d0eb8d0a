use Rattle.dexlayout.proofs.Common.{◌++◌, ap, sym, subst, ◌∙◌, append_assoc, map-append, OnOk, same_bytes, HasUses, debug_encoding, debug_encodings}
use Rattle.dexlayout.proofs.bodies.Encodings.add_members.Goals as goal

pub returns : goal.returns
returns c = λ uses h.
    let direct = c.direct_methods.result in
    let virtual = c.virtual_methods.result in
    let joined = append_assoc uses (debug_encodings direct) (debug_encodings virtual) ∙ ap (λ us. uses ++ us) (sym (map-append debug_encoding direct virtual) ∙ (λ i. debug_encodings (c.direct_methods.ensures i ++ c.virtual_methods.ensures i))) in
    subst (λ us. OnOk c.add_methods-2.result (HasUses same_bytes us c.add_methods-2.new.self.sharing)) joined (c.add_methods-2.ensures (uses ++ debug_encodings direct) (c.in_ok-add_methods.ensures uses h))
