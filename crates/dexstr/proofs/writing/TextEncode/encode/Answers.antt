use Rattle.dexstr.proofs.Common.{◌≡◌, ℕ, ◌∷◌, [], ◌++◌, length, sym, subst, ap, ◌∙◌, uleb128, spelling}
use Rattle.dexstr.proofs.writing.TextEncode.encode.Goals as goal

pub returns : goal.returns
returns g c =
    let s = c.args.self.now in
    let is : c.bytes-spelled.result.now ≡ spelling s = sym c.bytes-spelled.ensures.spelled.spelled.parts ∙ ap spelling c.bytes-spelled.ensures.units in
    g.met.O.Output.both (uleb128 (length s)) (spelling s ++ 0 ∷ []) c.args.out.now c.uleb.new.self c.byte.new.self (subst (λ (n : ℕ). g.O.Output.gives (uleb128 n) c.args.out.now c.uleb.new.self) c.len.ensures.len c.uleb.ensures)
    (g.met.O.Output.both (spelling s) (0 ∷ []) c.uleb.new.self c.bytes.new.self c.byte.new.self (subst (λ bs. g.O.Output.gives bs c.uleb.new.self c.bytes.new.self) is c.bytes.ensures) c.byte.ensures)
