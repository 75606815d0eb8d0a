use Rattle.std.proofs.Common.{◌≡◌, ℕ, List, [], ◌∷◌, ◌≢◌, None, refl, sym, ap, ◌∙◌, Bor, arith}
use Rattle.std.specs.Option.{option_map}
use Rattle.std.proofs.lemmas.Bool.{ne_eqb}
use Rattle.std.proofs.lemmas.Str.Pattern.{strip_prefix_char}
use Rattle.dexargs.specs.Lists.{named_list}
use Rattle.dexargs.proofs.lists.list_name.Goals as goal

-- an argument that does not begin with `@` names no list
named_by_none : (bs : List ℕ) → ((rest : List ℕ) → bs ≢ 64 ∷ rest) → named_list bs ≡ None
named_by_none [] h = refl
named_by_none (b ∷ bs) h = rw (ne_eqb b 64 (λ e. h bs (ap (λ x. x ∷ bs) e))) refl

pub returns-in_err-name : goal.returns-in_err-name
returns-in_err-name c =
    let begins = strip_prefix_char 64 c.args.argument.now None c.in_err-name.ensures.cases (omega arith) in
    ap (option_map (λ (name : Bor (List ℕ)). name.now)) c.from_residual.ensures
    ∙ sym (named_by_none c.args.argument.now begins)
