use Rattle.dexmembers.proofs.Common.{◌≡◌, ◌+◌, ◌<◌, ◌++◌, ◌∷◌, [], ℕ, List, take, get_or, length, sym, ap, subst, ◌∙◌, arith, flat_map, take_more, append-nil, flat_map-append, IsGreatest}
use Rattle.dexmembers.specs.{NumberedMethod, method_short_strings}
use Rattle.dexmembers.proofs.Placed.{greater_of}
use Rattle.dexmembers.proofs.short_strings.greatest_of_methods.Goals as goal

-- the short strings of one method more
one_more : (xs : List NumberedMethod) (i : ℕ) (x : NumberedMethod) → i < length xs → x ≡ get_or xs i x → flat_map method_short_strings (take (i + 1) xs) ≡ flat_map method_short_strings (take i xs) ++ method_short_strings x
one_more xs i x lt is =
    ap (flat_map method_short_strings) (take_more xs i x lt) ∙ flat_map-append method_short_strings (take i xs) (get_or xs i x ∷ [])
    ∙ ap (λ ns. flat_map method_short_strings (take i xs) ++ ns) (append-nil (method_short_strings (get_or xs i x)) ∙ ap method_short_strings (sym is))

pub loop-i-preserved : goal.loop-i-preserved
loop-i-preserved c =
    let xs = c.args.methods.now in
    let i = c.loop-i.i in
    let x = c.get.result in
    subst (λ ns. IsGreatest ns c.max-greatest.result) (sym (one_more xs i x (omega arith) c.get.ensures))
    (rw c.max-greatest.ensures (greater_of (flat_map method_short_strings (take i xs)) (method_short_strings x) c.loop-i.greatest c.greatest_short_string.result c.loop-i.invariant c.greatest_short_string.ensures))
