use Rattle.std.proofs.lemmas.Iterator.{YieldsList-from_map_by, YieldsList-from_slice}
use Rattle.std.proofs.lemmas.Iterator.Consumers.{YieldsList-at}
use Rattle.std.specs.Bool.{Decides}
use Rattle.dexcode.proofs.Common.{◌≡◌, ◌↔◌, ℕ, Bool, IsTrue, List, map, ap, sym, ◌∙◌, Catch, Maps, NumberedHandler, renumbered_catch, renumbered_handler, rules}
use Rattle.dexcode.specs.Equality.{catch_decides}
use Rattle.dexdebug.proofs.Compared.{decides_by_eq}
use Rattle.dexcode.proofs.tries_same.same_handler.Goals as goal

abbrev catch_of : ℕ × ℕ → Catch
catch_of parts = record { typ = parts.0; addr = parts.1 }

-- handlers with one address for all else are compared by their catches
by_catches : (r s : Maps) (h k : NumberedHandler) (cs ds : List Catch) → cs ≡ h.catches → ds ≡ k.catches → h.catch_all_addr ≡ k.catch_all_addr → (b : Bool) → Decides b (map (renumbered_catch r) cs ≡ map (renumbered_catch s) ds) → IsTrue b ↔ (renumbered_handler r h ≡ renumbered_handler s k)
by_catches r s h k cs ds e f addr b same = (
  (λ t. let catches = ap (map (renumbered_catch r)) (sym e) ∙ same.0 t ∙ ap (map (renumbered_catch s)) f in λ i. record { catches = catches i; catch_all_addr = addr i }),
  (λ g. same.1 (ap (map (renumbered_catch r)) e ∙ ap (λ (x : NumberedHandler). x.catches) g ∙ sym (ap (map (renumbered_catch s)) f))),
)

pub returns : goal.returns
returns c =
    let addr : c.args.handler.now.catch_all_addr ≡ c.args.other.now.catch_all_addr = search rules in
    by_catches c.args.mine.now c.args.theirs.now c.args.handler.now c.args.other.now c.catches.result.now c.catches-2.result.now c.catches.ensures c.catches-2.ensures addr c.eq.result (
    decides_by_eq {v = catch_of} {w = catch_of} _ (λ x y. catch_decides (catch_of x) (catch_of y)) _ _ c.eq.ensures.ran
    (YieldsList-from_map_by _ catch_of (renumbered_catch c.args.mine.now) (YieldsList-at c.map.ensures.source (YieldsList-from_slice c.catches.result.now cc)) c.map.ensures.closure (λ x r q k. search rules))
    (λ it becomes. YieldsList-at becomes (YieldsList-from_map_by _ catch_of (renumbered_catch c.args.theirs.now) (YieldsList-at c.map-2.ensures.source (YieldsList-from_slice c.catches-2.result.now cc)) c.map-2.ensures.closure (λ x r q k. search rules))))
