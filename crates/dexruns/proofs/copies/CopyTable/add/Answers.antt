use Rattle.std.proofs.Common.{◌≡◌, refl, ◌∙◌, ◌∷◌, [], ◌++◌, cond, ap, sym, subst, Some, None}
use Rattle.std.specs.Prelude.{IsSome}
use Rattle.std.specs.BTreeMap.{get}
use Rattle.std.specs.Ordering.{is_eq}
use Rattle.dexspec.specs.Texts.{text_cmp}
use Rattle.dexruns.specs.declared.copies.Copies.{Copies}
use Rattle.dexruns.specs.internal.CopyTables.{copies_at, copies_list, found_copies, added}
use Rattle.dexruns.proofs.CopyTables.{added_at}
use Rattle.dexruns.proofs.copies.CopyTable.add.Goals as goal

pub returns-in-Some : goal.returns-in-Some
returns-in-Some c = λ q.
    let m = c.args.self.now.classes in
    let old : Copies = c.in-Some.copies.now in
    let new : Copies = record { first = old.first; others = c.push.new.self } in
    let there : Some old ≡ get text_cmp m c.in_ok-of.field-0 = c.in-Some.ensures.value in
    let writes = (c.get_mut.follows.holds new).3 (subst IsSome there refl) in
    added_at m (c.get_mut.follows.lender new) c.in_ok-of.field-0 new (copies_list old) c.args.copy writes.0 (ap found_copies (sym there)) (ap (λ l. old.first ∷ l) c.in_ok-push.ensures.items) q
    ∙ ap (λ name. copies_at m q ++ added name c.args.copy q) c.in_ok-of.ensures

pub returns : goal.returns
returns c = λ q.
    let m = c.args.self.now.classes in
    let new : Copies = record { first = c.args.copy; others = c.new.result } in
    let none : None ≡ get text_cmp m c.in_ok-of.field-0 = c.in_default.ensures.value in
    let same = c.get_mut.follows.holds-at-none in
    added_at m c.insert.new.self c.in_ok-of.field-0 new [] c.args.copy (λ n. c.in_ok-insert.ensures.updates.0 n ∙ ap (λ x. cond (is_eq (text_cmp c.in_ok-of.field-0 n)) (Some new) (get text_cmp x n)) same) (ap found_copies (sym none)) (ap (λ l. c.args.copy ∷ l) c.new.ensures.items) q
    ∙ ap (λ name. copies_at m q ++ added name c.args.copy q) c.in_ok-of.ensures
