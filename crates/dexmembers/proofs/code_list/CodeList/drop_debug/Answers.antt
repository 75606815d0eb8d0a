use Rattle.dexmembers.proofs.Common.{◌≡◌, ◌∙◌, ap, map, arith, changed_more}
use Rattle.dexpool.proofs.Changed.{all_changed}
use Rattle.dexmembers.specs.{codes_with, stripped_code}
use Rattle.dexmembers.proofs.CodeLists.{codes_stripped, stored_stripped, unplaced}
use Rattle.dexmembers.proofs.code_list.CodeList.drop_debug.Goals as goal

pub loop-i-preserved : goal.loop-i-preserved
loop-i-preserved c = record {
  codes = changed_more unplaced c.self.inside.items.items c.loop-i.self-inside.items.items c.loop-i.i c.index_mut.result.now (record { code = c.index_mut.result.now.code; debug = c.none.result }) c.loop-i.invariant.codes (omega arith) (λ i. record { code = (c.index_mut.ensures.value i).code; debug = c.none.ensures i });
  debugs = c.loop-i.invariant.debugs;
}

pub invariant_of-self : goal.invariant_of-self
invariant_of-self c =
    let x = c.self.inside in
    let codes : c.loop-i.self-inside.items.items ≡ map unplaced x.items.items = all_changed unplaced x.items.items c.loop-i.self-inside.items.items c.loop-i.i c.loop-i.invariant.codes (omega arith) in
    rw (codes, c.loop-i.invariant.debugs) (stored_stripped x.debugs.items x.items.items c.self.invariant)

pub returns : goal.returns
returns c =
    let x = c.self.inside in
    let codes : c.loop-i.self-inside.items.items ≡ map unplaced x.items.items = all_changed unplaced x.items.items c.loop-i.self-inside.items.items c.loop-i.i c.loop-i.invariant.codes (omega arith) in
    (λ i. codes_with (c.loop-i.invariant.debugs i) (codes i)) ∙ codes_stripped x.debugs.items x.items.items ∙ ap (map stripped_code) c.self.view_is
