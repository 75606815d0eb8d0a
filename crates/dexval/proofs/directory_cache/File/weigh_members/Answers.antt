use Rattle.dexval.proofs.Common.{◌≡◌, ◌+◌, ◌*◌, ◌++◌, ◌∷◌, ◌∙◌, ℕ, [], sum_by, refl, sym, subst, arith, uint_at, ArePairsAt}
use Rattle.dexval.proofs.DirectoryRead.{HaveReadPairs, no_pair_yet, one_pair_more, no_pair_next, no_item_next, pairs_end}
use Rattle.dexval.proofs.DirectoryChecked.{one_weighed, weighed_as}
use Rattle.dexval.proofs.Keeping.{members_add}
use Rattle.dexval.proofs.Refusals.{err_is, refuses_so}
use Rattle.dexval.proofs.directory_cache.File.weigh_members.Goals as goal

pub checked_at-requires-clause-other : goal.checked_at-requires-clause-other
checked_at-requires-clause-other g c = λ e. c.in_ok-number.ensures.pair.0.offset (sym c.in_ok-number.ensures.pair.2 ∙ e)

pub returns-in_err-number-clause-refused : goal.returns-in_err-number-clause-refused
returns-in_err-number-clause-refused g c = λ p.
    let m = c.args.self.now.pools.now in
    let h = c.loop-i.invariant.weighed p in
    rw (err_is c.from_residual.result c.from_residual.ensures.1) (refuses_so 22 (no_pair_next (g.T.OfMember.is_known m) (g.T.OfMember.inside m) g.T.OfMember.encodes c.args.self.now.frame.now c.args.pairs.now.at c.args.pairs.now.count c.args.pairs.now.limit c.loop-i.i c.loop-i.least h.item (omega arith) h.is_read) c.in_err-number.field-0.0 c.in_err-number.ensures.refused)

pub returns-in_err-item-clause-refused : goal.returns-in_err-item-clause-refused
returns-in_err-item-clause-refused g c = λ p.
    let encodes = g.T.OfMember.encodes in
    let b = c.args.self.now.frame.now in
    rw (err_is c.from_residual-in_err-item.result c.from_residual-in_err-item.ensures.1) (refuses_so 22 (λ none. no_item_next encodes b c.args.pairs.now.at c.args.pairs.now.count c.args.pairs.now.limit c.loop-i.i (omega arith) (subst (λ (o : ℕ). (y : g.T.OfMember.Meant) → encodes b o y → ⊥) c.in_ok-number.ensures.pair.2 none)) c.in_err-item.field-0.0 (c.in_err-item.ensures.refused p))

pub loop-i-init : goal.loop-i-init
loop-i-init g c = record {
  least_fits = omega arith;
  checked = c.requires.checked;
  weighed = λ p.
      record {
        item = [];
        is_read = no_pair_yet (g.T.OfMember.is_known c.args.self.now.pools.now) (g.T.OfMember.inside c.args.self.now.pools.now) g.T.OfMember.encodes c.args.self.now.frame.now c.args.pairs.now.at c.args.pairs.now.limit;
        weight_is = omega arith;
      };
}

pub loop-i-preserved : goal.loop-i-preserved
loop-i-preserved g c =
    let Numbered = g.T.OfMember.Numbered in
    let encodes = g.T.OfMember.encodes in
    let b = c.args.self.now.frame.now in
    let i = c.loop-i.i in
    let Known = g.T.OfMember.is_known c.args.self.now.pools.now in
    let inside = g.T.OfMember.inside c.args.self.now.pools.now in
    let weighs = λ (x : g.T.OfMember.Numbered). g.T.OfMember.weighs (inside x) in
    let number = c.in_ok-number.number in
    let Read = HaveReadPairs Known inside encodes b c.args.pairs.now.at c.args.pairs.now.limit in
    let least : number ≡ c.from-least.result = omega (arith, c.from-least.ensures) in
    record {
      least_fits = omega (arith, c.from-least.ensures);
      checked = λ p. c.in_ok-item.ensures.checked p;
      weighed = λ p.
          let r = c.in_ok-item.ensures.weight p in
          let there : encodes b (uint_at b (c.args.pairs.now.at + 8 * i + 4)) (inside r.item) = subst (λ (o : ℕ). encodes b o (inside r.item)) c.in_ok-number.ensures.pair.2 r.is_read.at in
          one_weighed (Read i c.loop-i.least) (Read (i + 1) (c.from-least.result + 1)) (sum_by (λ (e : ℕ × Numbered). weighs e.1)) (λ (e : ℕ × Numbered). weighs e.1) (number, r.item)
          (λ xs k. subst (λ (x : ℕ). Read (i + 1) (x + 1) (xs ++ (number, r.item) ∷ [])) least (one_pair_more Known inside encodes b c.args.pairs.now.at c.args.pairs.now.limit i c.loop-i.least xs number r.item k c.in_ok-number.ensures.pair.0 c.in_ok-number.ensures.pair.1 r.is_read.known there))
          (members_add weighs (number, r.item)) (c.loop-i.invariant.weighed p) r.weight_is (omega (arith, c.saturating_add-weight.ensures));
    }

pub returns-clause-weight : goal.returns-clause-weight
returns-clause-weight g c = λ p.
    let encodes = g.T.OfMember.encodes in
    let b = c.args.self.now.frame.now in
    let Known = g.T.OfMember.is_known c.args.self.now.pools.now in
    let inside = g.T.OfMember.inside c.args.self.now.pools.now in
    let weighs = sum_by (λ (e : ℕ × g.T.OfMember.Numbered). g.T.OfMember.weighs (g.T.OfMember.inside c.args.self.now.pools.now e.1)) in
    weighed_as (HaveReadPairs Known inside encodes b c.args.pairs.now.at c.args.pairs.now.limit c.loop-i.i c.loop-i.least) (ArePairsAt Known inside encodes b c.args.pairs.now.at c.args.pairs.now.count c.args.pairs.now.limit) weighs weighs (λ xs k. pairs_end Known inside encodes b c.args.pairs.now.at c.args.pairs.now.count c.args.pairs.now.limit c.loop-i.i c.loop-i.least xs (omega arith) k) (λ xs k. refl) (c.loop-i.invariant.weighed p)
