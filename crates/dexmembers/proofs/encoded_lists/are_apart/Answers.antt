use Rattle.dexmembers.proofs.Common.{refl, sym, ◌∙◌, inl, inr, arith, nat_cmp-IsAntisymmetric, less_number, false≢true}
use Rattle.dexmembers.proofs.MemberChains.{passed_left, passed_right, passed_same, passed_all}
use Rattle.dexmembers.proofs.encoded_lists.are_apart.Goals as goal

pub loop-i-preserved-in-Less : goal.loop-i-preserved-in-Less
loop-i-preserved-in-Less g c =
    passed_left g.T.Encoded.index_of c.args.left.now c.args.right.now c.loop-i.i c.loop-i.j c.index.result c.index-in-loop-i.result c.index-left-i.result c.index-right-j.result c.loop-i-test.true c.if-j-right.true
    c.index-left-i.is c.index-right-j.is c.index.ensures c.index-in-loop-i.ensures c.requires.right_rise c.loop-i.invariant (less_number _ _ (sym c.in-Less.ensures))

pub returns-in-Equal : goal.returns-in-Equal
returns-in-Equal g c = (
  λ e. absurd (false≢true e),
  λ none. absurd (passed_same g.T.Encoded.index_of c.args.left.now c.args.right.now c.loop-i.i c.loop-i.j c.index.result c.index-left-i.result c.index-right-j.result c.loop-i-test.true c.if-j-right.true
      c.index-left-i.is c.index-right-j.is c.index.ensures (let e = c.in-Equal.ensures in nat_cmp-IsAntisymmetric _ _ (sym e) ∙ c.index-in-loop-i.ensures) none),
)

pub loop-i-preserved : goal.loop-i-preserved
loop-i-preserved g c =
    passed_right g.T.Encoded.index_of c.args.left.now c.args.right.now c.loop-i.i c.loop-i.j c.index.result c.index-in-loop-i.result c.index-left-i.result c.index-right-j.result c.loop-i-test.true c.if-j-right.true
    c.index-left-i.is c.index-right-j.is c.index.ensures c.index-in-loop-i.ensures c.requires.left_rise c.loop-i.invariant (let e = c.in-Greater.ensures in grind arith)

pub returns-else-j-right : goal.returns-else-j-right
returns-else-j-right g c = (λ e. passed_all g.T.Encoded.index_of c.args.left.now c.args.right.now c.loop-i.i c.loop-i.j c.loop-i.invariant (inr c.if-j-right.false), λ none. refl)

pub returns-after-loop-i : goal.returns-after-loop-i
returns-after-loop-i g c = (λ e. passed_all g.T.Encoded.index_of c.args.left.now c.args.right.now c.loop-i.i c.loop-i.j c.loop-i.invariant (inl c.loop-i-test.false), λ none. refl)
