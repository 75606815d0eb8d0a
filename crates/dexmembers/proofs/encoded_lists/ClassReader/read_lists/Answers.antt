use Rattle.dexmembers.proofs.Common.{◌+◌, None, refl, sym, subst, arith, map, false≢true, err_from_is_err_and, ShareNone}
use Rattle.dexmembers.specs.{NumbersRise}
use Rattle.dexmembers.proofs.MemberChains.{chain_rises, no_second, not_apart, refused_so}
use Rattle.dexmembers.proofs.encoded_lists.ClassReader.read_lists.Goals as goal

pub returns-in_err-others-clause-fault : goal.returns-in_err-others-clause-fault
returns-in_err-others-clause-fault g c =
    let at = g.T.Encoded.encodes c.args.self.now.pools.now c.args.self.now.class in
    let e = err_from_is_err_and c.from_residual-in_err-others.result c.from_residual-in_err-others.ensures.1 in
    rw (e.1, e.2) (refused_so (no_second at g.T.Encoded.index_of (c.law.ensures.one c.args.self.now.pools.now c.args.self.now.class) c.args.self.now.bytes.now c.args.at c.args.count c.args.other_count c.in_ok-members.members.items c.in_ok-members.size c.in_ok-members.ensures.list)
    c.in_err-others.field-0.0 c.in_err-others.ensures.fault)

pub are_apart-requires-clause-left_rise : goal.are_apart-requires-clause-left_rise
are_apart-requires-clause-left_rise g c =
    let at = g.T.Encoded.encodes c.args.self.now.pools.now c.args.self.now.class in
    subst (λ xs. NumbersRise (map g.T.Encoded.index_of xs)) (sym c.deref.ensures.value)
    (chain_rises at g.T.Encoded.index_of (c.law.ensures.follows c.args.self.now.pools.now c.args.self.now.class) c.args.self.now.bytes.now c.args.at None c.in_ok-members.members.items c.in_ok-members.size c.in_ok-members.ensures.list.are_encoded)

pub are_apart-requires-clause-right_rise : goal.are_apart-requires-clause-right_rise
are_apart-requires-clause-right_rise g c =
    let at = g.T.Encoded.encodes c.args.self.now.pools.now c.args.self.now.class in
    subst (λ xs. NumbersRise (map g.T.Encoded.index_of xs)) (sym c.deref-2.ensures.value)
    (chain_rises at g.T.Encoded.index_of (c.law.ensures.follows c.args.self.now.pools.now c.args.self.now.class) c.args.self.now.bytes.now (c.args.at + c.in_ok-members.size) None c.in_ok-others.others.items c.in_ok-others.others_size c.in_ok-others.ensures.list.are_encoded)

pub returns-then-not-are_apart-clause-fault : goal.returns-then-not-are_apart-clause-fault
returns-then-not-are_apart-clause-fault g c =
    let at = g.T.Encoded.encodes c.args.self.now.pools.now c.args.self.now.class in
    let index = g.T.Encoded.index_of in
    let shared : ShareNone (map index c.in_ok-members.members.items) (map index c.in_ok-others.others.items) → ⊥ =
    λ none. false≢true (c.if-not-are_apart.ensures.1 (subst (λ xs. ShareNone (map index xs) (map index c.deref-2.result.now)) (sym c.deref.ensures.value) (subst (λ ys. ShareNone (map index c.in_ok-members.members.items) (map index ys)) (sym c.deref-2.ensures.value) none))) in
    (refl, not_apart at index (c.law.ensures.one c.args.self.now.pools.now c.args.self.now.class) c.args.self.now.bytes.now c.args.at c.args.count c.args.other_count c.in_ok-members.members.items c.in_ok-others.others.items c.in_ok-members.size c.in_ok-others.others_size c.in_ok-members.ensures.list c.in_ok-others.ensures.list shared)

pub returns-clause-lists : goal.returns-clause-lists
returns-clause-lists g c =
    let index = g.T.Encoded.index_of in
    record {
      are_encoded = record {
        first_size = c.in_ok-members.size;
        second_size = c.in_ok-others.others_size;
        first = c.in_ok-members.ensures.list.are_encoded;
        second = c.in_ok-others.ensures.list.are_encoded;
        apart = subst (λ ys. ShareNone (map index c.in_ok-members.members.items) (map index ys)) c.deref-2.ensures.value (subst (λ xs. ShareNone (map index xs) (map index c.deref-2.result.now)) c.deref.ensures.value (c.if-not-are_apart.ensures.0 refl));
        size = refl;
      };
      many = c.in_ok-members.ensures.list.many;
      others = c.in_ok-others.ensures.list.many;
      within = omega (arith, c.in_ok-others.ensures.list.within);
    }
