use Rattle.dexmembers.proofs.Common.{◌≡◌, ◌∷◌, [], ◌++◌, None, Some, refl, sym, subst, ap, ◌∙◌, arith, ◌+◌, length, common_steps, length-append}
use Rattle.dexmembers.specs.internal.EncodedMembers.{Chain, last_index}
use Rattle.dexmembers.proofs.MemberChains.{chain_more, last_more, stuck}
use Rattle.dexmembers.proofs.encoded_lists.ClassReader.read_list.Goals as goal

pub returns-in-None-clause-fault : goal.returns-in-None-clause-fault
returns-in-None-clause-fault g c = (
  refl,
  λ xs n many h.
      let at = g.T.Encoded.encodes c.args.self.now.pools.now c.args.self.now.class in
      let index = g.T.Encoded.index_of in
      stuck at index (c.law.ensures.one c.args.self.now.pools.now c.args.self.now.class) c.args.self.now.bytes.now c.args.at None c.loop.members.items xs c.loop.size n
      (omega (arith, many, c.loop.invariant.read.many, c.loop-test.true)) c.loop.invariant.read.are_encoded
      (λ x m there. c.in-None.ensures.none x m (subst (λ last. at c.args.self.now.bytes.now (c.args.at + c.loop.size) last x m) (sym c.loop.invariant.last) there)) h,
)

pub loop-preserved : goal.loop-preserved
loop-preserved g c =
    let at = g.T.Encoded.encodes c.args.self.now.pools.now c.args.self.now.class in
    let index = g.T.Encoded.index_of in
    let pushed : c.push.new.self.items ≡ c.loop.members.items ++ c.in-Some.read.0 ∷ [] = grind (arith, common_steps) in
    let read = subst (λ last. at c.args.self.now.bytes.now (c.args.at + c.loop.size) last c.in-Some.read.0 c.in-Some.read.1) c.loop.invariant.last c.in-Some.ensures.some in
    record {
      read = record {
        are_encoded = subst (λ xs. Chain at index c.args.self.now.bytes.now c.args.at None xs (c.loop.size + c.in-Some.read.1)) (sym pushed)
            (chain_more at index c.args.self.now.bytes.now c.args.at None c.loop.members.items c.in-Some.read.0 c.loop.size c.in-Some.read.1 c.loop.invariant.read.are_encoded read);
        many = ap length pushed ∙ length-append c.loop.members.items (c.in-Some.read.0 ∷ []) ∙ ap (λ k. k + 1) c.loop.invariant.read.many;
        within = omega (arith, c.in-Some.ensures.within);
      };
      last = ap Some c.index.ensures ∙ sym (last_more index None c.loop.members.items c.in-Some.read.0) ∙ ap (last_index index None) (sym pushed);
    }
