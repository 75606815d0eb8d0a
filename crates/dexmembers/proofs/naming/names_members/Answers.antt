use Rattle.dexmembers.proofs.Common.{◌≡◌, ◌∙◌, ◌+◌, ◌*◌, ◌++◌, ℕ, List, map, sym, ap, subst, true, false, arith, Contains, uint_at}
use Rattle.dexmembers.specs.internal.Naming.{NamesOnly}
use Rattle.dexmembers.proofs.Named.{names_more, names_each}
use Rattle.dexmembers.proofs.naming.names_members.Goals as goal

pub returns-then-not-declares_member-clause-missing : goal.returns-then-not-declares_member-clause-missing
returns-then-not-declares_member-clause-missing g c = λ rise names.
    let numbers = map g.T.Encoded.index_of c.args.first.now ++ map g.T.Encoded.index_of c.args.second.now in
    let index : c.u32_at-index.result ≡ uint_at c.args.frame.now (c.args.at + 8 * c.loop-i.i) = c.u32_at-index.ensures ∙ ap (λ (x : List ℕ). uint_at x (c.args.at + 8 * c.loop-i.i)) c.bytes-bytes.ensures.bytes in
    let there = names_each c.args.frame.now c.args.at c.args.count c.loop-i.i numbers (omega arith) names in
    let found = c.declares_member.ensures.missing rise (subst (Contains numbers) (sym index) there) in
    absurd (let e : false ≡ true = sym c.if-not-declares_member.true ∙ found in cc)

pub loop-i-preserved : goal.loop-i-preserved
loop-i-preserved g c =
    let numbers = map g.T.Encoded.index_of c.args.first.now ++ map g.T.Encoded.index_of c.args.second.now in
    let index : c.u32_at-index.result ≡ uint_at c.args.frame.now (c.args.at + 8 * c.loop-i.i) = c.u32_at-index.ensures ∙ ap (λ (x : List ℕ). uint_at x (c.args.at + 8 * c.loop-i.i)) c.bytes-bytes.ensures.bytes in
    names_more c.args.frame.now c.args.at c.loop-i.i numbers c.u32_at-index.result c.loop-i.invariant index (c.declares_member.ensures.listed c.if-not-declares_member.false)

pub returns-clause-listed : goal.returns-clause-listed
returns-clause-listed g c = λ e.
    let all : c.loop-i.i ≡ c.args.count = omega arith in
    subst (λ (n : ℕ). NamesOnly c.args.frame.now c.args.at n (map g.T.Encoded.index_of c.args.first.now ++ map g.T.Encoded.index_of c.args.second.now)) all c.loop-i.invariant
