use Rattle.dexhead.proofs.Common.{◌≡◌, ◌≢◌, rules, arith, subst, sym, ap, ◌∙◌, All-more, MapEntry, entries}
use Rattle.dexhead.proofs.Entries.{length-entries, never, kind_lacks}
use Rattle.dexhead.proofs.map.Map.lacks.Goals as goal

pub returns-then-entry-kind : goal.returns-then-entry-kind
returns-then-entry-kind c =
    let e : c.entry.result.kind ≡ c.args.kind = search rules in
    (λ x. absurd (never x), λ h. absurd (kind_lacks (entries c.args.self.now) c.args.kind c.args.count c.loop-i.i (omega (arith, length-entries c.args.self.now)) (omega (arith, length-entries c.args.self.now)) (sym (ap (λ (x : MapEntry). x.kind) c.entry.ensures) ∙ e) h))

pub loop-i-preserved : goal.loop-i-preserved
loop-i-preserved c =
    let n : c.entry.result.kind ≢ c.args.kind = search rules in
    All-more (λ (x : MapEntry). x.kind ≢ c.args.kind) (entries c.args.self.now) c.loop-i.i (record { kind = 0; size = 0; off = 0 }) (omega (arith, length-entries c.args.self.now)) c.loop-i.invariant
    (subst (λ (x : MapEntry). x.kind ≢ c.args.kind) c.entry.ensures n)
