use Rattle.dexhead.proofs.Common.{◌≡◌, ◌≢◌, ap, rules, arith, refl, subst, sym, ◌∙◌, All, take_all, All-contains, All-more, MapEntry, entries, read}
use Rattle.dexhead.proofs.Entries.{length-entries, never, found, read_same}
use Rattle.dexhead.proofs.map.Map.has.Goals as goal

pub returns-then-eq : goal.returns-then-eq
returns-then-eq c =
    let same : c.entry.result ≡ c.args.entry = search rules in
    (λ x. found (entries c.args.self.now) (read c.args.entry) c.loop-i.i (omega (arith, length-entries c.args.self.now)) (sym c.entry.ensures ∙ ap read same), λ h. refl)

pub loop-i-preserved : goal.loop-i-preserved
loop-i-preserved c =
    let other : c.entry.result ≢ c.args.entry = search rules in
    All-more (λ (x : MapEntry). x ≢ read c.args.entry) (entries c.args.self.now) c.loop-i.i (record { kind = 0; size = 0; off = 0 }) (omega (arith, length-entries c.args.self.now)) c.loop-i.invariant
    (λ same. other (read_same (c.entry.ensures ∙ same)))

pub returns : goal.returns
returns c = (
  λ x. absurd (never x),
  λ h. absurd (All-contains (λ (x : MapEntry). x ≢ read c.args.entry) (entries c.args.self.now) (read c.args.entry)
      (subst (λ xs. All (λ (x : MapEntry). x ≢ read c.args.entry) xs) (take_all c.loop-i.i (entries c.args.self.now) (omega (arith, length-entries c.args.self.now))) c.loop-i.invariant) h refl),
)
