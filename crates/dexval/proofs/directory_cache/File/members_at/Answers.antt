use Rattle.dexval.proofs.Common.{◌≡◌, ◌+◌, ◌*◌, ◌++◌, ◌∷◌, ◌∙◌, ℕ, List, [], Some, map, sum_by, ap, sym, subst, arith, map-append, All-nil, PairsAt, uint_at, IsIndexBelow, IsNamedOf, NumberedTable, HasCounted}
use Rattle.dexval.proofs.DirectoryRead.{HaveReadPairs, no_pair_yet, one_pair_more, no_pair_next, item_part, pairs_end}
use Rattle.dexval.proofs.Keeping.{one_counted, members_add}
use Rattle.dexval.proofs.Naming.{AreNoted, members_step}
use Rattle.dexval.proofs.Refusals.{err_is, HasPart, none_counted, refused_within, part_refused}
use Rattle.dexval.proofs.TableGrowth.{extends_same, none_new, map_stays}
use Rattle.dexval.proofs.directory_cache.File.members_at.Goals as goal

pub returns-in_err-number-clause-refused : goal.returns-in_err-number-clause-refused
returns-in_err-number-clause-refused g c = λ p.
    let m = c.args.self.now.pools.now in
    let pairs = c.args.pairs.now in
    let encodes = g.T.OfMember.encodes in
    let kept : List (ℕ × g.T.OfMember.Numbered) = map (λ (e : ℕ × ℕ). (e.0, g.T.OfMember.of c.loop-i.kept.cache.table (Some e.1))) c.loop-i.members.items in
    rw (err_is c.from_residual.result c.from_residual.ensures.1)
    (refused_within (PairsAt (IsIndexBelow pairs.limit) encodes c.args.self.now.frame.now pairs.at pairs.count) (sum_by (λ (e : ℕ × g.T.OfMember.Meant). g.T.OfMember.weighs e.1)) c.args.kept.now.budget.weight c.args.kept.now.budget.most
    (no_pair_next (g.T.OfMember.is_known m) (g.T.OfMember.inside m) encodes c.args.self.now.frame.now pairs.at pairs.count pairs.limit c.loop-i.i c.loop-i.least kept (omega arith) (c.loop-i.invariant.read p).is_read) c.in_err-number.field-0.0 c.in_err-number.ensures.refused)

pub returns-in_err-place-clause-refused : goal.returns-in_err-place-clause-refused
returns-in_err-place-clause-refused g c = λ p.
    let b = c.args.self.now.frame.now in
    let encodes = g.T.OfMember.encodes in
    let inside = g.T.OfMember.inside c.args.self.now.pools.now in
    let weighs = g.T.OfMember.weighs in
    let all = sum_by (λ (e : ℕ × g.T.OfMember.Meant). weighs e.1) in
    let kept : List (ℕ × g.T.OfMember.Numbered) = map (λ (e : ℕ × ℕ). (e.0, g.T.OfMember.of c.loop-i.kept.cache.table (Some e.1))) c.loop-i.members.items in
    let before = sum_by (λ (e : ℕ × g.T.OfMember.Numbered). weighs (inside e.1)) kept in
    let h = c.loop-i.invariant.read p in
    rw (err_is c.from_residual-in_err-place.result c.from_residual-in_err-place.ensures.1)
    (part_refused (PairsAt (IsIndexBelow c.args.pairs.now.limit) encodes b c.args.pairs.now.at c.args.pairs.now.count) (encodes b c.in_ok-number.off) all weighs c.args.kept.now.budget c.loop-i.kept.budget before h.counted
    (λ entries k. subst (λ (o : ℕ). HasPart (encodes b o) weighs before (all entries)) (sym c.in_ok-number.ensures.pair.2)
    (item_part (g.T.OfMember.is_known c.args.self.now.pools.now) inside encodes weighs g.met.T.OfMember.one b c.args.pairs.now.at c.args.pairs.now.count c.args.pairs.now.limit c.loop-i.i c.loop-i.least kept (omega arith) h.is_read entries k))
    c.in_err-place.field-0.0 (c.in_err-place.ensures.refused p))

pub loop-i-init : goal.loop-i-init
loop-i-init g c =
    let pairs = c.args.pairs.now in
    let table = c.args.kept.now.cache.table in
    record {
      least_fits = omega arith;
      noted = subst (AreNoted g.T.OfMember.is_held g.T.OfMember.names_set g.T.OfMember.names_list c.args.kept.now.cache c.args.kept.now.cache) (sym c.requires.room.empty)
          (record {
            extended = extends_same table;
            noted_held = c.requires.held;
            held = All-nil (λ (e : ℕ × ℕ). g.T.OfMember.is_held table (Some e.1));
            named = none_new (IsNamedOf (g.T.OfMember.names_set table) []) (IsNamedOf g.T.OfMember.names_list []) table;
          });
      cache = c.requires.cache;
      read = λ p.
          let Known = g.T.OfMember.is_known c.args.self.now.pools.now in
          let inside = g.T.OfMember.inside c.args.self.now.pools.now in
          let Counted = HasCounted (HaveReadPairs Known inside g.T.OfMember.encodes c.args.self.now.frame.now pairs.at pairs.limit 0 0) (sum_by (λ (e : ℕ × g.T.OfMember.Numbered). g.T.OfMember.weighs (inside e.1))) c.args.kept.now.budget c.args.kept.now.budget in
          subst (λ (l : List (ℕ × ℕ)). Counted (map (λ e. (e.0, g.T.OfMember.of table (Some e.1))) l)) (sym c.requires.room.empty) (record { is_read = no_pair_yet Known inside g.T.OfMember.encodes c.args.self.now.frame.now pairs.at pairs.limit; counted = none_counted c.args.kept.now.budget });
    }

pub loop-i-preserved : goal.loop-i-preserved
loop-i-preserved g c =
    let Numbered = g.T.OfMember.Numbered in
    let encodes = g.T.OfMember.encodes in
    let b = c.args.self.now.frame.now in
    let Known = g.T.OfMember.is_known c.args.self.now.pools.now in
    let inside = g.T.OfMember.inside c.args.self.now.pools.now in
    let weighs : Numbered → ℕ = λ x. g.T.OfMember.weighs (inside x) in
    let new = c.counted_at.new.kept.cache in
    let number = c.in_ok-number.number in
    let place = c.in_ok-place.place in
    let before = c.loop-i.members.items in
    let after = c.push.new.self.items in
    let noted = c.in_ok-place.ensures.noted in
    let item = g.T.OfMember.of new.table (Some place) in
    let entry : NumberedTable → ℕ × ℕ → ℕ × Numbered = λ t e. (e.0, g.T.OfMember.of t (Some e.1)) in
    let kept = map (entry c.loop-i.kept.cache.table) before in
    let Read = HaveReadPairs Known inside encodes b c.args.pairs.now.at c.args.pairs.now.limit in
    let least : number ≡ c.from-least.result = omega (arith, c.from-least.ensures) in
    let put : after ≡ before ++ (number, place) ∷ [] = c.in_ok-push.ensures.items in
    let stay : map (entry new.table) before ≡ kept =
    map_stays (entry c.loop-i.kept.cache.table) (entry new.table) (λ e. g.T.OfMember.is_held c.loop-i.kept.cache.table (Some e.1)) (λ e h. ap (λ (x : Numbered). (e.0, x)) (g.met.T.OfMember.stays c.loop-i.kept.cache.table new.table (Some e.1) noted.extended h).1) before c.loop-i.invariant.noted.held
    in
    let pushed : map (entry new.table) after ≡ kept ++ (number, item) ∷ [] =
    ap (map (entry new.table)) put ∙ map-append (entry new.table) before ((number, place) ∷ []) ∙ ap (λ (l : List (ℕ × Numbered)). l ++ (number, item) ∷ []) stay
    in
    record {
      least_fits = omega (arith, c.from-least.ensures);
      noted = members_step g.T.OfMember.is_held g.T.OfMember.names_set g.T.OfMember.names_list (λ t u o extended h. (g.met.T.OfMember.stays t u o extended h).0) g.met.T.OfMember.naming_stays c.args.kept.now.cache c.loop-i.kept.cache new before after number place c.loop-i.invariant.noted noted put;
      cache = λ p. c.in_ok-place.ensures.cache p;
      read = λ p.
          let r = c.in_ok-place.ensures.read p in
          let there : encodes b (uint_at b (c.args.pairs.now.at + 8 * c.loop-i.i + 4)) (inside item) = subst (λ (o : ℕ). encodes b o (inside item)) c.in_ok-number.ensures.pair.2 r.is_read.at in
          one_counted (Read c.loop-i.i c.loop-i.least) (Read (c.loop-i.i + 1) (c.from-least.result + 1)) (sum_by (λ (e : ℕ × Numbered). weighs e.1)) (λ (e : ℕ × Numbered). weighs e.1) (members_add weighs (number, item) kept) (c.loop-i.invariant.read p) r.counted
          (λ k. subst (λ (x : ℕ). Read (c.loop-i.i + 1) (x + 1) (kept ++ (number, item) ∷ [])) least
          (one_pair_more Known inside encodes b c.args.pairs.now.at c.args.pairs.now.limit c.loop-i.i c.loop-i.least kept number item k c.in_ok-number.ensures.pair.0 c.in_ok-number.ensures.pair.1 r.is_read.known there))
          pushed;
    }

pub returns-clause-read : goal.returns-clause-read
returns-clause-read g c = λ p.
    let encodes = g.T.OfMember.encodes in
    let Known = g.T.OfMember.is_known c.args.self.now.pools.now in
    let inside = g.T.OfMember.inside c.args.self.now.pools.now in
    let weighs = sum_by (λ (e : ℕ × g.T.OfMember.Numbered). g.T.OfMember.weighs (inside e.1)) in
    let h = c.loop-i.invariant.read p in
    record { is_read = pairs_end Known inside encodes c.args.self.now.frame.now c.args.pairs.now.at c.args.pairs.now.count c.args.pairs.now.limit c.loop-i.i c.loop-i.least _ (omega arith) h.is_read; counted = h.counted }
