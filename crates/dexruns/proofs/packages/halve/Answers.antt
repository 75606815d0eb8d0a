use Rattle.std.proofs.Common.{◌≡◌, ◌∙◌, arith, map, not, refl, subst, sym}
use Rattle.std.proofs.lemmas.Iterator.Adapters.{YieldsList-from_vec}
use Rattle.std.proofs.lemmas.Iterator.Consumers.{YieldsList-end}
use Rattle.std.proofs.lemmas.List.{map-id}
use Rattle.std.specs.List.{flat_map}
use Rattle.dexspec.specs.Files.{definitions}
use Rattle.dexruns.specs.Packages.{package_of}
use Rattle.dexruns.specs.internal.Halves.{is_before, AreThose}
use Rattle.dexruns.proofs.PackageRows.{chosen_more}
use Rattle.dexruns.proofs.packages.halve.Goals as goal
use Rattle.dexruns.proofs.packages.halve.Goals.{In-None}

pub loop-program-preserved : goal.loop-program-preserved
loop-program-preserved c = record {
  before = chosen_more (λ d. is_before c.args.bound.now (package_of d.0)) c.loop-program.yielded _ c.in-Some.program (flat_map definitions c.loop-program.halves.before.items) (flat_map definitions c.add.new.self.before.items) refl c.loop-program.invariant.before c.in_ok-add.ensures.before;
  others = chosen_more (λ d. not (is_before c.args.bound.now (package_of d.0))) c.loop-program.yielded _ c.in-Some.program (flat_map definitions c.loop-program.halves.others.items) (flat_map definitions c.add.new.self.others.items) refl c.loop-program.invariant.others c.in_ok-add.ensures.others;
}

-- all programs have come
all : (c : In-None) → c.loop-program.yielded ≡ c.args.programs.items
all c =
    sym (map-id c.loop-program.yielded)
    ∙ (YieldsList-end (YieldsList-from_vec {s = c.into_iter-program-iterator.result} c.args.programs.items c.into_iter-program-iterator.ensures.into_iter_gives.0 (omega (arith, c.into_iter-program-iterator.ensures.into_iter_gives.1))) c.loop-program.yielded c.loop-program.program-iterator c.loop-program.yielded_by c.next.result c.next.new.self c.in-None.is c.next.ensures.steps).0

pub returns-clause-before : goal.returns-clause-before
returns-clause-before c = subst (λ Ks. AreThose (λ d. is_before c.args.bound.now (package_of d.0)) (flat_map definitions Ks) (flat_map definitions c.loop-program.halves.before.items)) (all (goal.at.returns-clause-before c).In-None) c.loop-program.invariant.before

pub returns-clause-others : goal.returns-clause-others
returns-clause-others c = subst (λ Ks. AreThose (λ d. not (is_before c.args.bound.now (package_of d.0))) (flat_map definitions Ks) (flat_map definitions c.loop-program.halves.others.items)) (all (goal.at.returns-clause-others c).In-None) c.loop-program.invariant.others
