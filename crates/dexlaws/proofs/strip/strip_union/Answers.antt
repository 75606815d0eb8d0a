use Rattle.dexspec.proofs.Common.{subst, Contains}
use Rattle.dexspec.specs.Stripping.{strip_definition, strip}
use Rattle.dexspec.proofs.merge.Depths.{Contains-map}
use Rattle.dexspec.proofs.lists.Mapped.{Contains-map_source}
use Rattle.dexspec.proofs.strip.StripUnion.{strip-union, strip-append, strip-within}
use Rattle.dexlaws.proofs.strip.strip_union.Goals as goal

pub returns : goal.returns
returns c = record {
  plan = strip-union;
  join = strip-append;
  members = λ D d. (
    λ m. let s = Contains-map_source strip_definition D d m in record { original = s.0; member = s.1; left = s.2 },
    λ l. subst (Contains (strip D)) l.left (Contains-map strip_definition D l.original l.member),
  );
  within = strip-within;
  same = λ D E h d. (strip-within D E (λ e. (h e).0) d, strip-within E D (λ e. (h e).1) d);
}
