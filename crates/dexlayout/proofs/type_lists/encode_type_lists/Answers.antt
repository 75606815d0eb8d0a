use Rattle.dexlayout.proofs.Common.{◌≡◌, ◌+◌, ◌<◌, ◌≤◌, [], ◌++◌, List, ℕ, length, get_or, map, take, drop, sym, ap, subst, ◌∙◌, arith, append-nil, take_all, option_to_list, All, All-tail, All-weaker, get_or_default, all_back, IsKnownClass, Mentions, AreTypes, interfaces_use, type_at}
use Rattle.dexspec.specs.Symbols.{Proto}
use Rattle.dexpool.proofs.Ranking.{listed_at, listed_within}
use Rattle.dexlayout.proofs.ListUses.{IsUse, ListsGiven, class_is, class_next, first_fits, lists_given, offsets_enough, proto_is, proto_next, proto_use, use_given}
use Rattle.dexlayout.proofs.SharedKinds.{list_uses_are}
use Rattle.dexlayout.proofs.type_lists.encode_type_lists.Goals as goal
use Rattle.dexlayout.proofs.type_lists.encode_type_lists.Goals.{After-interfaces, After-parameters}

pub loop-i-init : goal.loop-i-init
loop-i-init g c = record { ends = c.requires.from; given = g.met.O.Output.nothing c.args.out.now }

pub loop-i-2-init : goal.loop-i-2-init
loop-i-2-init g c =
    let m = c.args.numbering.now in
    subst (λ us. ListsGiven m c.args.classes.now g.O.Output.gives c.args.out.now us c.loop-i.at c.loop-i.out)
    (ap (map proto_use) (take_all c.loop-i.i m.protos (omega (arith, c.loop-i-test.false, c.count-protos.ensures))) ∙ sym (append-nil (map proto_use m.protos))) c.loop-i.invariant

pub returns : goal.returns
returns g c =
    let m = c.args.numbering.now in
    let cs = c.args.classes.now in
    lists_given m cs (ap (λ ds. map proto_use m.protos ++ map (interfaces_use m) ds) (take_all c.loop-i-2.i cs (omega (arith, c.loop-i-2-test.false))) ∙ list_uses_are m cs) c.loop-i-2.invariant

-- ---- the list of a proto

no_proto : Proto
no_proto = record { return_type = []; parameters = [] }

-- the proto
abbrev proto_at : (g : _) → After-parameters g → Proto
proto_at g c = get_or c.args.numbering.now.protos c.loop-i.i no_proto

proto_within : (g : _) (c : After-parameters g) → c.loop-i.i < length c.args.numbering.now.protos
proto_within g c = omega (arith, c.loop-i-test.true, c.count-protos.ensures)

proto_found : (g : _) (c : After-parameters g) → get_or c.args.numbering.now.protos c.loop-i.i (proto_at g c) ≡ proto_at g c
proto_found g c = get_or_default c.args.numbering.now.protos c.loop-i.i (proto_at g c) no_proto (proto_within g c)

-- its parameters
parameters_mean : (g : _) (c : After-parameters g) → map (type_at c.args.numbering.now) c.parameters.result ≡ (proto_at g c).parameters
parameters_mean g c = ap (map (type_at c.args.numbering.now)) c.parameters.ensures ∙ listed_at c.args.numbering.now.types [] c.proto.result.parameters (proto_at g c).parameters (c.proto.ensures no_proto).parameters_are

parameters_known : (g : _) (c : After-parameters g) → AreTypes c.args.numbering.now c.parameters.result
parameters_known g c = subst (AreTypes c.args.numbering.now) (sym c.parameters.ensures) (listed_within c.args.numbering.now.types c.proto.result.parameters (proto_at g c).parameters (c.proto.ensures no_proto).parameters_are)

-- its use
abbrev ProtoUse : (g : _) → After-parameters g → Type 0
ProtoUse g c =
    IsUse c.args.numbering.now c.args.classes.now (map proto_use (take c.loop-i.i c.args.numbering.now.protos)) (map proto_use (drop (c.loop-i.i + 1) c.args.numbering.now.protos) ++ map (interfaces_use c.args.numbering.now) c.args.classes.now) c.parameters.result
    (get_or c.args.offsets.now c.loop-i.i 0)

proto_used : (g : _) (c : After-parameters g) → ProtoUse g c
proto_used g c = proto_is c.args.numbering.now c.args.classes.now c.args.offsets.now c.requires.offsets c.loop-i.i (proto_at g c) c.parameters.result (proto_within g c) (proto_found g c) (parameters_mean g c) (parameters_known g c)

pub bounds-offsets-i : goal.bounds-offsets-i
bounds-offsets-i g c = omega (arith, proto_within g (goal.at.bounds-offsets-i g c).After-parameters, offsets_enough c.args.numbering.now c.args.classes.now c.args.offsets.now c.requires.offsets)

-- numbers of types have 16 bits
are_short : (m : Mentions) (ns : List ℕ) → length m.types ≤ 65535 → AreTypes m ns → All (λ i. i < 65536) ns
are_short m ns few known = All-weaker (λ i. i < length m.types) (λ i. i < 65536) (λ i lt. omega (arith, lt, few)) ns known

pub encode_list-at-requires-clause-few : goal.encode_list-at-requires-clause-few
encode_list-at-requires-clause-few g c = are_short c.args.numbering.now c.parameters.result c.requires.classes.types_few (parameters_known g (goal.at.encode_list-at-requires-clause-few g c).After-parameters)

pub encode_list-at-requires-clause-fits : goal.encode_list-at-requires-clause-fits
encode_list-at-requires-clause-fits g c = first_fits c.args.numbering.now c.args.classes.now c.requires.classes (proto_used g (goal.at.encode_list-at-requires-clause-fits g c).After-parameters) c.loop-i.invariant

pub loop-i-preserved : goal.loop-i-preserved
loop-i-preserved g c =
    let m = c.args.numbering.now in
    let here = (goal.at.loop-i-preserved g c).After-parameters in
    subst (λ us. ListsGiven m c.args.classes.now g.O.Output.gives c.args.out.now us c.encode_list-at.result c.encode_list-at.new.out)
    (proto_next m c.args.classes.now c.args.offsets.now c.requires.offsets c.loop-i.i (proto_at g here) c.parameters.result (proto_within g here) (proto_found g here) (parameters_mean g here) (parameters_known g here))
    (use_given m c.args.classes.now c.requires.classes (proto_used g here) c.loop-i.invariant g.met.O.Output.both c.encode_list-at.ensures.skipped c.encode_list-at.ensures.written)

-- ---- the list of a class

interfaces_known : (g : _) (c : After-interfaces g) → AreTypes c.args.numbering.now c.interfaces.result
interfaces_known g c =
    let m = c.args.numbering.now in
    let x = c.index-classes-i.result in
    let here : IsKnownClass m x = subst (IsKnownClass m) (sym c.index-classes-i.is) (c.requires.classes.known c.loop-i-2.i x c.loop-i-2-test.true) in
    let numbers = all_back (λ n. n < length m.types) (option_to_list x.superclass) x.interfaces (All-tail (λ n. n < length m.types) x.name (option_to_list x.superclass ++ x.interfaces) here.types_in) in
    subst (AreTypes m) (sym c.interfaces.ensures) numbers

-- its use
abbrev ClassUse : (g : _) → After-interfaces g → Type 0
ClassUse g c =
    IsUse c.args.numbering.now c.args.classes.now (map proto_use c.args.numbering.now.protos ++ map (interfaces_use c.args.numbering.now) (take c.loop-i-2.i c.args.classes.now)) (map (interfaces_use c.args.numbering.now) (drop (c.loop-i-2.i + 1) c.args.classes.now)) c.interfaces.result
    (get_or c.args.offsets.now (c.count-protos.result + c.loop-i-2.i) 0)

class_used : (g : _) (c : After-interfaces g) → ClassUse g c
class_used g c =
    class_is c.args.numbering.now c.args.classes.now c.args.offsets.now c.requires.offsets c.loop-i-2.i (c.count-protos.result + c.loop-i-2.i) c.index-classes-i.result c.interfaces.result c.loop-i-2-test.true (sym c.index-classes-i.is) c.interfaces.ensures (interfaces_known g c)
    (omega (arith, c.count-protos.ensures))

pub bounds-offsets-protos : goal.bounds-offsets-protos
bounds-offsets-protos g c = omega (arith, c.loop-i-2-test.true, c.count-protos.ensures, offsets_enough c.args.numbering.now c.args.classes.now c.args.offsets.now c.requires.offsets)

pub encode_list-at-requires-in-loop-i-2-clause-few : goal.encode_list-at-requires-in-loop-i-2-clause-few
encode_list-at-requires-in-loop-i-2-clause-few g c = are_short c.args.numbering.now c.interfaces.result c.requires.classes.types_few (interfaces_known g (goal.at.encode_list-at-requires-in-loop-i-2-clause-few g c).After-interfaces)

pub encode_list-at-requires-in-loop-i-2-clause-fits : goal.encode_list-at-requires-in-loop-i-2-clause-fits
encode_list-at-requires-in-loop-i-2-clause-fits g c = first_fits c.args.numbering.now c.args.classes.now c.requires.classes (class_used g (goal.at.encode_list-at-requires-in-loop-i-2-clause-fits g c).After-interfaces) c.loop-i-2.invariant

pub loop-i-2-preserved : goal.loop-i-2-preserved
loop-i-2-preserved g c =
    let m = c.args.numbering.now in
    let here = (goal.at.loop-i-2-preserved g c).After-interfaces in
    subst (λ us. ListsGiven m c.args.classes.now g.O.Output.gives c.args.out.now us c.encode_list-at-in-loop-i-2.result c.encode_list-at-in-loop-i-2.new.out)
    (class_next m c.args.classes.now c.args.offsets.now c.requires.offsets c.loop-i-2.i (c.count-protos.result + c.loop-i-2.i) c.index-classes-i.result c.interfaces.result c.loop-i-2-test.true (sym c.index-classes-i.is) c.interfaces.ensures (interfaces_known g here))
    (use_given m c.args.classes.now c.requires.classes (class_used g here) c.loop-i-2.invariant g.met.O.Output.both c.encode_list-at-in-loop-i-2.ensures.skipped c.encode_list-at-in-loop-i-2.ensures.written)
