use Rattle.std.proofs.Common.{◌≡◌, ◌<◌, ◌∷◌, ◌++◌, List, arith, drop, length, rules}
use Rattle.std.proofs.lemmas.Result.{on_ok_weaker}
use Rattle.std.specs.List.{flat_map}
use Rattle.std.specs.List.Sorted.{IsStrictlySortedBy}
use Rattle.std.specs.Prelude.{string_bytes}
use Rattle.dexspec.specs.Files.{definitions}
use Rattle.dexspec.specs.Texts.{Text, text_cmp}
use Rattle.dexruns.specs.internal.Halves.{AreOfPackages}
use Rattle.dexruns.proofs.PackageRows.{first_of_some, first_rise, last_rise, first_of, last_of, rows_joined}
use Rattle.dexruns.proofs.packages.+push_packages.Goals as goal
use Rattle.dexruns.proofs.packages.+push_packages.Goals.{In_ok-before}

-- there are packages in both halves
some : (t : _) (c : In_ok-before t) → 0 < length c.split_at.result.1.now
some t c = omega (arith, c.split_at.ensures.back_len, c.if-packages-lt2.false)

at : (t : _) (c : In_ok-before t) → c.split_at.result.1.now ≡ c.index-last-0.result ∷ drop 1 c.split_at.result.1.now
at t c = first_of_some c.split_at.result.1.now c.index-last-0.result (some t c) c.index-last-0.is

-- the packages of each half are in order, and are those of its classes
first_half : (t : _) (c : In_ok-before t) → IsStrictlySortedBy text_cmp c.split_at.result.0.now × AreOfPackages (flat_map definitions c.in_ok-before.field-0.before.items) c.split_at.result.0.now
first_half t c =
    let D = flat_map definitions c.args.programs.items in
    let B = flat_map definitions c.in_ok-before.field-0.before.items in
    let O = flat_map definitions c.in_ok-before.field-0.others.items in (
      first_rise D B O c.index-last-0.result c.args.packages.now c.split_at.result.0.now c.split_at.result.1.now (drop 1 c.split_at.result.1.now) c.split_at.ensures.by_index.0 (at t c) c.requires.rise c.requires.are c.in_ok-before.ensures.before c.in_ok-before.ensures.others,
      first_of D B O c.index-last-0.result c.args.packages.now c.split_at.result.0.now c.split_at.result.1.now (drop 1 c.split_at.result.1.now) c.split_at.ensures.by_index.0 (at t c) c.requires.rise c.requires.are c.in_ok-before.ensures.before c.in_ok-before.ensures.others,
    )

last_half : (t : _) (c : In_ok-before t) → IsStrictlySortedBy text_cmp c.split_at.result.1.now × AreOfPackages (flat_map definitions c.in_ok-before.field-0.others.items) c.split_at.result.1.now
last_half t c =
    let D = flat_map definitions c.args.programs.items in
    let B = flat_map definitions c.in_ok-before.field-0.before.items in
    let O = flat_map definitions c.in_ok-before.field-0.others.items in (
      last_rise D B O c.index-last-0.result c.args.packages.now c.split_at.result.0.now c.split_at.result.1.now (drop 1 c.split_at.result.1.now) c.split_at.ensures.by_index.0 (at t c) c.requires.rise c.requires.are c.in_ok-before.ensures.before c.in_ok-before.ensures.others,
      last_of D B O c.index-last-0.result c.args.packages.now c.split_at.result.0.now c.split_at.result.1.now (drop 1 c.split_at.result.1.now) c.split_at.ensures.by_index.0 (at t c) c.requires.rise c.requires.are c.in_ok-before.ensures.before c.in_ok-before.ensures.others,
    )

pub push_packages-requires : goal.push_packages-requires
push_packages-requires t c =
    let here = (goal.at.push_packages-requires t c).In_ok-before in
    let less : length c.split_at.result.0.now < length c.args.packages.now = omega (arith, c.split_at.ensures.front_len, c.split_at.ensures.back_len, some t here) in
    (search rules, first_half t here)

pub push_packages-requires-2 : goal.push_packages-requires-2
push_packages-requires-2 t c =
    let here = (goal.at.push_packages-requires-2 t c).In_ok-before in
    let less : length c.split_at.result.1.now < length c.args.packages.now = omega (arith, c.split_at.ensures.front_len, c.split_at.ensures.back_len, c.if-packages-lt2.false) in
    (search rules, last_half t here)

pub returns-clause-rows : goal.returns-clause-rows
returns-clause-rows t c =
    let here = (goal.at.returns-clause-rows t c).In_ok-before in
    let D = flat_map definitions c.args.programs.items in
    let B = flat_map definitions c.in_ok-before.field-0.before.items in
    let O = flat_map definitions c.in_ok-before.field-0.others.items in
    on_ok_weaker c.push_packages-2.result
    (rows_joined D B O c.index-last-0.result c.args.packages.now c.split_at.result.0.now c.split_at.result.1.now (drop 1 c.split_at.result.1.now) c.split_at.ensures.by_index.0 (at t here) c.requires.rise c.requires.are c.in_ok-before.ensures.before c.in_ok-before.ensures.others
    (string_bytes c.args.text.now) (string_bytes c.push_packages.new.text) (string_bytes c.push_packages-2.new.text) c.in_ok-push_packages.ensures.rows) c.push_packages-2.ensures.rows
