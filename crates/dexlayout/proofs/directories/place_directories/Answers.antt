use Rattle.dexlayout.proofs.Common.{◌≡◌, ℕ, List, [], length, drop, sym, ap, ◌∙◌, subst, arith, drop_all, Mentions, end, uses_offsets, ref_list_section, ordered_of, AreDirectories, AreRefLists, directory_items, encode_uses}
use Rattle.dexlayout.proofs.EncodedUses.{all_encoded_by}
use Rattle.dexlayout.proofs.Ends.{end_in_file}
use Rattle.dexlayout.proofs.SetDirectories.{directories_fit, directories_more, directories_laid, own_count, field_count, method_count, length-ref_list_offsets}
use Rattle.dexlayout.proofs.directories.place_directories.Goals as goal
use Rattle.dexlayout.proofs.directories.place_directories.Goals.{After-end-from}

-- the offsets of the lists of sets, over each numbering
lists_are : (c : After-end-from) (m : Mentions) → AreRefLists m c.args.classes.now c.args.ref_lists.now → c.offsets-lists.result.now ≡ uses_offsets (ref_list_section (ordered_of m c.args.classes.now))
lists_are c m lists = c.offsets-lists.ensures ∙ lists.offsets_are

-- their end
from_is : (c : After-end-from) (m : Mentions) → AreRefLists m c.args.classes.now c.args.ref_lists.now → c.end-from.result ≡ end (ref_list_section (ordered_of m c.args.classes.now))
from_is c m lists = c.end-from.ensures ∙ lists.end_is

pub loop-i-init : goal.loop-i-init
loop-i-init c =
    let m = c.requires.0 in
    let cs = c.args.classes.now in
    record {
      enough_fields = omega (arith, ap (λ (l : List ℕ). length l) c.fields-fields.ensures, field_count m cs c.args.sets.now c.requires.2);
      enough_methods = omega (arith, ap (λ (l : List ℕ). length l) c.methods-methods.ensures, method_count m cs c.args.sets.now c.requires.2);
      enough_lists = omega (arith, ap (λ (l : List ℕ). length l) (lists_are ((goal.at.loop-i-init c).After-end-from) m c.requires.3), length-ref_list_offsets m cs);
      encoded = ap (λ p. encode_uses 4 p (directory_items cs c.own-own.result.now c.fields-fields.result.now c.methods-methods.result.now c.offsets-lists.result.now)) c.in_ok-items.ensures;
    }

pub bounds-own-i : goal.bounds-own-i
bounds-own-i c = omega (arith, c.loop-i-test.true, ap (λ (l : List ℕ). length l) c.own-own.ensures, own_count c.requires.0 c.args.classes.now c.args.sets.now c.requires.2)

pub encode_directory-requires-clause-fits : goal.encode_directory-requires-clause-fits
encode_directory-requires-clause-fits c =
    let m = c.requires.0 in
    let cs = c.args.classes.now in
    let w = c.requires.1 in
    let here = (goal.at.encode_directory-requires-clause-fits c).After-end-from in
    let laid =
    directories_laid m cs c.args.sets.now c.requires.2 w (c.number_law.ensures m w.numbering.rising) c.own-own.result.now c.fields-fields.result.now c.methods-methods.result.now c.offsets-lists.result.now
    c.own-own.ensures c.fields-fields.ensures c.methods-methods.ensures (lists_are here m c.requires.3) c.end-from.result (from_is here m c.requires.3) in
    omega (
      arith,
      directories_fit cs c.own-own.result.now c.loop-i.i c.index-classes-i.result c.members-members.result.now c.field_count.result c.method_count-count.result c.loop-i.invariant c.loop-i-test.true (sym c.index-classes-i.is) c.members-members.ensures
          c.field_count.ensures c.method_count-count.ensures c.split_at.ensures.front c.split_at-in-loop-i.ensures.front c.split_at-in-loop-i-2.ensures.front c.split_at.ensures.back c.split_at-in-loop-i.ensures.back c.split_at-in-loop-i-2.ensures.back,
      laid.places_are.end_is,
      (end_in_file (ordered_of m cs) w.fits).directories,
    )

pub loop-i-preserved : goal.loop-i-preserved
loop-i-preserved c =
    directories_more c.args.classes.now c.own-own.result.now c.loop-i.i c.index-classes-i.result c.members-members.result.now c.field_count.result c.method_count-count.result c.loop-i.invariant c.loop-i-test.true (sym c.index-classes-i.is) c.members-members.ensures
    c.field_count.ensures c.method_count-count.ensures c.split_at.ensures.front c.split_at-in-loop-i.ensures.front c.split_at-in-loop-i-2.ensures.front c.split_at.ensures.back c.split_at-in-loop-i.ensures.back c.split_at-in-loop-i-2.ensures.back
    c.in_ok-encode_directory.ensures

pub returns : goal.returns
returns c = λ m w are laid_lists.
    let cs = c.args.classes.now in
    let own = c.own-own.result.now in
    let here = (goal.at.returns c).After-end-from in
    let none : directory_items (drop c.loop-i.i cs) (drop c.loop-i.i own) c.loop-i.fields.now c.loop-i.methods.now c.loop-i.lists.now ≡ [] =
    ap (λ ds. directory_items ds (drop c.loop-i.i own) c.loop-i.fields.now c.loop-i.methods.now c.loop-i.lists.now) (drop_all c.loop-i.i cs c.loop-i-test.false) in
    subst (AreDirectories m cs) (sym (all_encoded_by 4 none c.loop-i.invariant.encoded))
    (directories_laid m cs c.args.sets.now are w (c.number_law.ensures m w.numbering.rising) own c.fields-fields.result.now c.methods-methods.result.now c.offsets-lists.result.now
    c.own-own.ensures c.fields-fields.ensures c.methods-methods.ensures (lists_are here m laid_lists) c.end-from.result (from_is here m laid_lists))
