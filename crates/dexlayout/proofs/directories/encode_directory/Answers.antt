use Rattle.dexlayout.proofs.Common.{◌≡◌, ℕ, ◌+◌, ◌*◌, ◌^◌, ◌≤◌, List, sym, ap, subst, ◌∙◌, on_ok_weaker, numbered_directory_bytes, entry_count, encode_use}
use Rattle.dexmembers.proofs.DirectorySpelled as spelled
use Rattle.dexlayout.proofs.EncodedUses.{ended, ended_fits}
use Rattle.dexlayout.proofs.SetDirectories.{no_directory, some_directory}
use Rattle.dexlayout.proofs.directories.encode_directory.Goals as goal
use Rattle.dexlayout.proofs.directories.encode_directory.Goals.{After-directory_len-len}

-- the directory
abbrev bytes_of : After-directory_len-len → List ℕ
bytes_of c = numbered_directory_bytes c.args.members.now c.args.offs.now.own c.args.offs.now.fields.now c.args.offs.now.methods.now c.args.offs.now.parameters.now

-- how many members it names
abbrev entries : After-directory_len-len → ℕ
entries c = entry_count c.args.offs.now.fields.now c.args.offs.now.methods.now c.args.offs.now.parameters.now

size : (c : After-directory_len-len) → c.directory_len-len.result ≡ 16 + 8 * entries c
size c = c.directory_len-len.ensures 0 ∙ spelled.directory_size c.args.members.now 0 c.args.offs.now.fields.now c.args.offs.now.methods.now c.args.offs.now.parameters.now c.requires.fields c.requires.methods c.requires.parameters

-- all offsets are 0
pub returns-then-len-eq-EMPTY_DIRECTORY : goal.returns-then-len-eq-EMPTY_DIRECTORY
returns-then-len-eq-EMPTY_DIRECTORY c =
    let here = (goal.at.returns-then-len-eq-EMPTY_DIRECTORY c).After-directory_len-len in
    on_ok_weaker c.pass.result (λ e. e ∙ ap (encode_use 4 c.args.items.now) (sym (no_directory c.args.offs.now.own (entries here) c.directory_len-len.result (bytes_of here) (size here) c.if-offs-eq0.true c.if-len-eq-EMPTY_DIRECTORY.true))) c.pass.ensures

-- some are not
pub end_item-requires-clause-fits : goal.end_item-requires-clause-fits
end_item-requires-clause-fits c =
    let here = (goal.at.end_item-requires-clause-fits c).After-directory_len-len in
    let fits = subst (λ u. (encode_use 4 c.args.items.now u).places.end ≤ 2 ^ 30) (some_directory c.args.offs.now.own (entries here) c.directory_len-len.result (bytes_of here) (size here) c.else-offs-eq0.either) c.requires.fits in
    ended_fits (bytes_of here) (c.items.view_is ∙ c.in_ok-align.ensures) (c.len-before.ensures ∙ c.items.inside.bytes.ok.0) c.in_ok-put_directory.ensures.bytes.ok fits

pub returns : goal.returns
returns c =
    let here = (goal.at.returns c).After-directory_len-len in
    let some = some_directory c.args.offs.now.own (entries here) c.directory_len-len.result (bytes_of here) (size here) c.else-offs-eq0.either in
    on_ok_weaker c.end_item.result
    (λ e. e ∙ ended (bytes_of here) (c.items.view_is ∙ c.in_ok-align.ensures) (c.len-before.ensures ∙ c.items.inside.bytes.ok.0) c.in_ok-put_directory.ensures.bytes.ok ∙ ap (encode_use 4 c.args.items.now) (sym some)) c.end_item.ensures
