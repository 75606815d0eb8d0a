use Rattle.dexlayout.proofs.data.place_back.Goals as goal

pub place_ref_lists-requires : goal.place_ref_lists-requires
place_ref_lists-requires c = c.requires

pub place_directories-requires : goal.place_directories-requires
place_directories-requires c =
    let can = c.requires in
    (can.0, can.1, can.2, c.in_ok-ref_lists.ensures can.0 can.1 can.2)

pub returns : goal.returns
returns c = λ m w sets.
    let lists = c.in_ok-ref_lists.ensures m w sets in
    record { sets_are = sets; ref_lists_are = lists; directories_are = c.in_ok-directories.ensures m w sets lists }
