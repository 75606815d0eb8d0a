use Rattle.dexargs.proofs.commands.command.Goals as goal

pub returns : goal.returns
returns c =
    let with_check = c.with-program.ensures _ _ c.program-program.ensures c.check.ensures in
    let with_merge = c.with-program-2.ensures _ _ with_check c.merge.ensures in
    let with_normalise = c.with-program-3.ensures _ _ with_merge c.normalise.ensures in
    let with_digest = c.with-program-4.ensures _ _ with_normalise c.digest.ensures in
    let with_conflicts = c.with-program-5.ensures _ _ with_digest c.conflicts.ensures in
    let with_diff = c.with-program-6.ensures _ _ with_conflicts c.diff.ensures in
    let with_count = c.with-program-7.ensures _ _ with_diff c.count.ensures in
    let with_dump = c.with-program-8.ensures _ _ with_count c.dump.ensures in
    c.with.ensures _ _ with_dump c.repair.ensures
