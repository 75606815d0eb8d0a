use Rattle.dexcases_items.proofs.checked_lines.print_members.Goals as goal

pub check_members-requires : goal.check_members-requires
check_members-requires c = λ _. c.none-checks.ensures c.args.file.now.frame c.args.file.now.pools
