use Rattle.dexhead.proofs.Common.{◌↔◌, map, drop, tables, meant, IsLaidOut}
use Rattle.dexhead.proofs.header.are_laid_out.Given as goal

-- the tables before are well placed, so it is for those that are left to be placed from here on
abbrev pub invariant-loop-table : goal.invariant-loop-table
invariant-loop-table l = IsLaidOut l.bytes 112 tables ↔ IsLaidOut l.bytes l.end (map meant (drop l.table-index l.table-items))
