use Rattle.dexmembers.proofs.Common.{ℕ, List, subst, arith, Puts}
use Rattle.dexmembers.proofs.DirectorySpelled.{directory_size}
use Rattle.dexmembers.proofs.PairsMerged.{placed_few}
use Rattle.dexmembers.proofs.members.Members.put_directory.Goals as goal

pub append-requires-clause-formed : goal.append-requires-clause-formed
append-requires-clause-formed c = record { fields = c.requires.fields; methods = c.requires.methods; parameters = c.requires.parameters }

pub append-requires-clause-most : goal.append-requires-clause-most
append-requires-clause-most c =
    let o = c.args.offs.now in
    omega (
      arith,
      c.field_count.ensures,
      c.method_count.ensures,
      c.requires.fields,
      c.requires.methods,
      c.requires.parameters,
      placed_few o.fields.now,
      placed_few o.methods.now,
      placed_few o.parameters.now,
      directory_size c.args.self.now o.own o.fields.now o.methods.now o.parameters.now c.requires.fields c.requires.methods c.requires.parameters,
    )

pub returns-clause-symbolic : goal.returns-clause-symbolic
returns-clause-symbolic c = λ m name body sets item rising known ordered class same own fields methods is.
    let a = c.args in
    subst (λ (bytes : List ℕ). Puts bytes a.out.now c.append.new.out c.append.result)
    (c.members_bytes_law.ensures.directory m name body a.self.now a.offs.now.own a.offs.now.fields.now a.offs.now.methods.now a.offs.now.parameters.now sets item rising known ordered class same c.requires.fields c.requires.methods c.requires.parameters own fields methods is)
    c.append.ensures

pub returns-clause-room : goal.returns-clause-room
returns-clause-room c = λ le.
    let a = c.args in
    c.append.ensures.room (omega (arith, le, directory_size a.self.now a.offs.now.own a.offs.now.fields.now a.offs.now.methods.now a.offs.now.parameters.now c.requires.fields c.requires.methods c.requires.parameters))
