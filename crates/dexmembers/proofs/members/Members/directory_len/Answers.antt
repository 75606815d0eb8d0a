use Rattle.dexmembers.proofs.Common.{arith}
use Rattle.dexmembers.proofs.DirectorySpelled.{directory_size}
use Rattle.dexmembers.proofs.members.Members.directory_len.Goals as goal

pub returns : goal.returns
returns c = λ own_off.
    let a = c.args in
    omega (arith, directory_size a.self.now own_off a.offs.now.fields.now a.offs.now.methods.now a.offs.now.parameters.now c.requires.fields c.requires.methods c.requires.parameters, c.placed.ensures.is, c.placed-2.ensures.is, c.placed-3.ensures.is)
