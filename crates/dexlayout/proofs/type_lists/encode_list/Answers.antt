use Rattle.dexlayout.proofs.Common.{◌+◌, ◌*◌, ◌≤◌, ◌^◌, arith, subst, padding, round_up, list_bytes}
use Rattle.dexlayout.proofs.SharedKinds.{length_list}
use Rattle.dexlayout.proofs.type_lists.encode_list.Goals as goal
use Rattle.dexlayout.proofs.type_lists.encode_list.Goals.{After-len}

-- the list ends within the file
within : (g : _) (c : After-len g) → round_up 4 c.args.at + (4 + 2 * c.len.result) ≤ 2 ^ 30
within g c = omega (arith, c.requires.fits (omega (arith, c.if-offset-at.false)), length_list c.args.list, c.len.ensures)

pub overflow_cast-end : goal.overflow_cast-end
overflow_cast-end g c = omega (arith, within g (goal.at.overflow_cast-end g c).After-len)

pub overflow_mul-end : goal.overflow_mul-end
overflow_mul-end g c = omega (arith, within g (goal.at.overflow_mul-end g c).After-len)

pub overflow_add-end-2 : goal.overflow_add-end-2
overflow_add-end-2 g c = omega (arith, within g (goal.at.overflow_add-end-2 g c).After-len, c.round_up.ensures)

pub encode-requires : goal.encode-requires
encode-requires g c = (omega (arith, within g (goal.at.encode-requires g c).After-len, c.len.ensures), c.requires.few)

pub returns-clause-written : goal.returns-clause-written
returns-clause-written g c = λ le. (
  omega (arith, length_list c.args.list, c.len.ensures, c.round_up.ensures),
  g.met.O.Output.both (padding 4 c.args.at) (list_bytes c.args.list) c.args.out.now c.bytes.new.self c.encode.new.out
      (subst (λ bs. g.O.Output.gives bs c.args.out.now c.bytes.new.self) c.padding.ensures c.bytes.ensures) c.encode.ensures,
)
