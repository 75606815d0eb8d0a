use Rattle.dexcode.proofs.Common.{◌≡◌, length, ap, arith, numbered_code_bytes}
use Rattle.dexcode.proofs.code_put.put_code.Goals as goal

pub returns-clause-bound : goal.returns-clause-bound
returns-clause-bound c = λ x encodes.
    let code = c.args.code.now in omega (arith, c.code_bytes_law.ensures.few c.args.debug_off code c.requires, c.code_weight_law.ensures c.args.numbering.now code x c.is_numbering.ensures.rising encodes)

pub returns-clause-room : goal.returns-clause-room
returns-clause-room c = λ x encodes room.
    let len : length (numbered_code_bytes c.args.debug_off c.as_borrowed-code.result) ≡ length (numbered_code_bytes c.args.debug_off c.args.code.now) = ap (λ code. length (numbered_code_bytes c.args.debug_off code)) c.as_borrowed-code.ensures in
    c.put_with_len.ensures.room (omega (arith, room, len, c.code_bytes_law.ensures.few c.args.debug_off c.args.code.now c.requires, c.code_weight_law.ensures c.args.numbering.now c.args.code.now x c.is_numbering.ensures.rising encodes))
