use Rattle.dexval.proofs.Common.{ℕ, ap, ◌∙◌, min, ◌^◌, ◌-◌, annotation_of}
use Rattle.dexval.proofs.Spelling.{annotation_lengths_are}
use Rattle.dexval.proofs.put.annotation_size.Goals as goal

pub returns-clause-symbolic : goal.returns-clause-symbolic
returns-clause-symbolic c = λ m symbolic rising encodes.
    c.encoded_len.ensures ∙ ap (λ (n : ℕ). min (2 ^ 64 - 1) n) (annotation_lengths_are m (annotation_of c.args.annotation.now) symbolic rising encodes)
