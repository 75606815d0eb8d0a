use Rattle.dexcanon.proofs.Common.{rules, ◌≡◌, ◌++◌, OnOk, IfErr, ap, subst, ◌∙◌, with_sums, unsigned_file, after_header, HasLeft, ordered_in}
use Rattle.dexcanon.proofs.writing.write_contents.Goals as goal
use Rattle.dexcanon.proofs.writing.write_contents.Goals.{After-put_head}

-- the file is what is buffered and what follows
whole : (g : _) (c : After-put_head g) → c.put_head.new.buffer.items ++ after_header (ordered_in c.args.contents.now) ≡ with_sums (unsigned_file (ordered_in c.args.contents.now))
whole g c = ap (λ z. z ++ after_header (ordered_in c.args.contents.now)) c.put_head.ensures.items ∙ c.head_with_sums-buffer.ensures.bytes

pub returns-clause-written : goal.returns-clause-written
returns-clause-written g c =
    let written = subst (λ z. OnOk c.write_through-result.result (g.W.Sink.reports c.args.sink.now → g.W.Sink.taken c.write_through-result.new.out.target.sink.now ≡ g.W.Sink.taken c.args.sink.now ++ z)) (whole g (goal.at.returns-clause-written g c).After-put_head) c.write_through-result.ensures.written in
    search rules

pub returns-clause-left : goal.returns-clause-left
returns-clause-left g c =
    let left = subst (λ z. IfErr c.write_through-result.result (HasLeft (g.W.Sink.reports c.args.sink.now) c.args.sink.now c.write_through-result.new.out.target.sink.now g.W.Sink.taken z)) (whole g (goal.at.returns-clause-left g c).After-put_head) c.write_through-result.ensures.left in
    search rules
