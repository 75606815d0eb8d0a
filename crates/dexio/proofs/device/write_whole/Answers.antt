use Rattle.dexio.proofs.Common.{rules}
use Rattle.std.proofs.lemmas.Result.{err_from_is_err_and}
use Rattle.dexio.proofs.WrittenPieces.{written_more, prefix_more}
use Rattle.dexio.proofs.device.write_whole.Goals as goal

pub pieces-preserved : goal.pieces-preserved
pieces-preserved g c = record {
  works = search rules;
  fits = search rules;
  reports = λ t. c.in_ok-done.ensures.reports (c.pieces.invariant.reports t);
  prefix = λ t. written_more _ _ _ _ _ _ _ (c.pieces.invariant.prefix t) c.split_at.ensures.back (c.in_ok-done.ensures.appended (c.pieces.invariant.reports t));
}

pub returns-in_err-done-clause-prefix : goal.returns-in_err-done-clause-prefix
returns-in_err-done-clause-prefix g c =
    rw ((err_from_is_err_and c.from_residual.result c.from_residual.ensures.1).1) (λ reports. prefix_more _ _ _ _ _ _ (c.pieces.invariant.prefix reports) c.split_at.ensures.back (c.in_err-done.ensures.prefix (c.pieces.invariant.reports reports)))
