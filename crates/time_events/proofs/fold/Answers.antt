use Rattle.time_events.proofs.EventLaws.{fold-real, etx-stored, fold-made}
use Rattle.std.proofs.Common.{rules}
use Rattle.time_events.proofs.fold.Goals as goal

pub float_to_bits-folded : goal.float_to_bits-folded
float_to_bits-folded c = rw (fold-real c.args.delivered _ c.fold-folded.ensures) tt

pub returns : goal.returns
returns c = fold-made c.args.delivered c.etx-old.ensures c.fold-folded.ensures (etx-stored c.args.p.now (search rules) (search rules) (fold-real c.args.delivered _ c.fold-folded.ensures) c.set_etx_word.ensures)
