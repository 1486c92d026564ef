use Rattle.session.specs.Words.{session_in}
use Rattle.portions.proofs.FeedLaws.{call_fits}
use Rattle.portions.proofs.feed.call.Goals as goal

pub returns-clause-wrote_in_bounds : goal.returns-clause-wrote_in_bounds
returns-clause-wrote_in_bounds c =
    let a = c.args in
    call_fits (session_in a.t.now a.rec.now a.mark) a.p a.n a.buf.now c.min-to.ensures c.min-from.ensures c.step.ensures
