-- `eventfile::front` meets its contract: the tests one after the other.
use borrow.Author.Tests.{eqb-true, eqb-false}
use mathlib.Core.Path.{sym, ◌∙◌}
use Rattle.eventfile.proofs.FrontLaws.{head, front-none, front_cut, front-kind, front-map, front-event}
use Rattle.eventfile.proofs.front.Goals as goal

pub returns-then-is_empty : goal.returns-then-is_empty
returns-then-is_empty c = front-none _ (eqb-true _ _ (sym c.if-is_empty.ensures))

pub returns-then-s-at : goal.returns-then-s-at
returns-then-s-at c =
    front_cut
    (head (eqb-false _ _ (sym c.if-is_empty.ensures)) c.byte_at-map.ensures c.byte_at-kind.ensures c.laid_out-at.ensures)
    c.if-s-at.true

pub returns-then-kindless : goal.returns-then-kindless
returns-then-kindless c =
    front-kind
    (head (eqb-false _ _ (sym c.if-is_empty.ensures)) c.byte_at-map.ensures c.byte_at-kind.ensures c.laid_out-at.ensures)
    c.if-s-at.false
    c.if-kindless.true

pub returns-then-stray : goal.returns-then-stray
returns-then-stray c =
    front-map
    (head (eqb-false _ _ (sym c.if-is_empty.ensures)) c.byte_at-map.ensures c.byte_at-kind.ensures c.laid_out-at.ensures)
    c.if-s-at.false
    c.if-kindless.false
    (sym c.is_stray-stray.ensures ∙ c.if-stray.true)

pub returns : goal.returns
returns c =
    front-event
    (head (eqb-false _ _ (sym c.if-is_empty.ensures)) c.byte_at-map.ensures c.byte_at-kind.ensures c.laid_out-at.ensures)
    c.if-s-at.false
    c.if-kindless.false
    (sym c.is_stray-stray.ensures ∙ c.if-stray.false)
    c.event_of.ensures
