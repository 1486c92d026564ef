use Rattle.size_events.proofs.SizeLaws.{search-small, search-none, search-sent}
use borrow.Author.Rules.{rules}
use Rattle.size_events.proofs.search.Goals as goal

pub returns-then-full-lt-PATH_PROBE_MIN_SIZE : goal.returns-then-full-lt-PATH_PROBE_MIN_SIZE
returns-then-full-lt-PATH_PROBE_MIN_SIZE c = search-small _ c.args.e c.label-full.ensures c.if-full-lt-PATH_PROBE_MIN_SIZE.true

pub returns-in_default : goal.returns-in_default
returns-in_default c = search-none _ c.args.e c.label-full.ensures c.if-full-lt-PATH_PROBE_MIN_SIZE.false c.sizes-old.ensures c.seek_size.ensures c.in_default.is

pub returns : goal.returns
returns c =
    search-sent _ c.args.e c.label-full.ensures c.if-full-lt-PATH_PROBE_MIN_SIZE.false c.sizes-old.ensures
    c.seek_size.ensures c.in-Some.is (search rules) c.ids-before.ensures c.taken-id.ensures c.next_ids-after.ensures
    c.seek_send-sent.ensures c.set_id.ensures c.set_seek.ensures
