use Rattle.std.proofs.Common.{◌<◌, arith, sym, ◌∙◌}
use Rattle.lapses.proofs.LapseLaws.{scanning-place, scanning-defers, scanning-lapses, scanning-none, scanning-less}
use Rattle.lapses.proofs.scan.Goals as goal

pub bounds-left-i : goal.bounds-left-i
bounds-left-i c = scanning-place c.loop-i.invariant c.in-Some.ensures

pub offset_bounds-left-i : goal.offset_bounds-left-i
offset_bounds-left-i c = let h : c.in-Some.i < 8 = scanning-place c.loop-i.invariant c.in-Some.ensures in omega arith

pub bounds-left-i-in-loop-i : goal.bounds-left-i-in-loop-i
bounds-left-i-in-loop-i c = scanning-place c.loop-i.invariant c.in-Some.ensures

pub offset_bounds-left-i-in-loop-i : goal.offset_bounds-left-i-in-loop-i
offset_bounds-left-i-in-loop-i c = let h : c.in-Some.i < 8 = scanning-place c.loop-i.invariant c.in-Some.ensures in omega arith

pub loop-i-smaller : goal.loop-i-smaller
loop-i-smaller c = scanning-less c.loop-i.invariant c.in-Some.ensures _ (sym c.defer.ensures ∙ c.in-Some-defer.is)

pub loop-i-preserved : goal.loop-i-preserved
loop-i-preserved c = scanning-defers c.loop-i.invariant c.in-Some.ensures _ (sym c.defer.ensures ∙ c.in-Some-defer.is)

pub returns-in_default : goal.returns-in_default
returns-in_default c = scanning-none c.loop-i.invariant (sym c.in_default.is ∙ c.first_passed.ensures)

pub returns-in_default-defer : goal.returns-in_default-defer
returns-in_default-defer c =
    scanning-lapses c.loop-i.invariant c.in-Some.ensures _ (sym c.defer.ensures ∙ c.in_default-defer.is)
