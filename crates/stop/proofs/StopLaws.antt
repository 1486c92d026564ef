-- The two cases of what is done only while stopped.
-- Assumes nothing.
use Rattle.std.specs.Prelude.{Option, None, Some}
use mathlib.Core.Path.{◌≡◌, sym, ap, ◌∙◌}
use Rattle.stop.specs.Silence.{stop_after, while_stopped}
use Rattle.stop.specs.declared.types.Stop.{Stop}
use Rattle.stop.specs.declared.types.Silence.{Silence}

module _ (f : Stop → Stop) (s : Silence) where
  -- not stopped: nothing changes
  pub unstopped : s.stop ≡ None → s ≡ while_stopped f s
  unstopped e = ap {B = Silence} (λ (k : Option Stop). record { stop = k; quiet = s.quiet }) (e ∙ sym (ap (stop_after f) e))

  -- stopped: the stop is what f makes of it
  pub stopped_by : {x y : Stop} → s.stop ≡ Some x → y ≡ f x → ◌≡◌ {A = Silence} (record { stop = Some y; quiet = s.quiet }) (while_stopped f s)
  stopped_by e d = rw (e, d)
