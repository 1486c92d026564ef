-- What a pass over the samples keeps, with one more of them: the oldest.
use Rattle.std.specs.Prelude.{ℕ, cond, not, ◌&&◌, ◌||◌, nat_lt}
use Rattle.rtt.specs.declared.types.Sample.{Sample}
use Rattle.time_events.specs.declared.window.Lead.{Lead}

-- the older of what is found so far and the sample s at place i, if it is one; of equals what is found
abbrev pub led_of : Lead → Sample → ℕ → Lead
led_of l s i = cond (s.used && (not (nat_lt l.place 32) || nat_lt s.at l.at)) (record { at = s.at; place = i }) l
