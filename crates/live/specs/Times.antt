-- Round trips, ETX, frames received and the stop of a path (document 01, "RTT, ETX, score" and "Files and tail"), with
-- the refusals 5 and 6. The counters are the Rust's: one frame and its bytes more or less, modulo 2 ^ 32.
use Rattle.base.specs.declared.types.Refusal.{Refusal}
use Rattle.std.specs.Prelude.{ℕ, ◌+◌, ◌-◌, ◌%◌, ◌^◌, Bool, cond, Some, Result, Ok, Err}
use Rattle.base.specs.Limits.{is_overlong, is_endless}
use Rattle.base.specs.declared.types.Refusal.TheVariants.{Length, Duration}
use Rattle.etx.specs.Etx.{fold_of}
use Rattle.rtt.specs.Rtts as rtts
use Rattle.rtt.specs.Samples.{max_rtt}
use Rattle.rtt.specs.Times as times
use Rattle.stop.specs.Silence as stop
use Rattle.live.specs.Path.{with_rtts, with_traffic, with_silence, with_etx}
use Rattle.live.specs.Answers.{refused, done}
use Rattle.live.specs.declared.types.Traffic.{Traffic}
use Rattle.live.specs.declared.types.Liveness.{Liveness}
use Rattle.live.specs.declared.types.Outcome.{Outcome}
use Rattle.live.specs.declared.types.Answer.{Answer}
use Rattle.live.specs.declared.types.Answer.TheVariants.{Time}

-- 6 for an RTT, window or horizon of 2 ^ 62 or more; else the rule of `sample`
unfoldable pub sample_of : Liveness → ℕ → ℕ → ℕ → ℕ → Outcome
sample_of p now x window horizon =
    cond (is_endless x)
    (refused p Duration)
    (cond (is_endless window)
    (refused p Duration)
    (cond (is_endless horizon)
    (refused p Duration)
    (done (with_rtts p (rtts.sampled_rtts p.rtts now x window horizon)))))

-- `fold`: the Rust's float steps on the path's ETX
abbrev pub folded_of : Liveness → Bool → Liveness
folded_of p delivered = with_etx p (fold_of p.etx delivered)

-- 6 for a floor or cap of 2 ^ 62 or more; else the largest of floor, 3 × last, and the smaller of 3 × largest and cap
unfoldable pub timeout_of : Liveness → ℕ → ℕ → Result Answer Refusal
timeout_of p floor cap =
    cond (is_endless floor)
    (Err Duration)
    (cond (is_endless cap)
    (Err Duration)
    (Ok (Time (times.timeout_by p.rtts.rtt (max_rtt p.rtts.samples) floor cap))))

-- `heard`: one frame more, heard now
abbrev pub heard_traffic : Traffic → ℕ → ℕ → Traffic
heard_traffic t n now =
    record {
      heard_at = Some now;
      data_at = t.data_at;
      frames = (t.frames + 1) % 2 ^ 32;
      bytes = (t.bytes + n) % 2 ^ 32;
    }

-- 5 for a length above 65,535; else the frame is counted
unfoldable pub heard_of : Liveness → ℕ → ℕ → Outcome
heard_of p n now = cond (is_overlong n) (refused p Length) (done (with_traffic p (heard_traffic p.traffic n now)))

-- `carried`: a session datagram arrived now
abbrev pub carried_of : Liveness → ℕ → Liveness
carried_of p now =
    with_traffic p
    (record {
      heard_at = p.traffic.heard_at;
      data_at = Some now;
      frames = p.traffic.frames;
      bytes = p.traffic.bytes;
    })

-- a - b modulo 2 ^ 32, of numbers of 32 bits
abbrev pub less : ℕ → ℕ → ℕ
less a b = (a + (2 ^ 32 - b)) % 2 ^ 32

-- `shed`: one frame is taken back; when it arrived stays
abbrev pub shed_traffic : Traffic → ℕ → Traffic
shed_traffic t n =
    record {
      heard_at = t.heard_at;
      data_at = t.data_at;
      frames = less t.frames 1;
      bytes = less t.bytes n;
    }

-- 5 for a length above 65,535; else the frame is taken back
unfoldable pub shed_of : Liveness → ℕ → Outcome
shed_of p n = cond (is_overlong n) (refused p Length) (done (with_traffic p (shed_traffic p.traffic n)))

-- `halt`, `spend`, `owe` and `rebase` change the silence and nothing else
abbrev pub halted_of : Liveness → ℕ → Bool → Liveness
halted_of p at active = with_silence p (stop.halt_of p.silence at active)

abbrev pub spent_of : Liveness → ℕ → Liveness
spent_of p at = with_silence p (stop.spend_of p.silence at)

abbrev pub owed_of : Liveness → Liveness
owed_of p = with_silence p (stop.owe_of p.silence)

abbrev pub rebased_of : Liveness → ℕ → Bool → Liveness
rebased_of p at ok = with_silence p (stop.rebase_of p.silence at ok)
