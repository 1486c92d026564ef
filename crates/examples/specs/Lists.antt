-- Small lists of events, with the answers that document 01 names: refusal number and value of each.
use Rattle.std.specs.Prelude.{ℕ, zero, suc, ◌+◌, ◌*◌, ◌^◌, List, [], ◌∷◌, ◌++◌}
use Rattle.rules.specs.Answers.{Sample, event, settings}
use Rattle.rules.specs.declared.types.Settings.{Settings}
use Rattle.rules.specs.declared.types.Event.{Event}

-- ---- events, on slot 0 where none is named

abbrev pub opens : ℕ → ℕ → ℕ → Event
opens slot full flags = event 1 slot 0 0 0 full 0 flags

abbrev pub probe : ℕ → ℕ → ℕ → Event
probe now due draw = event 2 0 now due draw 0 0 0

abbrev pub answer : ℕ → ℕ → ℕ → Event
answer now id acked = event 3 0 now 0 id 0 acked 0

abbrev pub poll : ℕ → ℕ → Event
poll now flags = event 4 0 now 0 0 0 0 flags

abbrev pub sample : ℕ → ℕ → Event
sample slot rtt = event 5 slot 0 rtt 0 0 0 0

abbrev pub prove : ℕ → Event
prove size = event 7 0 0 0 0 size 0 0

abbrev pub seeks : ℕ → Event
seeks now = event 8 0 now 0 0 0 0 0

abbrev pub judge : ℕ → ℕ → Event
judge now timeout = event 9 0 now timeout 0 0 0 0

abbrev pub heard : ℕ → Event
heard now = event 10 0 now 0 0 0 0 0

abbrev pub fresh : Event
fresh = event 11 0 0 0 0 0 0 0

abbrev pub thaw : Event
thaw = event 12 0 0 0 0 0 0 0

abbrev pub sweep : Event
sweep = event 13 0 0 0 0 0 0 0

abbrev pub closing : ℕ → Event
closing slot = event 14 slot 0 0 0 0 0 0

-- "Choose reads no slot"
abbrev pub choose : ℕ → Event
choose margin = event 15 255 0 margin 0 0 0 0

-- ---- settings and margins

-- "Settings all 1 s"
abbrev pub second : Settings
second = settings 1000000000 1000000000 1000000000 1000000000

-- the same with another cap
abbrev pub capped : ℕ → Settings
capped cap = settings cap 1000000000 1000000000 1000000000

-- 0.5, 1 and 100
abbrev pub half : ℕ
half = 0x3fe0_0000_0000_0000

abbrev pub margin_one : ℕ
margin_one = 0x3ff0_0000_0000_0000

abbrev pub margin_hundred : ℕ
margin_hundred = 0x4059_0000_0000_0000

-- ---- document 01, "Files and tail"
unfoldable pub first : Sample
first =
    record {
      settings = second;
      events = opens 0 100 32 ∷ probe 0 9 7 ∷ answer 0 7 0 ∷ answer 0 7 0 ∷ choose margin_one ∷ [];
      given = (0, 0) ∷ (0, 7) ∷ (0, 1) ∷ (9, 0) ∷ (0, 0) ∷ [];
    }

-- ---- the table of refusals, each number that the record gives with its smallest example: 11 on a fresh record, 1, 2,
-- 3, 4, 5, 6, 7, 9, 10, 15 and, after a close, 11 again; 8 is the next list's
unfoldable pub each_refused : Sample
each_refused =
    record {
      settings = second;
      events =
          choose margin_one ∷
          event 2 8 0 0 0 0 0 0 ∷
          closing 0 ∷
          opens 0 100 0 ∷
          opens 0 100 0 ∷
          poll 0 2 ∷
          prove 26 ∷
          sample 0 (2 ^ 62) ∷
          choose half ∷
          answer 0 5 0 ∷
          seeks 0 ∷
          event 16 0 0 0 0 0 0 0 ∷
          closing 0 ∷
          choose margin_one ∷
          [];
      given =
          (11, 0) ∷ (1, 0) ∷ (2, 0) ∷ (0, 0) ∷ (3, 0) ∷ (4, 0) ∷ (5, 0) ∷ (6, 0) ∷ (7, 0) ∷ (9, 0) ∷ (10, 0) ∷ (15, 0)
          ∷ (0, 0) ∷ (11, 0) ∷ [];
    }

-- n probes at 0, due at 5
abbrev pub some_probes : ℕ → List Event
some_probes zero = []
some_probes (suc n) = probe 0 5 7 ∷ some_probes n

-- 8: a ninth probe, though its size is refused first (5); a poll takes all eight; the last four are answered late, once
unfoldable pub eight : Sample
eight =
    record {
      settings = second;
      events =
          opens 0 100 0 ∷ some_probes 9 ++ (
          event 2 0 0 5 7 65536 0 0 ∷ poll 5 1 ∷ poll 5 0 ∷ answer 9 10 0 ∷ answer 9 11 0 ∷ answer 9 14 0 ∷ answer 9 14
          0 ∷ []);
      given =
          (0, 0) ∷ (0, 7) ∷ (0, 8) ∷ (0, 9) ∷ (0, 10) ∷ (0, 11) ∷ (0, 12) ∷ (0, 13) ∷ (0, 14) ∷ (8, 0) ∷
          (5, 0) ∷ (0, 0) ∷ (0, 8) ∷ (9, 0) ∷ (0, 2) ∷ (0, 2) ∷ (9, 0) ∷ [];
    }

-- two refusals apply: the lower number is given, but 15 comes before 1
unfoldable pub ordered : Sample
ordered =
    record {
      settings = second;
      events = event 16 8 0 0 0 0 0 0 ∷ opens 8 26 128 ∷ closing 8 ∷ opens 0 26 128 ∷ opens 0 27 127 ∷ opens 0 26 128
          ∷ [];
      given = (15, 0) ∷ (1, 0) ∷ (1, 0) ∷ (4, 0) ∷ (0, 0) ∷ (3, 0) ∷ [];
    }

-- ---- polls

-- a poll that defers: data came after the probe, and the cap deadline is 1 s; then it lapses, and its answer is late
unfoldable pub defers : Sample
defers =
    record {
      settings = second;
      events =
          opens 0 100 0 ∷ probe 0 5 7 ∷ heard 1 ∷ poll 9 0 ∷ poll 999999999 0 ∷ poll 1000000000 1 ∷ poll 1000000000 0 ∷
          answer 0 7 0 ∷ answer 0 7 0 ∷ [];
      given = (0, 0) ∷ (0, 7) ∷ (0, 0) ∷ (0, 0) ∷ (0, 0) ∷ (0, 0) ∷ (0, 1) ∷ (0, 2) ∷ (9, 0) ∷ [];
    }

-- the last data instant is the last event's, not the largest
unfoldable pub last_data : Sample
last_data =
    record {
      settings = capped 10;
      events = opens 0 100 0 ∷ probe 5 6 7 ∷ heard 7 ∷ heard 3 ∷ poll 6 0 ∷ [];
      given = (0, 0) ∷ (0, 7) ∷ (0, 0) ∷ (0, 0) ∷ (0, 1) ∷ [];
    }

-- overdue: a due of now has not passed
unfoldable pub overdue : Sample
overdue =
    record {
      settings = capped 0;
      events = opens 0 100 0 ∷ probe 0 0 7 ∷ poll 0 1 ∷ poll 0 0 ∷ [];
      given = (0, 0) ∷ (0, 7) ∷ (0, 0) ∷ (0, 1) ∷ [];
    }

-- the value is all lapses, not the counted misses
unfoldable pub thawed : Sample
thawed =
    record {
      settings = second;
      events = opens 0 100 0 ∷ probe 0 1 7 ∷ thaw ∷ poll 1 0 ∷ [];
      given = (0, 0) ∷ (0, 7) ∷ (0, 0) ∷ (0, 1) ∷ [];
    }

-- "a hole is not filled first": the late answer to 11 leaves one, and still the next lapse pushes out 10
unfoldable pub late_hole : Sample
late_hole =
    record {
      settings = second;
      events =
          opens 0 100 0 ∷ probe 0 1 10 ∷ probe 0 1 10 ∷ probe 0 1 10 ∷ probe 0 1 10 ∷ poll 1 0 ∷ answer 1 11 0 ∷
          probe 1 2 10 ∷ poll 2 0 ∷ answer 2 10 0 ∷ answer 2 12 0 ∷ answer 2 13 0 ∷ answer 2 14 0 ∷ [];
      given =
          (0, 0) ∷ (0, 10) ∷ (0, 11) ∷ (0, 12) ∷ (0, 13) ∷ (0, 4) ∷ (0, 2) ∷ (0, 14) ∷ (0, 1) ∷ (9, 0) ∷ (0, 2) ∷ (0, 2)
          ∷ (0, 2) ∷ [];
    }

-- an identifier is answered in time once since its open, and again after the next
unfoldable pub reopened : Sample
reopened =
    record {
      settings = second;
      events = opens 0 100 0 ∷ probe 0 9 7 ∷ answer 0 7 0 ∷ closing 0 ∷ opens 0 100 0 ∷ probe 0 9 7 ∷ answer 0 7 0 ∷ [];
      given = (0, 0) ∷ (0, 7) ∷ (0, 1) ∷ (0, 0) ∷ (0, 0) ∷ (0, 7) ∷ (0, 1) ∷ [];
    }

-- ---- sizes

-- nothing proven, no proposal; one out, no proposal; fresh clears it, not the proven size
unfoldable pub proposals : Sample
proposals =
    record {
      settings = second;
      events = opens 0 1200 0 ∷ seeks 0 ∷ prove 27 ∷ seeks 0 ∷ seeks 0 ∷ fresh ∷ seeks 0 ∷ [];
      given = (0, 0) ∷ (10, 0) ∷ (0, 0) ∷ (0, 0) ∷ (10, 0) ∷ (0, 0) ∷ (0, 1) ∷ [];
    }

-- an answer to the search probe says 3, and proves its size: nothing is left to propose
unfoldable pub acknowledged : Sample
acknowledged =
    record {
      settings = second;
      events = opens 0 1000 0 ∷ prove 27 ∷ seeks 0 ∷ answer 0 0 1000 ∷ seeks 1000000000 ∷ [];
      given = (0, 0) ∷ (0, 0) ∷ (0, 0) ∷ (0, 3) ∷ (10, 0) ∷ [];
    }

-- a search probe that is lost, in second n: a probe after it is answered, and the judge says 1
abbrev pub loss : ℕ → List Event
loss n =
    seeks (n * 1000000000) ∷ probe (n * 1000000000) 99000000000 0 ∷ answer (n * 1000000000) (2 * n + 1) 0 ∷ judge
    (n * 1000000000) 0 ∷ []

abbrev pub losses : ℕ → ℕ → List Event
losses n zero = []
losses n (suc k) = loss n ++ losses (suc n) k

-- 27 proven, full 65,535: twelve search probes, all lost; then rest, until 600 s after the last
unfoldable pub twelve : Sample
twelve =
    record {
      settings = second;
      events = opens 0 65535 0 ∷ prove 27 ∷ losses 0 12 ++ (seeks 610999999999 ∷ []);
      given =
          (0, 0) ∷ (0, 0) ∷
          (0, 0) ∷ (0, 1) ∷ (0, 1) ∷ (0, 1) ∷ (0, 2) ∷ (0, 3) ∷ (0, 1) ∷ (0, 1) ∷ (0, 4) ∷ (0, 5) ∷ (0, 1) ∷ (0, 1) ∷
          (0, 6) ∷ (0, 7) ∷ (0, 1) ∷ (0, 1) ∷ (0, 8) ∷ (0, 9) ∷ (0, 1) ∷ (0, 1) ∷ (0, 10) ∷ (0, 11) ∷ (0, 1) ∷ (0, 1) ∷
          (0, 12) ∷ (0, 13) ∷ (0, 1) ∷ (0, 1) ∷ (0, 14) ∷ (0, 15) ∷ (0, 1) ∷ (0, 1) ∷ (0, 16) ∷ (0, 17) ∷ (0, 1)
          ∷ (0, 1) ∷
          (0, 18) ∷ (0, 19) ∷ (0, 1) ∷ (0, 1) ∷ (0, 20) ∷ (0, 21) ∷ (0, 1) ∷ (0, 1) ∷ (0, 22) ∷ (0, 23) ∷ (0, 1)
          ∷ (0, 1) ∷
          (10, 0) ∷ [];
    }

-- a link that carries just the sizes up to 131: 132 is lost, which is 100 + 32: a rest, with L = proven + 31
unfoldable pub up_to131 : Sample
up_to131 =
    record {
      settings = second;
      events = opens 0 132 0 ∷ prove 100 ∷ loss 0;
      given = (0, 0) ∷ (0, 0) ∷ (0, 0) ∷ (0, 1) ∷ (0, 1) ∷ (0, 1) ∷ [];
    }

-- figures (7) and (8): with 100 proven, 132 lost is a rest; 133 lost is not, and the next one, of 116, is answered
unfoldable pub seven_eight : Sample
seven_eight =
    record {
      settings = settings 0 0 0 0;
      events =
          opens 0 132 0 ∷ prove 100 ∷ loss 0 ++ (seeks 0 ∷ closing 0 ∷ opens 0 133 0 ∷ prove 100 ∷ loss 0 ++ (
          seeks 0 ∷ answer 0 2 116 ∷ seeks 0 ∷ []));
      given =
          (0, 0) ∷ (0, 0) ∷ (0, 0) ∷ (0, 1) ∷ (0, 1) ∷ (0, 1) ∷ (10, 0) ∷ (0, 0) ∷
          (0, 0) ∷ (0, 0) ∷ (0, 0) ∷ (0, 1) ∷ (0, 1) ∷ (0, 1) ∷ (0, 2) ∷ (0, 3) ∷ (10, 0) ∷ [];
    }

-- a judge before the timeout, or with no later answer, says 0
unfoldable pub judges : Sample
judges =
    record {
      settings = second;
      events =
          opens 0 132 0 ∷ prove 100 ∷ seeks 5 ∷ judge 9 0 ∷ probe 5 99 0 ∷ answer 5 1 0 ∷ judge 14 10 ∷ judge 15 10
          ∷ judge 15 10 ∷ [];
      given = (0, 0) ∷ (0, 0) ∷ (0, 0) ∷ (0, 0) ∷ (0, 1) ∷ (0, 1) ∷ (0, 0) ∷ (0, 1) ∷ (0, 0) ∷ [];
    }

-- ---- choose

-- pinned ones pass a higher tier that is not; then the higher tier of them; then the fitting of one tier
unfoldable pub tiers : Sample
tiers =
    record {
      settings = second;
      events =
          opens 0 100 8 ∷ opens 1 100 16 ∷ choose margin_one ∷ opens 2 100 48 ∷ choose margin_one ∷
          opens 3 100 20 ∷ choose margin_one ∷ closing 3 ∷ closing 2 ∷ closing 1 ∷ choose margin_one ∷ [];
      given =
          (0, 0) ∷ (0, 0) ∷ (0, 1) ∷ (0, 0) ∷ (0, 2) ∷ (0, 0) ∷ (0, 3) ∷ (0, 0) ∷ (0, 0) ∷ (0, 0) ∷ (0, 0) ∷ [];
    }

-- tier 0 takes part
unfoldable pub lowest : Sample
lowest =
    record {
      settings = second;
      events = opens 5 27 0 ∷ choose margin_one ∷ closing 5 ∷ choose margin_one ∷ [];
      given = (0, 0) ∷ (0, 5) ∷ (0, 0) ∷ (11, 0) ∷ [];
    }

-- a quicker medium so near: wired at 10 ms before BLE at 5 ms with margin 100, not with 1
unfoldable pub by_scores : Sample
by_scores =
    record {
      settings = second;
      events =
          opens 0 100 1 ∷ opens 1 100 0 ∷ sample 0 10000000 ∷ sample 1 5000000 ∷ choose margin_hundred ∷
          choose margin_one ∷ [];
      given = (0, 0) ∷ (0, 0) ∷ (0, 0) ∷ (0, 0) ∷ (0, 0) ∷ (0, 1) ∷ [];
    }

-- equal scores: the lower slot
unfoldable pub equal : Sample
equal =
    record {
      settings = second;
      events = opens 0 100 0 ∷ opens 1 100 0 ∷ sample 0 5000000 ∷ sample 1 5000000 ∷ choose margin_one ∷ [];
      given = (0, 0) ∷ (0, 0) ∷ (0, 0) ∷ (0, 0) ∷ (0, 0) ∷ [];
    }

abbrev pub examples : List Sample
examples =
    first ∷ each_refused ∷ eight ∷ ordered ∷ defers ∷ last_data ∷ overdue ∷ thawed ∷ late_hole ∷ reopened ∷ proposals
    ∷ acknowledged ∷ twelve ∷ up_to131 ∷ seven_eight ∷
    judges ∷ tiers ∷ lowest ∷ by_scores ∷ equal ∷ []
