-- A row that was made to say something says it (`..-says`), for values within their widths.
-- Assumes nothing.
use Rattle.stop.specs.declared.types.Stop.{Stop}
use Rattle.std.specs.Prelude.{Option, None, Some, unwrap_or}
use Prim.Native.Nat.{ℕ, ◌+◌, ◌*◌, ◌-◌, ◌/◌, ◌<◌, ◌≤◌, ◌%◌, ◌^◌}
use mathlib.Core.Path.{◌≡◌, refl, ap, ◌∙◌}
use mathlib.Core.Bool.{Bool, true, false, cond}
use native.Mathlib.Omega.{arith}
use native.Mathlib.Nat.{mod-eq_of_lt}
use borrow.Author.Tests.{ne_eqb, le-leb, lt-leb}
use lib.Dec.{T, eqb, leb, ltb}
use lib.Ieee.{Float, binary64, fits}
use Rattle.base.specs.Seq.{flag_of}
use Rattle.base.proofs.Cases.{flag_small, flag-bit}
use Rattle.ring.specs.declared.types.Sent.{Sent}
use Rattle.ring.specs.declared.types.Ids.{Ids}
use Rattle.rtt.specs.declared.types.Span.{Span}
use Rattle.seek.specs.declared.types.Ladder.{Ladder}
use Rattle.seek.specs.declared.types.Sizes.{Sizes}
use Rattle.live.specs.declared.types.Traffic.{Traffic}
use Rattle.base.specs.Missing.{tag}
use Rattle.total.specs.Patterns.{etx_bits}
use Rattle.total.proofs.PlaceLaws.{float-again}
use Rattle.select.specs.declared.types.Role.{Role}
use Rattle.select.specs.declared.types.Role.TheVariants as role
use Rattle.select.specs.Media.{role_of}
use Rattle.select.proofs.MediaLaws.{medium-small, medium-same}
use Rattle.rules.specs.declared.types.Label.{Label}
use Rattle.rules.specs.declared.types.Settings.{Settings}
use Rattle.cells.specs.Cells.{flag_in, id_in, length_in, instant_in, sent_in, ids_in, stop_in, sizes_in, ladder_in}
use Rattle.cells.specs.Cells.{traffic_in, misses_in, etx_in, span_in, used_in, label_from, label_in, settings_in}
use Rattle.cells.specs.Code.{id_word, len_word, sent_row, ids_row, stop_row, until_word, ladder_word, arrivals_row}
use Rattle.cells.specs.Code.{span_row, role_bits, flag_bits, label_word, settings_row}

-- a number below its width is itself
low_same : (x : ℕ) → x < 2 ^ 32 → x % 2 ^ 32 ≡ x
low_same x h = omega arith

-- the same of 16 bits
short-same : (x : ℕ) → x < 65536 → x % 65536 ≡ x
short-same x h = omega arith

-- a flag's number says the flag
flag_same : (b : Bool) → flag_in (flag_of b) ≡ b
flag_same true = refl
flag_same false = refl

-- a marked length says the length
mark-len : (b : Bool) (n : ℕ) → n < 65536 → (n + cond b 65536 0) % 65536 ≡ n
mark-len true n h = omega arith
mark-len false n h = omega arith

-- a marked length says the mark
mark-used : (b : Bool) (n : ℕ) → n < 65536 → leb 65536 (n + cond b 65536 0) ≡ b
mark-used true n h = le-leb 65536 (n + 65536) (omega arith)
mark-used false n h = lt-leb 65536 (n + 0) (omega arith)

-- an identifier's word says it
pub id-some : (x : ℕ) → x < 2 ^ 32 → id_in (x + 1) ≡ Some x
id-some x h =
    let z : (x + 1 - 1) % 2 ^ 32 ≡ x = omega arith in
    rw (ne_eqb (x + 1) 0 (λ q. absurd (omega arith)), z)

-- a length's word says it
pub len-some : (x : ℕ) → x < 65536 → length_in (x + 1) ≡ Some x
len-some x h =
    let z : (x + 1 - 1) % 65536 ≡ x = omega arith in
    rw (ne_eqb (x + 1) 0 (λ q. absurd (omega arith)), z)

-- the two words of an instant or a duration say it
pub instant-says : (m : Option ℕ) → instant_in (tag m) (unwrap_or m 0) ≡ m
instant-says None = refl
instant-says (Some t) = refl

-- a probe
pub sent-says : (s : Sent) → s.probe_id < 2 ^ 32 → s.len < 65536 → sent_in (sent_row s) ≡ s
unfolding sent_in sent_row
sent-says s h i =
    let a = low_same s.probe_id h in
    let b = mark-len s.used s.len i in
    let d = mark-used s.used s.len i in
    λ k. record { at = s.at; due = s.due; probe_id = a k; len = b k; used = d k }

-- the identifiers, if each one's word says it
pub ids-same : (m : Ids) → id_in (id_word m.next_id) ≡ m.next_id → id_in (id_word m.answered) ≡ m.answered
    → id_in (id_word m.epoch) ≡ m.epoch → id_in (id_word m.since) ≡ m.since → ids_in (ids_row m) ≡ m
unfolding ids_in ids_row
ids-same m a b c d = λ k. record { next_id = a k; answered = b k; epoch = c k; since = d k }

-- the stop
pub stop-says : (m : Option Stop) → stop_in (stop_row m) (until_word m) ≡ m
unfolding stop_in stop_row until_word
stop-says None = refl
stop-says (Some s) = told s.owed s.until
  where
    told : (owed : Bool) (until : Option ℕ)
        → cond {A = Option Stop} (eqb (1 + flag_of owed + 2 * tag until) 0) None
        (Some
        (record {
          free = s.free;
          gap = s.gap;
          used = s.used;
          until = cond (ltb 2 (1 + flag_of owed + 2 * tag until)) (Some (unwrap_or until 0)) None;
          owed = eqb ((1 + flag_of owed + 2 * tag until) % 2) 0;
        }))
        ≡ Some (record { free = s.free; gap = s.gap; used = s.used; until = until; owed = owed })
    told true None = refl
    told true (Some t) = refl
    told false None = refl
    told false (Some t) = refl

-- the sizes, by their words
pub sizes-same : (s : Sizes) (w l m : ℕ) → w % 2 ^ 32 ≡ s.seek.probe_id → w / 2 ^ 32 % 65536 ≡ s.seek.len
    → (l ≡ s.seek.lost) × (l < 65536) → length_in m ≡ s.proven
    → sizes_in (tag s.seek.at) (unwrap_or s.seek.at 0) w l m ≡ s
unfolding sizes_in
sizes-same s w l m a b c d =
    let t = instant-says s.seek.at in
    let o : l % 65536 ≡ s.seek.lost = short-same l c.1 ∙ c.0 in
    λ k. record { seek = record { at = t k; probe_id = a k; len = b k; lost = o k }; proven = d k }

-- the traffic, by its words
pub traffic-same : (t : Traffic) (w : ℕ) → w % 2 ^ 32 ≡ t.frames → w / 2 ^ 32 % 2 ^ 32 ≡ t.bytes
    → traffic_in (arrivals_row t) w ≡ t
unfolding traffic_in arrivals_row
traffic-same t w f g =
    let a = instant-says t.heard_at in
    let b = instant-says t.data_at in
    λ k. record { heard_at = a k; data_at = b k; frames = f k; bytes = g k }

-- the misses
pub misses-same : {n x : ℕ} → (x ≡ n) × (x < 2 ^ 32) → misses_in x ≡ n
unfolding misses_in
misses-same {n} {x} e = low_same x e.1 ∙ e.0

-- a word that was marked by a flag
marked : (x n : ℕ) (b : Bool) → n ≤ 65536 → x ≡ n + 131072 * flag_of b → (x % 131072 ≡ n) × (leb 131072 x ≡ b)
marked x n true h e = (omega arith, le-leb 131072 x (omega arith))
marked x n false h e = (omega arith, lt-leb 131072 x (omega arith))

-- the ladder
pub ladder-made : (l : Ladder) {a f : ℕ} → (a ≡ len_word l.last) × (length_in a ≡ l.last) × (a ≤ 65536)
    → f ≡ 131072 * flag_of l.fallen → (a + f ≡ ladder_word l) × (ladder_in (a + f) ≡ l)
unfolding ladder_word ladder_in
ladder-made l {a} {f} e g =
    let m = marked (a + f) a l.fallen e.2 (ap (λ (x : ℕ). a + x) g) in (
      (λ k. e.0 k + g k),
      (λ k. record { last = length_in (m.0 k); fallen = m.1 k }) ∙ (λ k. record { last = e.1 k; fallen = l.fallen }),
    )

-- two halves of a word
pub halves-made : (n : ℕ) {a b x y : ℕ} → (a ≡ x) × (a < 2 ^ 32) → (b ≡ y) × (b < n)
    → (a + b * 2 ^ 32 ≡ x + y * 2 ^ 32) × ((a + b * 2 ^ 32) % 2 ^ 32 ≡ x) × ((a + b * 2 ^ 32) / 2 ^ 32 % n ≡ y)
halves-made n {a} {b} {x} {y} e f =
    let p : a ≡ x = e.0 in
    let q : a < 2 ^ 32 = e.1 in
    let r : b ≡ y = f.0 in
    let s : (a + b * 2 ^ 32) / 2 ^ 32 ≡ b = omega arith in
    (omega arith, omega arith, ap (λ (z : ℕ). z % n) s ∙ mod-eq_of_lt f.1 ∙ r)

-- the ETX
pub etx-says : (x : Float) → T (fits binary64 x) → etx_in (etx_bits x) ≡ x
unfolding etx_in
etx-says x h = float-again x h

-- the ETX's word
pub etx-made : {b : ℕ} (x : Float) → T (fits binary64 x) → b ≡ etx_bits x → (b ≡ etx_bits x) × (etx_in b ≡ x)
etx-made x h e = (e, ap etx_in e ∙ etx-says x h)

-- a span
pub span-says : (s : Span) → span_in (span_row s) ≡ s
unfolding span_in span_row
span-says s =
    let f = flag_same s.used in
    λ k. record { from = s.from; to = s.to; rtt = s.rtt; used = f k }

-- a role's number is below 4
role-small : (r : Role) → role_bits r < 4
role-small role.Never = omega arith
role-small role.Backup = omega arith
role-small role.Normal = omega arith
role-small role.Preferred = omega arith

-- a role by its number
role_same : (r : Role) (x : ℕ) → x % 4 ≡ role_bits r → role_of x ≡ r
role_same role.Never x e = rw e
role_same role.Backup x e = rw e
role_same role.Normal x e = rw e
role_same role.Preferred x e = rw e

-- the parts of an open's flags
record Parts (x m n a b c : ℕ) : Type 0 where
  pub medium : x % 4 ≡ m
  pub role : x / 4 % 4 ≡ n
  pub pinned : x / 16 % 2 ≡ a
  pub fits : x / 32 % 2 ≡ b
  pub preferred : x / 64 % 2 ≡ c

-- the flags' parts, by their widths
parts : (x m n a b c : ℕ) → x ≡ m + 4 * n + 16 * a + 32 * b + 64 * c → m < 4 → n < 4 → a < 2 → b < 2 → c < 2
    → Parts x m n a b c
parts x m n a b c e h i j k l =
    record {
      medium = omega arith;
      role = omega arith;
      pinned = omega arith;
      fits = omega arith;
      preferred = omega arith;
    }

-- the flags of a label
label-flags : (l : Label) (w : ℕ) → w % 65536 ≡ l.full → label_from w (flag_bits l) ≡ l
unfolding label_from
label-flags l w f =
    let p = parts (flag_bits l) _ _ _ _ _ refl (medium-small l.medium) (role-small l.role) (flag_small l.pinned)
    (flag_small l.fits) (flag_small l.preferred) in
    let a = flag-bit l.pinned _ p.pinned in
    let b = flag-bit l.fits _ p.fits in
    let c = flag-bit l.preferred _ p.preferred in
    let m = medium-same l.medium _ p.medium in
    let r = role_same l.role _ p.role in
    λ k. record { full = f k; pinned = a k; fits = b k; preferred = c k; medium = m k; role = r k }

-- the parts of a slot's marks
record Marked (w n u x : ℕ) : Type 0 where
  pub full : w % 65536 ≡ n
  pub used : w / 65536 % 2 ≡ u
  pub flags : w / 131072 ≡ x

-- by their widths
slot-marked : (w n u x : ℕ) → w ≡ n + 65536 * u + 131072 * x → n < 65536 → u < 2 → Marked w n u x
slot-marked w n u x e h i = record { full = omega arith; used = omega arith; flags = omega arith }

-- the marks of a slot
pub label-made : (on : Bool) (l : Label) {u n x : ℕ} → (u ≡ flag_of on) × (u < 2) → (n ≡ l.full) × (n < 65536)
    → x ≡ flag_bits l
    → let w = n + 65536 * u + 131072 * x in (w ≡ label_word on l) × (used_in w ≡ on) × (label_in w ≡ l)
unfolding label_word used_in
label-made on l {u} {n} {x} e f g =
    let w : ℕ = n + 65536 * u + 131072 * x in
    let m = slot-marked w n u x refl f.1 e.1 in (
      (λ k. f.0 k + 65536 * e.0 k + 131072 * g k),
      flag-bit on (w / 65536 % 2) (m.used ∙ e.0),
      ap (label_from w) (m.flags ∙ g) ∙ label-flags l w (m.full ∙ f.0),
    )

-- the marks of a slot whose full size is within its width
pub label-says : (on : Bool) (l : Label) → l.full < 65536
    → (used_in (label_word on l) ≡ on) × (label_in (label_word on l) ≡ l)
unfolding label_word
label-says on l h =
    let m = label-made on l (refl, flag_small on) (refl, h) refl in
    (m.1, m.2)

-- the settings
pub settings-says : (t : Settings) → settings_in (settings_row t) ≡ t
unfolding settings_in settings_row
settings-says t = refl
