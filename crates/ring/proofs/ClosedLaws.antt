-- The ring stays closed up: the waiting probes at the front, free places behind them.
-- Assumes nothing.
use Rattle.std.specs.Prelude.{Option, None, Some}
use Prim.Native.Nat.{ℕ, zero, suc, ◌-◌, ◌<◌}
use mathlib.Core.Path.{◌≡◌, refl, sym, ap, ◌∙◌}
use mathlib.Core.List.{List, [], ◌∷◌, ◌++◌}
use mathlib.Core.Bool.{Bool, true, false}
use native.Mathlib.Omega.{arith}
use lib.ListN.{length, set, replicate, length-append, length-replicate, length-set}
use Rattle.std.specs.List.{list_all}
use Rattle.base.specs.Seq.{position}
use Rattle.base.proofs.Cases.{on-flag, on-order}
use Rattle.base.proofs.SeqLaws.{length-keep}
use Rattle.base.proofs.BookLaws.{Holds, holds_kept, holds-packed, holds_more}
use Rattle.base.proofs.KeepLaws.{keep-passes}
use Rattle.ring.specs.Ring.{max_waiting, no_sent, is_used, is_free, first_free, waiting, taken_out, Closed}
use Rattle.ring.specs.Lapse.{with_due, scan_of, lapse_or}
use Rattle.ring.specs.declared.types.Sent.{Sent}

-- a closed ring holds its waiting probes and nothing else; and what holds some probes is closed
holds_of : {l : List Sent} → Closed l → Holds is_used no_sent max_waiting l (waiting l)
holds_of {l} c = record { used = keep-passes is_used l; fits = c.fits; full = c.shut }

closed_of : {l w : List Sent} → Holds is_used no_sent max_waiting l w → Closed l
closed_of {l} {w} h =
    let e : waiting l ≡ w = holds_kept is_used no_sent refl h in
    record { fits = rw e h.fits; shut = rw e h.full }

pub closed-new : Closed (replicate max_waiting no_sent)
closed-new = record { fits = omega arith; shut = refl }

-- a closed ring has all its places
pub closed-long : {l : List Sent} → Closed l → length l ≡ max_waiting
closed-long {l} c =
    ap length c.shut
    ∙ rw (length-append, length-replicate) (omega (arith, c.fits))

-- among used places no free one is found
none_free : (w : List Sent) → list_all is_used w ≡ true → position is_free (w ++ []) ≡ length w
none_free [] e = refl
none_free (s ∷ w) e =
    on-flag s.used
    (λ q. rw q (ap suc (none_free w (rw q at e))))
    (λ q. let y : true ≡ false = sym (rw q at e) in cc)

-- a free place is found only where fewer than eight wait
pub free-room : {l : List Sent} → Closed l → first_free l < max_waiting → length (waiting l) < max_waiting
free-room {l} c h =
    on-order (length (waiting l)) max_waiting (λ k. k)
    (λ k.
    let z : max_waiting - length (waiting l) ≡ 0 = omega arith in
    let s : l ≡ waiting l ++ [] = c.shut ∙ rw z in
    let e : first_free l ≡ length (waiting l) = ap first_free s ∙ none_free (waiting l) (keep-passes is_used l) in
    absurd (omega arith))

-- one more at the first free place
pub closed-more : {l : List Sent} (s : Sent) → Closed l → first_free l < max_waiting → s.used ≡ true → Closed (set l (first_free l) s)
closed-more s c h u = closed_of (holds_more is_used no_sent refl s (holds_of c) (free-room c h) u)

-- a place set free
pub closed-out : (l : List Sent) (slot : ℕ) → length l ≡ max_waiting → Closed (taken_out max_waiting l slot)
closed-out l slot h =
    closed_of
    (holds-packed is_used no_sent refl (set l slot no_sent)
    (let n : length (set l slot no_sent) ≡ max_waiting = rw length-set h in
    omega (arith, length-keep is_used (set l slot no_sent))))

-- the scan of `expire` changes no mark, and leaves free places
module _ (p : Sent → Bool) (f : Sent → Option ℕ) (free : p no_sent ≡ false) where
  scan-used : (w : List Sent) → list_all is_used w ≡ true → list_all is_used (scan_of p f w).ring ≡ true
  scan-used [] e = refl
  scan-used (s ∷ w) e =
      on-flag s.used
      (λ q.
      let m : list_all is_used w ≡ true = rw q at e in
      on-flag (p s) (λ r. rw r (at_first (f s) s w q m (scan-used w m))) (λ r. rw (r, q) (scan-used w m)))
      (λ q. let y : true ≡ false = sym (rw q at e) in cc)
    where
      at_first : (u : Option ℕ) (s : Sent) (w : List Sent) → s.used ≡ true → list_all is_used w ≡ true
          → list_all is_used (scan_of p f w).ring ≡ true → list_all is_used (lapse_or u s w (scan_of p f w)).ring ≡ true
      at_first None s w q m k = rw q m
      at_first (Some u) s w q m k = rw q k

  scan-free : (m : ℕ) → (scan_of p f (replicate m no_sent)).ring ≡ replicate m no_sent
  scan-free zero = refl
  scan-free (suc m) = rw free (ap (λ (r : List Sent). no_sent ∷ r) (scan-free m))

  -- what waits is scanned as if no free places stood behind it
  scan-front : (w : List Sent) (m : ℕ) → (scan_of p f (w ++ replicate m no_sent)).ring ≡ (scan_of p f w).ring ++ replicate m no_sent
  scan-front [] m = scan-free m
  scan-front (s ∷ w) m =
      on-flag (p s)
      (λ r. rw r (at_first (f s) (scan-front w m)))
      (λ r. rw r (ap (λ (l : List Sent). s ∷ l) (scan-front w m)))
    where
      at_first : (u : Option ℕ)
          → (scan_of p f (w ++ replicate m no_sent)).ring ≡ (scan_of p f w).ring ++ replicate m no_sent
          → (lapse_or u s (w ++ replicate m no_sent) (scan_of p f (w ++ replicate m no_sent))).ring
          ≡ (lapse_or u s w (scan_of p f w)).ring ++ replicate m no_sent
      at_first None k = refl
      at_first (Some u) k = ap (λ (l : List Sent). with_due s u ∷ l) k

  scan-long : (l : List Sent) → length (scan_of p f l).ring ≡ length l
  scan-long [] = refl
  scan-long (s ∷ l) = on-flag (p s) (λ r. rw r (at_first (f s) (scan-long l))) (λ r. rw r (ap suc (scan-long l)))
    where
      at_first : (u : Option ℕ) → length (scan_of p f l).ring ≡ length l → length (lapse_or u s l (scan_of p f l)).ring ≡ suc (length l)
      at_first None k = refl
      at_first (Some u) k = ap suc k

  pub closed-scan : {l : List Sent} → Closed l → Closed (scan_of p f l).ring
  closed-scan {l} c =
      let w = waiting l in
      let e : length (scan_of p f w).ring ≡ length w = scan-long w in
      closed_of {w = (scan_of p f w).ring}
      (record {
        used = scan-used w (keep-passes is_used l);
        fits = rw e c.fits;
        full = ap (λ (r : List Sent). (scan_of p f r).ring) c.shut ∙ rw (scan-front w (max_waiting - length w), e);
      })
