-- What the steps of the choice find: the first by score, by medium and by round trip, each by the least of its keys.
-- Assumes nothing.
use Rattle.std.specs.Prelude.{Option, None, Some}
use Prim.Native.Nat.{ℕ, ◌+◌, ◌<◌, ◌≤◌}
use mathlib.Core.Path.{◌≡◌, refl, ap, sym, ◌∙◌}
use mathlib.Core.Bool.{Bool, true, false, not, ◌&&◌, ◌||◌}
use mathlib.Core.List.{List, [], ◌∷◌, map}
use native.Mathlib.Omega.{arith}
use borrow.Author.Tests.{lt-ltb, le-ltb, lt-leb, eq-eqb, ne_eqb, leb-false, ltb-true, ltb-false, eqb-true}
use lib.Dec.{T, ltb, leb, eqb}
use lib.Ieee.{Float, binary64, fits, le, mul}
use lib.Ieee.Fits.{mul-fits}
use lib.ListN.{length, get_or, length-map}
use Rattle.std.specs.List.{list_all, filter}
use Rattle.base.proofs.Cases.{on-flag, on-order, never}
use Rattle.base.proofs.KeepLaws.{keep-keep, keep_same}
use Rattle.total.specs.Patterns.{float_of}
use Rattle.total.specs.Values.{total_of}
use Rattle.total.specs.Places.{key_of, key_float, limit_key}
use Rattle.total.proofs.PlaceLaws.{key-total, key-off, key_back, key-limit, limit-under}
use Rattle.select.specs.Media.{speed_of, quicker_of}
use Rattle.select.specs.Rivals.{no_rival, at_place, placed, by_score, by_medium}
use Rattle.select.specs.Choice.{first_by, or_else, limit_of, near_of, preferred_of, quick_of, quickest, among_scored}
use Rattle.select.proofs.ChoiceLaws.{placed_at}
use Rattle.select.specs.declared.types.Medium.{Medium}
use Rattle.select.specs.declared.types.Medium.TheVariants as medium
use Rattle.select.specs.declared.types.Rival.{Rival}
use Rattle.rivalrows.specs.Rows.{rival_in, field_in}
use Rattle.leads.specs.Keys.{off_key, key_if, rank_key, is_top, score_key, speed_key, left_keys, is_near_key, is_speed, least_lead}
use Rattle.leads.specs.declared.least.Lead.{Lead}
use Rattle.leads.proofs.LoopLaws.{Least, Found, least-found, map_at, at-is, field-long}
use Rattle.choices.specs.Steps.{over_medium, isLeft, after_best}
use Rattle.choices.proofs.KeyedLaws.{by_key, Keyed, first-at, first-none, passes, least-over, least-ahead, least_first, least-nothing, least-none}

-- ---- both of two tests

pub left-of : (x y : Bool) → (x && y) ≡ true → x ≡ true
left-of true y e = refl
left-of false y e = e

pub right_of : (x y : Bool) → (x && y) ≡ true → y ≡ true
right_of true y e = e
right_of false y e = never e refl

both : {x y : Bool} → x ≡ true → y ≡ true → (x && y) ≡ true
both a b = λ i. a i && b i

-- ---- places

pub index_at : (l : List Rival) (j : ℕ) → placed 0 l ≡ true → j < length l → (get_or l j no_rival).held ≡ true
    → (get_or l j no_rival).index ≡ j
index_at l j e h t =
    let z : 0 + j ≡ j = omega arith in
    let a : at_place (0 + j) (get_or l j no_rival) ≡ true = placed_at l 0 j e h in
    let b : eqb (get_or l j no_rival).index (0 + j) ≡ true =
    sym (ap (λ (b : Bool). not b || eqb (get_or l j no_rival).index (0 + j)) t) ∙ a in
    eqb-true (get_or l j no_rival).index (0 + j) b ∙ z

-- ---- what a row's rival is

row-score : (w : List ℕ) → (rival_in w).score ≡ float_of (get_or w 3 0)
unfolding rival_in
row-score w = refl

row-tier : (w : List ℕ) → (rival_in w).tier < 256
unfolding rival_in
row-tier w = omega arith

pub tiers-small : (ws : List (List ℕ)) → list_all (λ r. ltb r.tier 256) (field_in ws) ≡ true
tiers-small [] = refl
tiers-small (w ∷ ws) = rw (lt-ltb (rival_in w).tier 256 (row-tier w)) (tiers-small ws)

-- ---- keys of scores

-- the key of the score of one that is asked
abbrev pub key_by : (Rival → Bool) → Rival → ℕ
key_by p r = key_if (p r) (key_of r.score)

-- of the highest rank, with a score
abbrev pub is_on : ℕ → Rival → Bool
is_on top r = is_top top r && r.scored

pub score-as : (top : ℕ) (l : List Rival) → map (score_key top) l ≡ map (key_by (is_on top)) l
unfolding score_key
score-as top l = refl

-- who is of a rank that is one is held
pub top-held : (top : ℕ) (r : Rival) → eqb top off_key ≡ false → is_top top r ≡ true → r.held ≡ true
unfolding rank_key
top-held top r off e =
    on-flag r.held
    (λ h. h)
    (λ h.
    let z : rank_key r ≡ off_key = rw h in
    never (eq-eqb top off_key (sym (eqb-true (rank_key r) top e) ∙ z)) off)

module _ (ws : List (List ℕ)) (pl : placed 0 (field_in ws) ≡ true) where
  score-at : (j : ℕ) → j < length (field_in ws) → (get_or (field_in ws) j no_rival).score ≡ float_of (get_or (get_or ws j []) 3 0)
  score-at j h =
      ap (λ (r : Rival). r.score) (at-is ws j (omega (arith, field-long ws))) ∙ row-score (get_or ws j [])

  order-at : (i j : ℕ) → i < length (field_in ws) → j < length (field_in ws)
      → total_of (get_or (field_in ws) i no_rival).score (get_or (field_in ws) j no_rival).score
      ≡ leb (key_of (get_or (field_in ws) i no_rival).score) (key_of (get_or (field_in ws) j no_rival).score)
  order-at i j h k =
      (λ t. total_of (score-at i h t) (score-at j k t))
      ∙ key-total (get_or (get_or ws i []) 3 0) (get_or (get_or ws j []) 3 0)
      ∙ sym (λ t. leb (key_of (score-at i h t)) (key_of (score-at j k t)))

  module _ (p : Rival → Bool) (held : (r : Rival) → p r ≡ true → r.held ≡ true) where
    key-at : (j : ℕ) → j < length (field_in ws)
        → get_or (map (key_by p) (field_in ws)) j 0 ≡ key_by p (get_or (field_in ws) j no_rival)
    key-at j h = map_at (key_by p) no_rival (field_in ws) j h

    key-on : (j : ℕ) → j < length (field_in ws) → p (get_or (field_in ws) j no_rival) ≡ true
        → get_or (map (key_by p) (field_in ws)) j 0 ≡ key_of (get_or (field_in ws) j no_rival).score
    key-on j h e = key-at j h ∙ ap (λ (b : Bool). key_if b (key_of (get_or (field_in ws) j no_rival).score)) e

    pub score-keyed : Keyed by_score p (field_in ws) (map (key_by p) (field_in ws))
    score-keyed =
        record {
          long = length-map (field_in ws) (key_by p);
          off = λ j h e. key-at j h ∙ ap (λ (b : Bool). key_if b (key_of (get_or (field_in ws) j no_rival).score)) e;
          under =
              λ j h e.
              rw (key-on j h e, score-at j h) (key-off (get_or (get_or ws j []) 3 0));
          place = λ j h e. index_at (field_in ws) j pl h (held (get_or (field_in ws) j no_rival) e);
          order =
              λ i j h k e f.
              (λ t.
              not (order-at j i k h t)
              || (order-at i j h k t && ltb (get_or (field_in ws) i no_rival).index (get_or (field_in ws) j no_rival).index))
              ∙ sym (λ t. by_key (key-on i h e t) (key-on j k f t) (get_or (field_in ws) i no_rival).index
              (get_or (field_in ws) j no_rival).index);
        }

-- ---- keys that are left

pub left-keys : (q p : Rival → Bool) (l : List Rival)
    → left_keys q l (map (key_by p) l) ≡ map (key_by (λ r. p r && q r)) l
unfolding left_keys
left-keys q p [] = refl
left-keys q p (r ∷ l) = λ i. joined (q r) (p r) (key_of r.score) i ∷ left-keys q p l i
  where
    joined : (a b : Bool) (k : ℕ) → key_if a (key_if b k) ≡ key_if (b && a) k
    joined true true k = refl
    joined true false k = refl
    joined false true k = refl
    joined false false k = refl

class-keys : (s : ℕ) (p : Rival → Bool) (l : List Rival)
    → left_keys (is_speed s) (map speed_key l) (map (key_by p) l) ≡ map (key_by (λ r. p r && eqb (speed_key r) s)) l
unfolding left_keys
class-keys s p [] = refl
class-keys s p (r ∷ l) = λ i. joined (eqb (speed_key r) s) (p r) (key_of r.score) i ∷ class-keys s p l i
  where
    joined : (a b : Bool) (k : ℕ) → key_if a (key_if b k) ≡ key_if (b && a) k
    joined true true k = refl
    joined true false k = refl
    joined false true k = refl
    joined false false k = refl

-- near a limit, by keys
module _ (x : Float) (f : T (fits binary64 x)) (p : Rival → Bool) where
  -- those of the asked that are near
  abbrev pub is_near : Rival → Bool
  is_near r = p r && le r.score x

  near-key : (w : List ℕ) → leb (key_by p (rival_in w)) (limit_key x) ≡ is_near (rival_in w)
  near-key w =
      on-flag (p (rival_in w))
      (λ h.
      rw h
      (ap (λ (y : Float). leb (key_of y) (limit_key x)) (row-score w)
      ∙ sym (key-limit (get_or w 3 0) x f)
      ∙ ap (λ (y : Float). le y x) (sym (row-score w))))
      (λ h. rw h (lt-leb off_key (limit_key x) (limit-under x f)))

  near-keys : (ws : List (List ℕ)) → left_keys (is_near_key (limit_key x)) (map (key_by p) (field_in ws)) (map (key_by p) (field_in ws))
      ≡ map (key_by is_near) (field_in ws)
  unfolding left_keys
  near-keys [] = refl
  near-keys (w ∷ ws) =
      λ i. (ap (λ (b : Bool). key_if b (key_by p (rival_in w))) (near-key w)
      ∙ joined (p (rival_in w)) (le (rival_in w).score x) (key_of (rival_in w).score)) i ∷ near-keys ws i
    where
      joined : (a b : Bool) (k : ℕ) → key_if (a && b) (key_if a k) ≡ key_if (a && b) k
      joined true b k = refl
      joined false b k = refl

  near-speeds : (ws : List (List ℕ)) → left_keys (is_near_key (limit_key x)) (map (key_by p) (field_in ws)) (map speed_key (field_in ws))
      ≡ map (λ r. key_if (is_near r) (speed_key r)) (field_in ws)
  unfolding left_keys
  near-speeds [] = refl
  near-speeds (w ∷ ws) =
      λ i. key_if (near-key w i) (speed_key (rival_in w)) ∷ near-speeds ws i

-- ---- over a quicker medium

speed-is : (r : Rival) → speed_key r ≡ speed_of r.medium
unfolding speed_key
speed-is r = refl

-- the steps of `over`
module _ (keys : List ℕ) (limit : ℕ) (speeds : List ℕ) (at : ℕ) where
  abbrev pub quick_in : ℕ
  quick_in = (least_lead (left_keys (is_near_key limit) keys speeds)).key

  pub over-still : eqb (get_or speeds at 0) 3 ≡ true → over_medium keys limit speeds at ≡ at
  unfolding over_medium
  over-still e = rw e

  pub over-slower : eqb (get_or speeds at 0) 3 ≡ false → ltb quick_in (get_or speeds at 0) ≡ false
      → over_medium keys limit speeds at ≡ at
  unfolding over_medium
  over-slower e q = rw (e, q)

  pub over-quicker : eqb (get_or speeds at 0) 3 ≡ false → ltb quick_in (get_or speeds at 0) ≡ true
      → over_medium keys limit speeds at
      ≡ (least_lead (left_keys (is_speed quick_in) speeds (left_keys (is_near_key limit) keys keys))).at
  unfolding over_medium
  over-quicker e q = rw (e, q)

module _ (ws : List (List ℕ)) (pl : placed 0 (field_in ws) ≡ true) (x : Float) (f : T (fits binary64 x)) (p : Rival → Bool)
    (held : (r : Rival) → p r ≡ true → r.held ≡ true) (at : ℕ) (inside : at < length (field_in ws)) where
  abbrev pick : Rival
  pick = get_or (field_in ws) at no_rival

  abbrev pace : ℕ
  pace = speed_of pick.medium

  -- near, over a quicker medium than the pick's
  abbrev is_over : Rival → Bool
  is_over r = is_near x f p r && quicker_of r.medium pick.medium

  over-is : first_by by_medium (quick_of pick.medium (filter (is_near x f p) (field_in ws)))
      ≡ first_by by_medium (filter is_over (field_in ws))
  over-is =
      ap (first_by by_medium)
      (keep-keep (λ (r : Rival). quicker_of r.medium pick.medium) (is_near x f p) (field_in ws))

  pace-is : get_or (map speed_key (field_in ws)) at 0 ≡ pace
  pace-is = map_at speed_key no_rival (field_in ws) at inside ∙ speed-is pick

  over-speed : (r : Rival) → is_over r ≡ true → (pace < 3) × (speed_of r.medium < pace)
  over-speed r e =
      let q : quicker_of r.medium pick.medium ≡ true = right_of (is_near x f p r) _ e in (
        ltb-true pace 3 (left-of (ltb pace 3) _ q),
        ltb-true (speed_of r.medium) pace (right_of (ltb pace 3) _ q),
      )

  abbrev OverAt : ℕ → Type 0
  OverAt r =
      or_else (first_by by_medium (quick_of pick.medium (filter (is_near x f p) (field_in ws)))) pick
      ≡ Some (get_or (field_in ws) r no_rival)

  -- none is
  over_none : ((j : ℕ) → j < length (field_in ws) → is_near x f p (get_or (field_in ws) j no_rival) ≡ true → pace < 3
      → speed_of (get_or (field_in ws) j no_rival).medium < pace → ⊥) → OverAt at
  over_none g =
      ap (λ (m : Option Rival). or_else m pick)
      (over-is
      ∙ first-none by_medium is_over (field_in ws)
      (λ j h.
      on-flag (is_over (get_or (field_in ws) j no_rival))
      (λ k.
      absurd
      (g j h (left-of (is_near x f p (get_or (field_in ws) j no_rival)) _ k)
      (over-speed (get_or (field_in ws) j no_rival) k).0 (over-speed (get_or (field_in ws) j no_rival) k).1))
      (λ k. k)))

  -- those near that are of a speed
  abbrev is_class : ℕ → Rival → Bool
  is_class s r = is_near x f p r && eqb (speed_key r) s

  -- the least of a speed, below which none is
  over-class : (s : ℕ) {ks : List ℕ} {r : ℕ} → ks ≡ map (key_by (is_class s)) (field_in ws) → Least ks r
      → eqb (get_or ks r 0) off_key ≡ false → s < pace → pace < 3
      → ((j : ℕ) → j < length (field_in ws) → is_near x f p (get_or (field_in ws) j no_rival) ≡ true
      → s ≤ speed_of (get_or (field_in ws) j no_rival).medium) → OverAt r
  over-class s {ks} {r} e least off a b low =
      let y : Rival = get_or (field_in ws) r no_rival in
      let t : Keyed by_score (is_class s) (field_in ws) ks =
      rw e (score-keyed ws pl (is_class s)
      (λ z g. held z (left-of (p z) _ (left-of (is_near x f p z) _ g)))) in
      let i : r < length (field_in ws) = omega (arith, least.inside, t.long) in
      let c : is_class s y ≡ true = passes t least i off in
      let near : is_near x f p y ≡ true = left-of (is_near x f p y) _ c in
      let pace-at : speed_of y.medium ≡ s =
      sym (speed-is y) ∙ eqb-true (speed_key y) s (right_of (is_near x f p y) _ c) in
      let quick : quicker_of y.medium pick.medium ≡ true =
      both (lt-ltb pace 3 b) (lt-ltb (speed_of y.medium) pace (omega (arith, pace-at))) in
      ap (λ (m : Option Rival). or_else m pick)
      (over-is
      ∙ first-at by_medium is_over (field_in ws) r i (both near quick)
      (λ j m k.
      let z : Rival = get_or (field_in ws) j no_rival in
      let n : is_near x f p z ≡ true = left-of (is_near x f p z) _ k in
      let o : s ≤ speed_of z.medium = low j m n in
      ap (λ (g : Bool). g || (eqb (speed_of z.medium) (speed_of y.medium) && by_score z y))
      (le-ltb (speed_of z.medium) (speed_of y.medium) (omega (arith, pace-at)))
      ∙ on-flag (eqb (speed_of z.medium) (speed_of y.medium))
      (λ g.
      let d : is_class s z ≡ true =
      both n (eq-eqb (speed_key z) s (speed-is z ∙ eqb-true (speed_of z.medium) (speed_of y.medium) g ∙ pace-at)) in
      ap (λ (q : Bool). q && by_score z y) g ∙ least-over t least i c j m d)
      (λ g. ap (λ (q : Bool). q && by_score z y) g))
      (λ j m k.
      let z : Rival = get_or (field_in ws) j no_rival in
      let in-j : j < length (field_in ws) = omega arith in
      let n : is_near x f p z ≡ true = left-of (is_near x f p z) _ k in
      let o : s ≤ speed_of z.medium = low j in-j n in
      on-order (speed_of y.medium) (speed_of z.medium)
      (λ g.
      ap (λ (q : Bool). q || (eqb (speed_of y.medium) (speed_of z.medium) && by_score y z))
      (lt-ltb (speed_of y.medium) (speed_of z.medium) g))
      (λ g.
      let same : speed_of z.medium ≡ s = omega (arith, pace-at) in
      let d : is_class s z ≡ true = both n (eq-eqb (speed_key z) s (speed-is z ∙ same)) in
      ap (λ (q : Bool). q || (eqb (speed_of y.medium) (speed_of z.medium) && by_score y z))
      (le-ltb (speed_of y.medium) (speed_of z.medium) g)
      ∙ both (eq-eqb (speed_of y.medium) (speed_of z.medium) (pace-at ∙ sym same)) (least-ahead t least i c j m d))))

  -- ---- by the least speed among the near

  abbrev keys : List ℕ
  keys = map (key_by p) (field_in ws)

  abbrev speeds : List ℕ
  speeds = map speed_key (field_in ws)

  abbrev near_speed : Rival → ℕ
  near_speed r = key_if (is_near x f p r) (speed_key r)

  abbrev quick : ℕ
  quick = quick_in keys (limit_key x) speeds at

  some : 0 < length (map near_speed (field_in ws))
  some = omega (arith, length-map (field_in ws) near_speed)

  quick-found : Found (map near_speed (field_in ws)) (least_lead (left_keys (is_near_key (limit_key x)) keys speeds))
  quick-found = rw (near-speeds x f p ws) (least-found (map near_speed (field_in ws)) some)

  speed-at : (j : ℕ) → j < length (field_in ws) → is_near x f p (get_or (field_in ws) j no_rival) ≡ true
      → get_or (map near_speed (field_in ws)) j 0 ≡ speed_of (get_or (field_in ws) j no_rival).medium
  speed-at j h e =
      map_at near_speed no_rival (field_in ws) j h
      ∙ ap (λ (b : Bool). key_if b (speed_key (get_or (field_in ws) j no_rival))) e
      ∙ speed-is (get_or (field_in ws) j no_rival)

  -- none near is quicker than that
  quick-low : (j : ℕ) → j < length (field_in ws) → is_near x f p (get_or (field_in ws) j no_rival) ≡ true
      → quick ≤ speed_of (get_or (field_in ws) j no_rival).medium
  quick-low j h e =
      omega (
        arith,
        quick-found.key,
        speed-at j h e,
        quick-found.place.low j (omega (arith, length-map (field_in ws) near_speed)),
      )

  speed-most : pace ≤ 3
  speed-most = most pick.medium
    where
      most : (m : Medium) → speed_of m ≤ 3
      most medium.Wired = omega arith
      most medium.Wireless = omega arith
      most medium.Ble = omega arith
      most medium.Unknown = omega arith

  -- where the least speed is below the pick's, one near has it
  quick-there : quick < pace → is_near x f p (get_or (field_in ws) (least_lead (left_keys (is_near_key (limit_key x)) keys speeds)).at no_rival)
      ≡ true
  quick-there h =
      let k : ℕ = (least_lead (left_keys (is_near_key (limit_key x)) keys speeds)).at in
      let i : k < length (field_in ws) = omega (arith, quick-found.place.inside, length-map (field_in ws) near_speed) in
      on-flag (is_near x f p (get_or (field_in ws) k no_rival))
      (λ e. e)
      (λ e.
      let z : get_or (map near_speed (field_in ws)) k 0 ≡ off_key =
      map_at near_speed no_rival (field_in ws) k i
      ∙ ap (λ (b : Bool). key_if b (speed_key (get_or (field_in ws) k no_rival))) e in
      absurd (omega (arith, quick-found.key, z, speed-most)))

  class-as : left_keys (is_speed quick) speeds (left_keys (is_near_key (limit_key x)) keys keys)
      ≡ map (key_by (is_class quick)) (field_in ws)
  class-as =
      ap (left_keys (is_speed quick) speeds) (near-keys x f p ws) ∙ class-keys quick (is_near x f p) (field_in ws)

  class-found : Found (map (key_by (is_class quick)) (field_in ws))
      (least_lead (left_keys (is_speed quick) speeds (left_keys (is_near_key (limit_key x)) keys keys)))
  class-found =
      rw class-as
      (least-found (map (key_by (is_class quick)) (field_in ws))
      (omega (arith, length-map (field_in ws) (key_by (is_class quick)))))

  -- so that its class has a key
  class-on : quick < pace
      → eqb (get_or (map (key_by (is_class quick)) (field_in ws))
      (least_lead (left_keys (is_speed quick) speeds (left_keys (is_near_key (limit_key x)) keys keys))).at 0) off_key ≡ false
  class-on h =
      let k : ℕ = (least_lead (left_keys (is_near_key (limit_key x)) keys speeds)).at in
      let i : k < length (field_in ws) = omega (arith, quick-found.place.inside, length-map (field_in ws) near_speed) in
      let n : is_near x f p (get_or (field_in ws) k no_rival) ≡ true = quick-there h in
      let s : speed_key (get_or (field_in ws) k no_rival) ≡ quick =
      speed-is (get_or (field_in ws) k no_rival) ∙ sym (speed-at k i n) ∙ sym quick-found.key in
      let t : Keyed by_score (is_class quick) (field_in ws) (map (key_by (is_class quick)) (field_in ws)) =
      score-keyed ws pl (is_class quick) (λ z g. held z (left-of (p z) _ (left-of (is_near x f p z) _ g))) in
      let u : get_or (map (key_by (is_class quick)) (field_in ws)) k 0 < off_key =
      t.under k i (both n (eq-eqb (speed_key (get_or (field_in ws) k no_rival)) quick s)) in
      let v : get_or (map (key_by (is_class quick)) (field_in ws))
      (least_lead (left_keys (is_speed quick) speeds (left_keys (is_near_key (limit_key x)) keys keys))).at 0
      ≤ get_or (map (key_by (is_class quick)) (field_in ws)) k 0 =
      class-found.place.low k (omega (arith, length-map (field_in ws) (key_by (is_class quick)))) in
      ne_eqb (get_or (map (key_by (is_class quick)) (field_in ws))
      (least_lead (left_keys (is_speed quick) speeds (left_keys (is_near_key (limit_key x)) keys keys))).at 0) off_key (omega arith)

  -- `over` finds the first near one over a quicker medium, else the pick
  pub over-right : OverAt (over_medium keys (limit_key x) speeds at)
  over-right =
      on-flag (eqb (get_or speeds at 0) 3)
      (λ e.
      let z : pace ≡ 3 = sym pace-is ∙ eqb-true (get_or speeds at 0) 3 e in
      rw (over-still keys (limit_key x) speeds at e) (over_none (λ j h n a b. omega arith)))
      (λ e.
      let z : pace < 3 =
      on-order pace 3
      (λ o. o)
      (λ o.
      let y : pace ≡ 3 = omega (arith, speed-most) in
      absurd (never (eq-eqb (get_or speeds at 0) 3 (pace-is ∙ y)) e)) in
      on-flag (ltb quick (get_or speeds at 0))
      (λ q.
      let a : quick < pace = omega (arith, pace-is, ltb-true quick (get_or speeds at 0) q) in
      rw (over-quicker keys (limit_key x) speeds at e q)
      (over-class quick refl class-found.place (class-on a) a z quick-low))
      (λ q.
      let a : pace ≤ quick = omega (arith, pace-is, ltb-false quick (get_or speeds at 0) q) in
      rw (over-slower keys (limit_key x) speeds at e q)
      (over_none (λ j h n b c. omega (arith, quick-low j h n)))))

-- ---- the pick where one has a score

-- those of the highest rank with a score that are left
abbrev is_of : ℕ → Bool → Rival → Bool
is_of top only r = is_on top r && isLeft only r

module _ (x : Float) (f : T (fits binary64 x)) (top : ℕ) (l : List Rival) where
  near-as : near_of x (filter (is_top top) l) ≡ filter (is_near x f (is_of top false)) l
  near-as =
      ap (filter (λ (r : Rival). le r.score x)) (keep-keep (λ (r : Rival). r.scored) (is_top top) l)
      ∙ keep-keep (λ (r : Rival). le r.score x) (is_on top) l
      ∙ keep_same (λ (r : Rival). is_on top r && le r.score x) (is_near x f (is_of top false))
      (λ r. any (is_on top r) r.preferred (le r.score x)) l
    where
      any : (a b c : Bool) → (a && c) ≡ ((a && (b || true)) && c)
      any true true c = refl
      any true false c = refl
      any false b c = refl

  preferred-as : preferred_of (near_of x (filter (is_top top) l)) ≡ filter (is_near x f (is_of top true)) l
  preferred-as =
      ap preferred_of
      (ap (filter (λ (r : Rival). le r.score x)) (keep-keep (λ (r : Rival). r.scored) (is_top top) l)
      ∙ keep-keep (λ (r : Rival). le r.score x) (is_on top) l)
      ∙ keep-keep (λ (r : Rival). r.preferred) (λ (r : Rival). is_on top r && le r.score x) l
      ∙ keep_same (λ (r : Rival). (is_on top r && le r.score x) && r.preferred) (is_near x f (is_of top true))
      (λ r. only (is_on top r) r.preferred (le r.score x)) l
    where
      only : (a b c : Bool) → ((a && c) && b) ≡ ((a && (b || false)) && c)
      only true true true = refl
      only true true false = refl
      only true false true = refl
      only true false false = refl
      only false b c = refl

-- the steps of `after`
module _ (l : List Rival) (keys : List ℕ) (best : Lead) (margin : Float) where
  abbrev limit_in : ℕ
  limit_in = limit_key (mul binary64 (key_float best.key) margin)

  abbrev second_in : Lead
  second_in = least_lead (left_keys (isLeft true) l keys)

  after_first : leb second_in.key limit_in ≡ true
      → after_best l keys best margin ≡ over_medium (left_keys (isLeft true) l keys) limit_in (map speed_key l) second_in.at
  unfolding after_best
  after_first e = rw e

  after-plain : leb second_in.key limit_in ≡ false
      → after_best l keys best margin ≡ over_medium (left_keys (isLeft false) l keys) limit_in (map speed_key l) best.at
  unfolding after_best
  after-plain e = rw e

module _ (ws : List (List ℕ)) (pl : placed 0 (field_in ws) ≡ true) (top : ℕ) (off : eqb top off_key ≡ false)
    (margin : Float) (some : 0 < length (field_in ws)) where
  abbrev scores : List ℕ
  scores = map (score_key top) (field_in ws)

  on-held : (r : Rival) → is_on top r ≡ true → r.held ≡ true
  on-held r e = top-held top r off (left-of (is_top top r) r.scored e)

  of-held : (only : Bool) (r : Rival) → is_of top only r ≡ true → r.held ≡ true
  of-held only r e = on-held r (left-of (is_on top r) (isLeft only r) e)

  best-found : Found scores (least_lead scores)
  best-found = least-found scores (omega (arith, length-map (field_in ws) (score_key top)))

  on-keyed : Keyed by_score (is_on top) (field_in ws) scores
  on-keyed = rw (score-as top (field_in ws)) (score-keyed ws pl (is_on top) on-held)

  abbrev best_at : ℕ
  best_at = (least_lead scores).at

  abbrev best_one : Rival
  best_one = get_or (field_in ws) best_at no_rival

  pub best-inside : best_at < length (field_in ws)
  best-inside = omega (arith, best-found.place.inside, length-map (field_in ws) (score_key top))

  key-as : eqb (least_lead scores).key off_key ≡ eqb (get_or scores best_at 0) off_key
  key-as = ap (λ (k : ℕ). eqb k off_key) best-found.key

  -- the best, or none
  pub best-first : eqb (least_lead scores).key off_key ≡ false
      → first_by by_score (filter (is_on top) (field_in ws)) ≡ Some best_one
  best-first e = least_first on-keyed best-found.place best-inside (sym key-as ∙ e)

  pub best_none : eqb (least_lead scores).key off_key ≡ true → first_by by_score (filter (is_on top) (field_in ws)) ≡ None
  best_none e = least-none on-keyed best-found.place best-inside (sym key-as ∙ e)

  pub best-on : eqb (least_lead scores).key off_key ≡ false → is_on top best_one ≡ true
  best-on e = passes on-keyed best-found.place best-inside (sym key-as ∙ e)

  pub best-nothing : eqb (least_lead scores).key off_key ≡ true → (j : ℕ) → j < length (field_in ws)
      → is_on top (get_or (field_in ws) j no_rival) ≡ false
  best-nothing e = least-nothing on-keyed best-found.place best-inside (sym key-as ∙ e)

  -- the best score is that of its key
  best-score : eqb (least_lead scores).key off_key ≡ false → key_float (least_lead scores).key ≡ best_one.score
  best-score e =
      let on : is_on top best_one ≡ true = best-on e in
      ap key_float
      (best-found.key
      ∙ ap (λ (ks : List ℕ). get_or ks best_at 0) (score-as top (field_in ws))
      ∙ key-on ws pl (is_on top) on-held best_at best-inside on)
      ∙ ap (λ (y : Float). key_float (key_of y)) (score-at ws pl best_at best-inside)
      ∙ key_back (get_or (get_or ws best_at []) 3 0)
      ∙ sym (score-at ws pl best_at best-inside)

  module _ (on : eqb (least_lead scores).key off_key ≡ false) where
    abbrev limit : Float
    limit = limit_of best_one margin

    limit-as : mul binary64 (key_float (least_lead scores).key) margin ≡ limit
    limit-as = ap (λ (y : Float). mul binary64 y margin) (best-score on)

    limit-fits : T (fits binary64 limit)
    limit-fits = mul-fits binary64 best_one.score margin

    -- the keys that are left
    left_as : (only : Bool) → left_keys (isLeft only) (field_in ws) scores ≡ map (key_by (is_of top only)) (field_in ws)
    left_as only =
        ap (left_keys (isLeft only) (field_in ws)) (score-as top (field_in ws)) ∙ left-keys (isLeft only) (is_on top) (field_in ws)

    abbrev second : Lead
    second = second_in (field_in ws) scores (least_lead scores) margin

    second-found : Found (map (key_by (is_of top true)) (field_in ws)) second
    second-found =
        rw (left_as true)
        (least-found (map (key_by (is_of top true)) (field_in ws))
        (omega (arith, length-map (field_in ws) (key_by (is_of top true)))))

    second-inside : second.at < length (field_in ws)
    second-inside = omega (arith, second-found.place.inside, length-map (field_in ws) (key_by (is_of top true)))

    second-keyed : Keyed by_score (is_of top true) (field_in ws) (map (key_by (is_of top true)) (field_in ws))
    second-keyed = score-keyed ws pl (is_of top true) (of-held true)

    -- a preferred one is near as its key is at most the limit's
    near-at : (j : ℕ) → j < length (field_in ws)
        → leb (get_or (map (key_by (is_of top true)) (field_in ws)) j 0) (limit_key limit)
        ≡ is_near limit limit-fits (is_of top true) (get_or (field_in ws) j no_rival)
    near-at j h =
        ap (λ (k : ℕ). leb k (limit_key limit))
        (map_at (key_by (is_of top true)) no_rival (field_in ws) j h
        ∙ ap (key_by (is_of top true)) (at-is ws j (omega (arith, field-long ws))))
        ∙ near-key limit limit-fits (is_of top true) (get_or ws j [])
        ∙ ap (is_near limit limit-fits (is_of top true)) (sym (at-is ws j (omega (arith, field-long ws))))

    -- the first preferred one near the best
    second-first : leb second.key (limit_key limit) ≡ true
        → first_by by_score (filter (is_near limit limit-fits (is_of top true)) (field_in ws))
        ≡ Some (get_or (field_in ws) second.at no_rival)
    second-first e =
        let y : Rival = get_or (field_in ws) second.at no_rival in
        let n : is_near limit limit-fits (is_of top true) y ≡ true =
        sym (near-at second.at second-inside)
        ∙ ap (λ (k : ℕ). leb k (limit_key limit)) (sym second-found.key) ∙ e in
        let c : is_of top true y ≡ true = left-of (is_of top true y) _ n in
        first-at by_score (is_near limit limit-fits (is_of top true)) (field_in ws) second.at second-inside n
        (λ j m k.
        least-over second-keyed second-found.place second-inside c j m
        (left-of (is_of top true (get_or (field_in ws) j no_rival)) _ k))
        (λ j m k.
        least-ahead second-keyed second-found.place second-inside c j m
        (left-of (is_of top true (get_or (field_in ws) j no_rival)) _ k))

    second_none : leb second.key (limit_key limit) ≡ false
        → first_by by_score (filter (is_near limit limit-fits (is_of top true)) (field_in ws)) ≡ None
    second_none e =
        first-none by_score (is_near limit limit-fits (is_of top true)) (field_in ws)
        (λ j m.
        let a : limit_key limit < second.key = leb-false second.key (limit_key limit) e in
        let b : get_or (map (key_by (is_of top true)) (field_in ws)) second.at 0
        ≤ get_or (map (key_by (is_of top true)) (field_in ws)) j 0 =
        second-found.place.low j (omega (arith, length-map (field_in ws) (key_by (is_of top true)))) in
        sym (near-at j m)
        ∙ lt-leb (get_or (map (key_by (is_of top true)) (field_in ws)) j 0) (limit_key limit)
        (omega (arith, second-found.key)))

    abbrev near : List Rival
    near = near_of limit (filter (is_top top) (field_in ws))

    -- `after` finds the pick
    pub after-right : among_scored near best_one
        ≡ Some (get_or (field_in ws) (after_best (field_in ws) scores (least_lead scores) margin) no_rival)
    after-right =
        let lim : limit_in (field_in ws) scores (least_lead scores) margin ≡ limit_key limit = ap limit_key limit-as in
        on-flag (leb second.key (limit_in (field_in ws) scores (least_lead scores) margin))
        (λ e.
        let u : leb second.key (limit_key limit) ≡ true = ap (leb second.key) (sym lim) ∙ e in
        let g : first_by by_score (preferred_of near) ≡ Some (get_or (field_in ws) second.at no_rival) =
        ap (first_by by_score) (preferred-as limit limit-fits top (field_in ws)) ∙ second-first u in
        ap (quickest near best_one) g
        ∙ ap (λ (m : List Rival). or_else (first_by by_medium (quick_of (get_or (field_in ws) second.at no_rival).medium m))
        (get_or (field_in ws) second.at no_rival)) (preferred-as limit limit-fits top (field_in ws))
        ∙ over-right ws pl limit limit-fits (is_of top true) (of-held true) second.at second-inside
        ∙ ap (λ (k : ℕ). Some (get_or (field_in ws) k no_rival))
        (sym
        (after_first (field_in ws) scores (least_lead scores) margin e
        ∙ (λ i. over_medium (left_as true i) (lim i) (map speed_key (field_in ws)) second.at))))
        (λ e.
        let u : leb second.key (limit_key limit) ≡ false = ap (leb second.key) (sym lim) ∙ e in
        let g : first_by by_score (preferred_of near) ≡ None =
        ap (first_by by_score) (preferred-as limit limit-fits top (field_in ws)) ∙ second_none u in
        ap (quickest near best_one) g
        ∙ ap (λ (m : List Rival). or_else (first_by by_medium (quick_of best_one.medium m)) best_one)
        (near-as limit limit-fits top (field_in ws))
        ∙ over-right ws pl limit limit-fits (is_of top false) (of-held false) best_at best-inside
        ∙ ap (λ (k : ℕ). Some (get_or (field_in ws) k no_rival))
        (sym
        (after-plain (field_in ws) scores (least_lead scores) margin e
        ∙ (λ i. over_medium (left_as false i) (lim i) (map speed_key (field_in ws)) best_at))))
