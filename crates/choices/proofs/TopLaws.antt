-- The ranked are the held rivals of the highest rank: the rank has pinned before tier before fitting.
-- Assumes nothing.
use Prim.Native.Nat.{ℕ, suc, ◌+◌, ◌-◌, ◌*◌, ◌<◌, ◌≤◌}
use mathlib.Core.Path.{◌≡◌, refl, ap, sym, ◌∙◌}
use mathlib.Core.Bool.{Bool, true, false, not, cond, ◌&&◌, ◌||◌, beq}
use mathlib.Core.List.{List, [], ◌∷◌, map}
use native.Mathlib.Omega.{arith}
use borrow.Author.Tests.{lt-ltb, le-ltb, le-leb, eq-eqb, ne_eqb, leb-true, eqb-true, ltb-true}
use lib.Dec.{ltb, leb, eqb}
use lib.ListN.{length, get_or, length-map}
use Rattle.std.specs.List.{list_all, filter}
use Rattle.base.specs.Seq.{flag_of}
use Rattle.base.specs.First.{unbeaten}
use Rattle.base.proofs.Cases.{on-flag, on-order, flag_small, never}
use Rattle.base.proofs.KeepLaws.{keep-keep, keep_same, keep-same-in, keep_all}
use Rattle.base.proofs.ScanLaws.{every-keep-at, every-keep-of, every-at}
use Rattle.select.specs.Rivals.{no_rival, by_tier}
use Rattle.select.specs.Choice.{none_is, only_any, rivals_of, high_of, ranked_of}
use Rattle.select.specs.declared.types.Rival.{Rival}
use Rattle.leads.specs.Keys.{off_key, rank_key, is_top}
use Rattle.leads.proofs.LoopLaws.{Least, map_at}

-- ---- the height of a rank

-- pinned before tier before fitting, in one number
abbrev pub height_of : Rival → ℕ
height_of r = flag_of r.pinned * 512 + r.tier * 2 + flag_of r.fits

-- a held rival of a height
abbrev pub is_high : ℕ → Rival → Bool
is_high top r = r.held && eqb (height_of r) top

-- at a place stands a held rival of a height
pub record Stands (l : List Rival) (top k : ℕ) : Type 0 where
  pub inside : k < length l
  pub held : (get_or l k no_rival).held ≡ true
  pub height : height_of (get_or l k no_rival) ≡ top

-- the greatest height of the held: none is above it, and one has it
pub record Highest (l : List Rival) (top : ℕ) : Type 0 where
  pub over : (j : ℕ) → j < length l → (get_or l j no_rival).held ≡ true → height_of (get_or l j no_rival) ≤ top
  pub there : (k : ℕ) × Stands l top k

-- ---- flags

flag_same : (a b : Bool) → flag_of a ≡ flag_of b → a ≡ b
flag_same true true e = refl
flag_same false false e = refl
flag_same true false e = absurd (omega (arith, e))
flag_same false true e = absurd (omega (arith, e))

beq-self : (a : Bool) → beq a a ≡ true
beq-self true = refl
beq-self false = refl

beq-true : (a b : Bool) → beq a b ≡ true → a ≡ b
beq-true true true e = refl
beq-true false false e = refl
beq-true true false e = never refl (sym e)
beq-true false true e = never refl (sym e)

beq-yes : (a : Bool) → a ≡ beq a true
beq-yes true = refl
beq-yes false = refl

beq-no : (a : Bool) → not a ≡ beq a false
beq-no true = refl
beq-no false = refl

both : {x y : Bool} → x ≡ true → y ≡ true → (x && y) ≡ true
both a b = λ i. a i && b i

-- ---- lists

every-that : (a b : Rival → Bool) → ((y : Rival) → a y ≡ true → b y ≡ true) → (m : List Rival) → list_all a m ≡ true
    → list_all b m ≡ true
every-that a b f [] e = refl
every-that a b f (x ∷ m) e =
    on-flag (a x)
    (λ h. let k : b x ≡ true = f x h in rw k (every-that a b f m (rw h at e)))
    (λ h. never e (ap (λ (t : Bool). t && list_all a m) h))

every-keep-is : (q p : Rival → Bool) (m : List Rival) → list_all q (filter p m) ≡ list_all (λ y. not (p y) || q y) m
every-keep-is q p [] = refl
every-keep-is q p (x ∷ m) = on-flag (p x) (λ h. rw h (rw (every-keep-is q p m))) (λ h. rw h (every-keep-is q p m))

pub keep-none : (q : Rival → Bool) (l : List Rival) → ((j : ℕ) → j < length l → q (get_or l j no_rival) ≡ false) → filter q l ≡ []
keep-none q [] f = refl
keep-none q (x ∷ l) f =
    let n : q x ≡ false = f 0 (omega arith) in
    rw n (keep-none q l (λ j m. f (suc j) (omega arith)))

-- x is in a list: it passes what each passes
abbrev In : Rival → List Rival → Type 0
In x m = (q : Rival → Bool) → list_all q m ≡ true → q x ≡ true

in-keep : (x : Rival) (m : List Rival) (p : Rival → Bool) → In x m → p x ≡ true → In x (filter p m)
in-keep x m p i h q e =
    let z : (not (p x) || q x) ≡ true = i (λ (y : Rival). not (p y) || q y) (sym (every-keep-is q p m) ∙ e) in
    ap (λ (t : Bool). not t || q x) (sym h) ∙ z

-- ---- the three steps, where one is in the list that no other exceeds

only-as : (p : Rival → Bool) (x : Rival) (m : List Rival) → In x m → (p x ≡ false → none_is p m ≡ true)
    → only_any p m ≡ filter (λ y. beq (p y) (p x)) m
only-as p x m i f =
    on-flag (p x)
    (λ h.
    let n : none_is p m ≡ false =
    on-flag (none_is p m) (λ e. never (i (λ (y : Rival). not (p y)) e) (ap not h)) (λ e. e) in
    ap (λ (t : Bool). cond t m (filter p m)) n
    ∙ keep_same p (λ (y : Rival). beq (p y) true) (λ y. beq-yes (p y)) m
    ∙ ap (λ (t : Bool). filter (λ (y : Rival). beq (p y) t) m) (sym h))
    (λ h.
    let n : none_is p m ≡ true = f h in
    ap (λ (t : Bool). cond t m (filter p m)) n
    ∙ sym (keep_all (λ (y : Rival). beq (p y) false) m
    (every-that (λ (y : Rival). not (p y)) (λ (y : Rival). beq (p y) false) (λ y e. sym (beq-no (p y)) ∙ e) m n))
    ∙ ap (λ (t : Bool). filter (λ (y : Rival). beq (p y) t) m) (sym h))

high-as : (x : Rival) (m : List Rival) → In x m → list_all (λ y. leb y.tier x.tier) m ≡ true
    → high_of m ≡ filter (λ y. eqb y.tier x.tier) m
high-as x m i f =
    keep-same-in (λ (y : Rival). leb y.tier x.tier) (unbeaten by_tier m) (λ (y : Rival). eqb y.tier x.tier)
    (λ y h.
    let b : y.tier ≤ x.tier = leb-true y.tier x.tier h in
    on-order y.tier x.tier
    (λ o.
    on-flag (unbeaten by_tier m y)
    (λ u. never (i (λ (z : Rival). not (by_tier z y)) u) (ap not (lt-ltb y.tier x.tier o)))
    (λ u. u ∙ sym (ne_eqb y.tier x.tier (omega arith))))
    (λ o.
    every-that (λ (z : Rival). leb z.tier x.tier) (λ (z : Rival). not (by_tier z y))
    (λ z k.
    let d : z.tier ≤ x.tier = leb-true z.tier x.tier k in
    ap not (le-ltb y.tier z.tier (omega arith))) m f
    ∙ sym (eq-eqb y.tier x.tier (omega arith))))
    m
    f

-- ---- the rank of two rivals

rank_same : (a b : Bool) (t u : ℕ) (f g : Bool) → t < 256 → u < 256
    → ((beq a b && eqb t u) && beq f g)
    ≡ eqb (flag_of a * 512 + t * 2 + flag_of f) (flag_of b * 512 + u * 2 + flag_of g)
rank_same a b t u f g h k =
    on-flag (eqb (flag_of a * 512 + t * 2 + flag_of f) (flag_of b * 512 + u * 2 + flag_of g))
    (λ e.
    let r : flag_of a * 512 + t * 2 + flag_of f ≡ flag_of b * 512 + u * 2 + flag_of g = eqb-true _ _ e in
    let p : flag_of a ≡ flag_of b = omega (arith, r, flag_small a, flag_small b, flag_small f, flag_small g) in
    let s : t ≡ u = omega (arith, r, flag_small a, flag_small b, flag_small f, flag_small g) in
    let q : flag_of f ≡ flag_of g = omega (arith, r, flag_small a, flag_small b, flag_small f, flag_small g) in
    both
    (both (ap (λ (z : Bool). beq z b) (flag_same a b p) ∙ beq-self b) (eq-eqb t u s))
    (ap (λ (z : Bool). beq z g) (flag_same f g q) ∙ beq-self g)
    ∙ sym e)
    (λ e.
    on-flag ((beq a b && eqb t u) && beq f g)
    (λ m.
    let p : a ≡ b = beq-true a b (first3 (beq a b) (eqb t u) (beq f g) m) in
    let s : t ≡ u = eqb-true t u (second3 (beq a b) (eqb t u) (beq f g) m) in
    let q : f ≡ g = beq-true f g (third3 (beq a b) (eqb t u) (beq f g) m) in
    never
    (eq-eqb (flag_of a * 512 + t * 2 + flag_of f) (flag_of b * 512 + u * 2 + flag_of g)
    (λ i. flag_of (p i) * 512 + s i * 2 + flag_of (q i))) e)
    (λ m. m ∙ sym e))
  where
    first3 : (x y z : Bool) → ((x && y) && z) ≡ true → x ≡ true
    first3 true y z e = refl
    first3 false y z e = e

    second3 : (x y z : Bool) → ((x && y) && z) ≡ true → y ≡ true
    second3 true true z e = refl
    second3 true false z e = e
    second3 false y z e = never e refl

    third3 : (x y z : Bool) → ((x && y) && z) ≡ true → z ≡ true
    third3 true true z e = e
    third3 true false z e = never e refl
    third3 false y z e = never e refl

-- ---- the ranked

module _ (l : List Rival) (x : Rival) (top : ℕ) (i : In x (rivals_of l)) (e : height_of x ≡ top) (n : x.tier < 256)
    (o : list_all (λ y. leb (height_of y) top) (rivals_of l) ≡ true) where
  abbrev named : List Rival
  named = filter (λ y. beq y.pinned x.pinned) (rivals_of l)

  abbrev high : List Rival
  high = filter (λ y. eqb y.tier x.tier) named

  in-named : In x named
  in-named = in-keep x (rivals_of l) (λ (y : Rival). beq y.pinned x.pinned) i (beq-self x.pinned)

  in-high : In x high
  in-high = in-keep x named (λ (y : Rival). eqb y.tier x.tier) in-named (eq-eqb x.tier x.tier refl)

  -- if none is pinned
  pinned-none : x.pinned ≡ false → none_is (λ r. r.pinned) (rivals_of l) ≡ true
  pinned-none h =
      every-that (λ (y : Rival). leb (height_of y) top) (λ (y : Rival). not y.pinned)
      (λ y k.
      on-flag y.pinned
      (λ p.
      let a : flag_of y.pinned ≡ 1 = ap flag_of p in
      let b : flag_of x.pinned ≡ 0 = ap flag_of h in
      let d : height_of y ≤ top = leb-true (height_of y) top k in
      absurd (omega (arith, flag_small x.fits, e)))
      (λ p. ap not p))
      (rivals_of l)
      o

  -- the tiers of the named
  tiers : list_all (λ y. leb y.tier x.tier) named ≡ true
  tiers =
      every-keep-is (λ (y : Rival). leb y.tier x.tier) (λ (y : Rival). beq y.pinned x.pinned) (rivals_of l)
      ∙ every-that (λ (y : Rival). leb (height_of y) top)
      (λ (y : Rival). not (beq y.pinned x.pinned) || leb y.tier x.tier)
      (λ y k.
      on-flag (beq y.pinned x.pinned)
      (λ p.
      let a : flag_of y.pinned ≡ flag_of x.pinned = ap flag_of (beq-true y.pinned x.pinned p) in
      let d : height_of y ≤ top = leb-true (height_of y) top k in
      let b : y.tier ≤ x.tier = omega (arith, flag_small x.fits, e) in
      ap (λ (t : Bool). not t || leb y.tier x.tier) p ∙ le-leb y.tier x.tier b)
      (λ p. ap (λ (t : Bool). not t || leb y.tier x.tier) p))
      (rivals_of l)
      o

  -- if none of the highest tier fits
  fits-none : x.fits ≡ false → none_is (λ r. r.fits) high ≡ true
  fits-none h =
      every-keep-is (λ (y : Rival). not y.fits) (λ (y : Rival). eqb y.tier x.tier) named
      ∙ every-keep-is (λ (y : Rival). not (eqb y.tier x.tier) || not y.fits)
      (λ (y : Rival). beq y.pinned x.pinned) (rivals_of l)
      ∙ every-that (λ (y : Rival). leb (height_of y) top)
      (λ (y : Rival). not (beq y.pinned x.pinned) || (not (eqb y.tier x.tier) || not y.fits))
      (λ y k.
      on-flag (beq y.pinned x.pinned)
      (λ p.
      ap (λ (t : Bool). not t || (not (eqb y.tier x.tier) || not y.fits)) p
      ∙ on-flag (eqb y.tier x.tier)
      (λ q.
      ap (λ (t : Bool). not t || not y.fits) q
      ∙ on-flag y.fits
      (λ r.
      let a : flag_of y.pinned ≡ flag_of x.pinned = ap flag_of (beq-true y.pinned x.pinned p) in
      let b : y.tier ≡ x.tier = eqb-true y.tier x.tier q in
      let c : flag_of y.fits ≡ 1 = ap flag_of r in
      let g : flag_of x.fits ≡ 0 = ap flag_of h in
      let d : height_of y ≤ top = leb-true (height_of y) top k in
      absurd (omega (arith, e)))
      (λ r. ap not r))
      (λ q. ap (λ (t : Bool). not t || not y.fits) q))
      (λ p. ap (λ (t : Bool). not t || (not (eqb y.tier x.tier) || not y.fits)) p))
      (rivals_of l)
      o

  top-is : ranked_of l ≡ filter (λ y. beq y.fits x.fits) high
  unfolding ranked_of
  top-is =
      ap (λ (m : List Rival). only_any (λ (r : Rival). r.fits) (high_of m))
      (only-as (λ (r : Rival). r.pinned) x (rivals_of l) i pinned-none)
      ∙ ap (only_any (λ (r : Rival). r.fits)) (high-as x named in-named tiers)
      ∙ only-as (λ (r : Rival). r.fits) x high in-high fits-none

  -- in one test
  kept-is : list_all (λ r. ltb r.tier 256) l ≡ true → filter (λ y. beq y.fits x.fits) high ≡ filter (is_high top) l
  kept-is t =
      keep-keep (λ (y : Rival). beq y.fits x.fits) (λ (y : Rival). eqb y.tier x.tier) named
      ∙ keep-keep (λ (y : Rival). eqb y.tier x.tier && beq y.fits x.fits)
      (λ (y : Rival). beq y.pinned x.pinned) (rivals_of l)
      ∙ keep-keep
      (λ (y : Rival). beq y.pinned x.pinned && (eqb y.tier x.tier && beq y.fits x.fits))
      (λ (y : Rival). y.held) l
      ∙ keep-same-in (λ (y : Rival). ltb y.tier 256)
      (λ (y : Rival).
      y.held && (beq y.pinned x.pinned && (eqb y.tier x.tier && beq y.fits x.fits)))
      (is_high top)
      (λ y h.
      ap (λ (z : Bool). y.held && z)
      (joined (beq y.pinned x.pinned) (eqb y.tier x.tier) (beq y.fits x.fits)
      ∙ rank_same y.pinned x.pinned y.tier x.tier y.fits x.fits (ltb-true y.tier 256 h) n
      ∙ ap (eqb (height_of y)) e))
      l
      t
    where
      joined : (a b d : Bool) → (a && (b && d)) ≡ ((a && b) && d)
      joined true b d = refl
      joined false b d = refl

ranked-high : (l : List Rival) (top : ℕ) → list_all (λ r. ltb r.tier 256) l ≡ true → Highest l top
    → ranked_of l ≡ filter (is_high top) l
ranked-high l top t h = found h.there
  where
    found : (k : ℕ) × Stands l top k → ranked_of l ≡ filter (is_high top) l
    found (k, s) =
        let x : Rival = get_or l k no_rival in
        let i : In x (rivals_of l) =
        λ q f. every-keep-at no_rival (λ (r : Rival). r.held) q l k f s.inside s.held in
        let n : x.tier < 256 = ltb-true x.tier 256 (every-at no_rival (λ (r : Rival). ltb r.tier 256) l k t s.inside) in
        let o : list_all (λ y. leb (height_of y) top) (rivals_of l) ≡ true =
        every-keep-of no_rival (λ (r : Rival). r.held) (λ (y : Rival). leb (height_of y) top) l
        (λ j m g. le-leb (height_of (get_or l j no_rival)) top (h.over j m g)) in
        top-is l x top i s.height n o ∙ kept-is l x top i s.height n o t

-- ---- by the least key

height-small : (r : Rival) → r.tier < 256 → height_of r ≤ 1023
height-small r n = omega (arith, flag_small r.pinned, flag_small r.fits)

key-held : (r : Rival) → r.held ≡ true → rank_key r ≡ 1024 - height_of r
unfolding rank_key
key-held r e = rw e

key-none : (r : Rival) → r.held ≡ false → rank_key r ≡ off_key
unfolding rank_key
key-none r e = rw e

-- who has the key of a height has the height
top-high : (r : Rival) (top : ℕ) → r.tier < 256 → top ≤ 1023 → is_top (1024 - top) r ≡ is_high top r
top-high r top n t =
    let h : height_of r ≤ 1023 = height-small r n in
    on-flag r.held
    (λ e.
    let k : rank_key r ≡ 1024 - height_of r = key-held r e in
    ap (λ (z : ℕ). eqb z (1024 - top)) k
    ∙ on-order (height_of r) top
    (λ o. ne_eqb (1024 - height_of r) (1024 - top) (omega arith) ∙ sym (ne_eqb (height_of r) top (omega arith)))
    (λ o.
    on-order top (height_of r)
    (λ p. ne_eqb (1024 - height_of r) (1024 - top) (omega arith) ∙ sym (ne_eqb (height_of r) top (omega arith)))
    (λ p. eq-eqb (1024 - height_of r) (1024 - top) (omega arith) ∙ sym (eq-eqb (height_of r) top (omega arith))))
    ∙ ap (λ (b : Bool). b && eqb (height_of r) top) (sym e))
    (λ e.
    ap (λ (z : ℕ). eqb z (1024 - top)) (key-none r e)
    ∙ ne_eqb off_key (1024 - top) (omega arith)
    ∙ ap (λ (b : Bool). b && eqb (height_of r) top) (sym e))

module _ (l : List Rival) (t : list_all (λ r. ltb r.tier 256) l ≡ true) {k : ℕ} (s : Least (map rank_key l) k) where
  tier-at : (j : ℕ) → j < length l → (get_or l j no_rival).tier < 256
  tier-at j h = ltb-true (get_or l j no_rival).tier 256 (every-at no_rival (λ (r : Rival). ltb r.tier 256) l j t h)

  long-is : length (map rank_key l) ≡ length l
  long-is = length-map l rank_key

  inside : k < length l
  inside = omega (arith, s.inside, long-is)

  -- where the least key is one, the ranked are those that have it
  pub ranked-top : {top : ℕ} → top ≡ get_or (map rank_key l) k 0 → eqb top off_key ≡ false
      → ranked_of l ≡ filter (is_top top) l
  ranked-top {top} e off =
      let x : Rival = get_or l k no_rival in
      let q : top ≡ rank_key x = e ∙ map_at rank_key no_rival l k inside in
      let held : x.held ≡ true =
      on-flag x.held (λ z. z) (λ z. never (eq-eqb top off_key (q ∙ key-none x z)) off) in
      let small : height_of x ≤ 1023 = height-small x (tier-at k inside) in
      let is : top ≡ 1024 - height_of x = q ∙ key-held x held in
      ranked-high l (height_of x) t
      (record {
        over =
            λ j m z.
            let a : get_or (map rank_key l) k 0 ≤ get_or (map rank_key l) j 0 = s.low j (omega (arith, long-is)) in
            let b : get_or (map rank_key l) j 0 ≡ 1024 - height_of (get_or l j no_rival) =
            map_at rank_key no_rival l j m ∙ key-held (get_or l j no_rival) z in
            let d : height_of (get_or l j no_rival) ≤ 1023 = height-small (get_or l j no_rival) (tier-at j m) in
            omega (arith, e, is);
        there = (k, record { inside = inside; held = held; height = refl });
      })
      ∙ sym
      (keep-same-in (λ (r : Rival). ltb r.tier 256) (is_top top) (is_high (height_of x))
      (λ r n.
      ap (λ (z : ℕ). is_top z r) is ∙ top-high r (height_of x) (ltb-true r.tier 256 n) small)
      l
      t)

  -- where there is none, none is ranked
  pub ranked-none : {top : ℕ} → top ≡ get_or (map rank_key l) k 0 → eqb top off_key ≡ true → ranked_of l ≡ []
  unfolding ranked_of
  ranked-none {top} e off =
      let z : top ≡ off_key = eqb-true top off_key off in
      ap (λ (m : List Rival). only_any (λ (r : Rival). r.fits) (high_of (only_any (λ (r : Rival). r.pinned) m)))
      (keep-none (λ (r : Rival). r.held) l
      (λ j m.
      on-flag (get_or l j no_rival).held
      (λ h.
      let a : get_or (map rank_key l) k 0 ≤ get_or (map rank_key l) j 0 = s.low j (omega (arith, long-is)) in
      let b : get_or (map rank_key l) j 0 ≡ 1024 - height_of (get_or l j no_rival) =
      map_at rank_key no_rival l j m ∙ key-held (get_or l j no_rival) h in
      absurd (omega (arith, e, z)))
      (λ h. h)))
