-- For the code of the choice: each question of document 01's "Choice" as a number for each rival, its key. The rival with
-- the least key, of equals the first, is the answer; who is not asked has the greatest number of 64 bits for key. That
-- these answers make the choice of Choice.antt (crate select) is proved in crate choices.
use Rattle.std.specs.Prelude.{ℕ, ◌+◌, ◌-◌, ◌*◌, Bool, false, not, cond, ◌&&◌, ◌||◌, List, [], ◌∷◌, ltb, leb, eqb}
use Rattle.std.specs.List.{list_all}
use Rattle.base.specs.Seq.{flag_of, position}
use Rattle.base.specs.First.{first_of}
use Rattle.total.specs.Places.{key_of}
use Rattle.select.specs.Media.{speed_of}
use Rattle.select.specs.declared.types.Rival.{Rival}
use Rattle.leads.specs.declared.least.Lead.{Lead}

-- the key of one that is not asked: only a known round trip may come to it too
abbrev pub off_key : ℕ
off_key = 0xffff_ffff_ffff_ffff

-- the key of one that is asked
abbrev pub key_if : Bool → ℕ → ℕ
key_if asked k = cond asked k off_key

-- ---- the questions

-- 6, tried up to the longest round trip that is let through: a known one is longer. No word is beyond 2 ^ 64 - 1
unfoldable pub is_beyond : ℕ → Rival → Bool
is_beyond longest r =
    cond (eqb longest off_key) false ((r.timed && ltb longest r.rtt) || (r.based && ltb longest r.base))

-- "if any is pinned, only pinned; then the highest tier; then the fitting, if any": one number, the highest rank first
abbrev pub rank_of : Rival → ℕ
rank_of r = 1024 - (flag_of r.pinned * 512 + r.tier * 2 + flag_of r.fits)

unfoldable pub rank_key : Rival → ℕ
rank_key r = key_if r.held (rank_of r)

-- of the highest rank
abbrev pub is_top : ℕ → Rival → Bool
is_top top r = eqb (rank_key r) top

-- "least score, then index, by totalOrder"
unfoldable pub score_key : ℕ → Rival → ℕ
score_key top r = key_if (is_top top r && r.scored) (key_of r.score)

-- "known RTT first"
unfoldable pub wait_key : ℕ → Rival → ℕ
wait_key top r = key_if (is_top top r) (flag_of (not r.timed))

-- "then RTT"
unfoldable pub trip_key : ℕ → Rival → ℕ
trip_key top r = key_if (is_top top r && r.timed) r.rtt

-- "by medium"
unfoldable pub speed_key : Rival → ℕ
speed_key r = speed_of r.medium

-- keys of 64 bits
abbrev pub are_words : List ℕ → Bool
are_words ks = list_all (λ k. leb k off_key) ks

-- ---- keys that are left

-- of some keys those beside what passes a test
unfoldable pub left_keys : {A : Type 0} → (A → Bool) → List A → List ℕ → List ℕ
left_keys p [] ks = []
left_keys p (x ∷ l) [] = []
left_keys p (x ∷ l) (k ∷ ks) = key_if (p x) k ∷ left_keys p l ks

-- a score's key is at most a limit
abbrev pub is_near_key : ℕ → ℕ → Bool
is_near_key limit k = leb k limit

-- a medium is of a speed
abbrev pub is_speed : ℕ → ℕ → Bool
is_speed speed s = eqb s speed

-- ---- the least

-- the least of some keys
abbrev pub least_key : List ℕ → ℕ
least_key ks = first_of ltb off_key (λ k. k) ks

-- with the first place that has it
unfoldable pub least_lead : List ℕ → Lead
least_lead ks = record { key = least_key ks; at = position (λ k. eqb k (least_key ks)) ks }
