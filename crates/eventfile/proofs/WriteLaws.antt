-- The writer's bytes are read back: one record with any bytes before it and behind it, and a whole file of records.
-- Assumes nothing.
use Prim.Native.Nat.{ℕ, ◌+◌, ◌≤◌}
use mathlib.Core.Path.{◌≡◌, refl, sym, ap, ◌∙◌}
use mathlib.Core.Bool.{Bool, true, false, cond}
use mathlib.Core.List.{List, [], ◌∷◌, ◌++◌, map, append_assoc}
use native.Mathlib.Omega.{arith}
use lib.ListN.{length, length-append}
use lib.Seq.{drop-append_seam}
use Rattle.octets.specs.Octets.{le, flat, words_of, read_at}
use Rattle.octets.proofs.Read.{read_back}
use Rattle.octets.proofs.Fill.{le-length, flat-length}
use Rattle.rules.specs.declared.types.Event.{Event}
use Rattle.rules.specs.declared.types.Settings.{Settings}
use Rattle.eventfile.specs.File.{stands, bytes, span_at, id_at, len_at, acked_at, flags_at, record_size, field, event_of}
use Rattle.eventfile.specs.File.{settings_of, front_of, from, parse_of, events_from, events_of, Whole, end_from, ending_of}
use Rattle.eventfile.specs.Writer.{field_bytes, record_bytes, Held, Writable, file_bytes, AllWritable, AllFit}
use Rattle.eventfile.specs.Writer.{RecordsReadBack, FilesReadBack}
use Rattle.eventfile.specs.declared.types.Parse.TheVariants as parse
use Rattle.eventfile.proofs.FrontLaws.{front-some, by-event}
use Rattle.eventfile.proofs.ReadLaws.{parse-end}
use Rattle.eventfile.proofs.FileLaws.{events-end, end-end, events-event, end-event}

-- ---- one field

field-length : (bit w map x : ℕ) → length (field_bytes bit w map x) ≡ bytes bit w map
field-length bit w map x = go (stands bit map)
  where
    go : (on : Bool) → length (cond on (le w x) []) ≡ cond on w 0
    go true = le-length w x
    go false = refl

field_back : (bit w map x at : ℕ) (p t : List ℕ) {b : List ℕ} → b ≡ p ++ (field_bytes bit w map x ++ t) → length p ≡ at
    → w ≤ 8 → Held bit w map x → field bit w map at b ≡ x
field_back bit w map x at p t {b} q e k h = (λ i. field bit w map at (q i)) ∙ go (stands bit map) h.1
  where
    go : (on : Bool) → (on ≡ false → x ≡ 0) → cond on (read_at at w (p ++ (cond on (le w x) [] ++ t))) 0 ≡ x
    go true z = read_back at w x p t e k h.0
    go false z = sym (z refl)

-- ---- one record

-- bytes with one part more before them
next : {b : List ℕ} (p s q : List ℕ) → b ≡ p ++ (s ++ q) → b ≡ (p ++ s) ++ q
next p s q e = e ∙ sym (append_assoc p s q)

grown : (p s : List ℕ) {n w : ℕ} → length p ≡ n → length s ≡ w → length (p ++ s) ≡ n + w
grown p s e g = length-append p s ∙ (λ i. e i + g i)

six : (a b c d e f t : List ℕ)
    → (a ++ (b ++ (c ++ (d ++ (e ++ f))))) ++ t ≡ a ++ (b ++ (c ++ (d ++ (e ++ (f ++ t)))))
six a b c d e f t =
    append_assoc a (b ++ (c ++ (d ++ (e ++ f)))) t
    ∙ ap (λ (z : List ℕ). a ++ z)
    (append_assoc b (c ++ (d ++ (e ++ f))) t
    ∙ ap (λ (z : List ℕ). b ++ z)
    (append_assoc c (d ++ (e ++ f)) t
    ∙ ap (λ (z : List ℕ). c ++ z) (append_assoc d (e ++ f) t ∙ ap (λ (z : List ℕ). d ++ z) (append_assoc e f t))))

pub record-length : (map : ℕ) (e : Event) → length (record_bytes map e) ≡ record_size map
unfolding record_bytes
record-length map e =
    let s₀ = field_bytes 0 8 map e.now in
    let s₁ = field_bytes 1 8 map e.span in
    let s₂ = field_bytes 2 4 map e.id in
    let s₃ = field_bytes 3 2 map e.len in
    let s₄ = field_bytes 4 2 map e.acked in
    let s₅ = field_bytes 5 1 map e.flags in
    let n = length-append s₀ (s₁ ++ (s₂ ++ (s₃ ++ (s₄ ++ s₅)))) in
    let n₁ = length-append s₁ (s₂ ++ (s₃ ++ (s₄ ++ s₅))) in
    let n₂ = length-append s₂ (s₃ ++ (s₄ ++ s₅)) in
    let n₃ = length-append s₃ (s₄ ++ s₅) in
    let n₄ = length-append s₄ s₅ in
    let w₀ = field-length 0 8 map e.now in
    let w₁ = field-length 1 8 map e.span in
    let w₂ = field-length 2 4 map e.id in
    let w₃ = field-length 3 2 map e.len in
    let w₄ = field-length 4 2 map e.acked in
    let w₅ = field-length 5 1 map e.flags in
    omega (arith, n, n₁, n₂, n₃, n₄, w₀, w₁, w₂, w₃, w₄, w₅)

event-back : (map : ℕ) (e : Event) (t : List ℕ) → Writable map e → event_of map e.kind (record_bytes map e ++ t) ≡ e
unfolding record_bytes
event-back map e t w =
    let s₀ = field_bytes 0 8 map e.now in
    let s₁ = field_bytes 1 8 map e.span in
    let s₂ = field_bytes 2 4 map e.id in
    let s₃ = field_bytes 3 2 map e.len in
    let s₄ = field_bytes 4 2 map e.acked in
    let s₅ = field_bytes 5 1 map e.flags in
    let q₄ = s₅ ++ t in
    let q₃ = s₄ ++ q₄ in
    let q₂ = s₃ ++ q₃ in
    let q₁ = s₂ ++ q₂ in
    let q₀ = s₁ ++ q₁ in
    let p₀ = map ∷ e.kind ∷ e.slot ∷ [] in
    let p₁ = p₀ ++ s₀ in
    let p₂ = p₁ ++ s₁ in
    let p₃ = p₂ ++ s₂ in
    let p₄ = p₃ ++ s₃ in
    let p₅ = p₄ ++ s₄ in
    let b = record_bytes map e ++ t in
    let b₀ : b ≡ p₀ ++ (s₀ ++ q₀) = λ i. map ∷ e.kind ∷ e.slot ∷ six s₀ s₁ s₂ s₃ s₄ s₅ t i in
    let b₁ : b ≡ p₁ ++ (s₁ ++ q₁) = next p₀ s₀ q₀ b₀ in
    let b₂ : b ≡ p₂ ++ (s₂ ++ q₂) = next p₁ s₁ q₁ b₀ in
    let b₃ : b ≡ p₃ ++ (s₃ ++ q₃) = next p₂ s₂ q₂ b₂ in
    let b₄ : b ≡ p₄ ++ (s₄ ++ q₄) = next p₃ s₃ q₃ b₃ in
    let b₅ : b ≡ p₅ ++ (s₅ ++ t) = next p₄ s₄ q₄ b₄ in
    let n₁ = grown p₀ s₀ refl (field-length 0 8 map e.now) in
    let n₂ = grown p₁ s₁ n₁ (field-length 1 8 map e.span) in
    let n₃ = grown p₂ s₂ n₂ (field-length 2 4 map e.id) in
    let n₄ = grown p₃ s₃ n₃ (field-length 3 2 map e.len) in
    let n₅ = grown p₄ s₄ n₄ (field-length 4 2 map e.acked) in
    let f₀ = field_back 0 8 map e.now 3 p₀ q₀ b₀ refl (omega arith) w.now in
    let f₁ = field_back 1 8 map e.span (span_at map) p₁ q₁ b₁ n₁ (omega arith) w.span in
    let f₂ = field_back 2 4 map e.id (id_at map) p₂ q₂ b₂ n₂ (omega arith) w.id in
    let f₃ = field_back 3 2 map e.len (len_at map) p₃ q₃ b₃ n₃ (omega arith) w.len in
    let f₄ = field_back 4 2 map e.acked (acked_at map) p₄ q₄ b₄ n₄ (omega arith) w.acked in
    let f₅ = field_back 5 1 map e.flags (flags_at map) p₅ t b₅ n₅ (omega arith) w.flags in
    λ i. record {
      now = f₀ i;
      span = f₁ i;
      id = f₂ i;
      len = f₃ i;
      acked = f₄ i;
      kind = e.kind;
      slot = e.slot;
      flags = f₅ i;
    }

front-back : (map : ℕ) (e : Event) (t : List ℕ) → Writable map e
    → front_of (record_bytes map e ++ t) ≡ parse.Event e (record_size map)
unfolding record_bytes
front-back map e t w =
    let b = record_bytes map e ++ t in
    let n : length b ≡ record_size map + length t =
    length-append (record_bytes map e) t ∙ (λ i. record-length map e i + length t) in
    sym (front-some b (omega (arith, n)))
    ∙ sym (by-event map e.kind b (omega (arith, n)) w.kind w.bits)
    ∙ (λ i. parse.Event (event-back map e t w i) (record_size map))

-- the record of an event is read back, with any bytes before it and behind it
pub read-written : RecordsReadBack
unfolding parse_of
read-written map e p t w =
    λ i. from (length p) ((ap front_of (drop-append_seam p (record_bytes map e ++ t)) ∙ front-back map e t w) i)

-- ---- a whole file

-- behind any bytes, whatever the fuel where it is enough
records-back : (f : ℕ) (p : List ℕ) (rs : List (ℕ × Event)) → AllWritable rs
    → length (p ++ flat (λ r. record_bytes r.0 r.1) rs) ≤ length p + f
    → (events_from f (p ++ flat (λ r. record_bytes r.0 r.1) rs) (length p) ≡ map (λ r. r.1) rs)
    × (end_from f (p ++ flat (λ r. record_bytes r.0 r.1) rs) (length p) ≡ Whole)
unfolding flat
records-back f p [] w h =
    let e = sym (parse-end (p ++ []) (length p) (omega (arith, length-append p []))) in
    (events-end f (p ++ []) (length p) h e, end-end f (p ++ []) (length p) h e)
records-back f p (r ∷ rs) w h =
    let b = record_bytes r.0 r.1 in
    let t = flat (λ r. record_bytes r.0 r.1) rs in
    let l = p ++ (b ++ t) in
    let e = read-written r.0 r.1 p t w.0 in
    let a : (p ++ b) ++ t ≡ l = append_assoc p b t in
    let n : length (p ++ b) ≡ length p + record_size r.0 =
    length-append p b ∙ (λ i. length p + record-length r.0 r.1 i) in
    let k = records-back f (p ++ b) rs w.1 (omega (arith, h, n, ap (λ (z : List ℕ). length z) a)) in (
      events-event f l (length p) h e ∙ (λ i. r.1 ∷ ((λ j. events_from f (sym a j) (sym n j)) ∙ k.0) i),
      end-event f l (length p) h e ∙ (λ j. end_from f (sym a j) (sym n j)) ∙ k.1,
    )

four : (a b c d t : List ℕ) → (a ++ (b ++ (c ++ (d ++ [])))) ++ t ≡ a ++ (b ++ (c ++ (d ++ t)))
four a b c d t =
    append_assoc a (b ++ (c ++ (d ++ []))) t
    ∙ ap (λ (z : List ℕ). a ++ z)
    (append_assoc b (c ++ (d ++ [])) t
    ∙ ap (λ (z : List ℕ). b ++ z) (append_assoc c (d ++ []) t ∙ ap (λ (z : List ℕ). c ++ z) (append_assoc d [] t)))

settings-back : (t : Settings) (l : List ℕ) → AllFit t
    → settings_of (words_of (t.cap ∷ t.gap ∷ t.window ∷ t.horizon ∷ []) ++ l) ≡ t
unfolding flat
settings-back t l h =
    let s₀ = le 8 t.cap in
    let s₁ = le 8 t.gap in
    let s₂ = le 8 t.window in
    let s₃ = le 8 t.horizon in
    let p₂ = s₀ ++ s₁ in
    let p₃ = p₂ ++ s₂ in
    let b₀ = four s₀ s₁ s₂ s₃ l in
    let b₂ = next s₀ s₁ (s₂ ++ (s₃ ++ l)) b₀ in
    let b₃ = next p₂ s₂ (s₃ ++ l) b₂ in
    let n₁ = le-length 8 t.cap in
    let n₂ = grown s₀ s₁ n₁ (le-length 8 t.gap) in
    let n₃ = grown p₂ s₂ n₂ (le-length 8 t.window) in
    let f₀ = (λ i. read_at 0 8 (b₀ i)) ∙ read_back 0 8 t.cap [] (s₁ ++ (s₂ ++ (s₃ ++ l))) refl (omega arith) h.0 in
    let f₁ = (λ i. read_at 8 8 (b₀ i)) ∙ read_back 8 8 t.gap s₀ (s₂ ++ (s₃ ++ l)) n₁ (omega arith) h.1 in
    let f₂ = (λ i. read_at 16 8 (b₂ i)) ∙ read_back 16 8 t.window p₂ (s₃ ++ l) n₂ (omega arith) h.2 in
    let f₃ = (λ i. read_at 24 8 (b₃ i)) ∙ read_back 24 8 t.horizon p₃ l n₃ (omega arith) h.3 in
    λ i. record { cap = f₀ i; gap = f₁ i; window = f₂ i; horizon = f₃ i }

-- a file that was written is read back: its settings, its events, and its end after a whole record
pub file-back : FilesReadBack
unfolding file_bytes events_of ending_of
file-back t rs h w =
    let p = words_of (t.cap ∷ t.gap ∷ t.window ∷ t.horizon ∷ []) in
    let b = flat (λ r. record_bytes r.0 r.1) rs in
    let n : length p ≡ 32 = flat-length (le 8) 8 (le-length 8) (t.cap ∷ t.gap ∷ t.window ∷ t.horizon ∷ []) in
    let k = records-back (length (p ++ b)) p rs w (omega arith) in (
      settings-back t b h,
      (λ i. events_from (length (p ++ b)) (p ++ b) (sym n i)) ∙ k.0,
      (λ i. end_from (length (p ++ b)) (p ++ b) (sym n i)) ∙ k.1,
    )
