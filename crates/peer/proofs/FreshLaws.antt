-- The encoder's words of a new record say it.
-- Assumes nothing.
use Prim.Native.Nat.{ℕ}
use mathlib.Core.Path.{◌≡◌, ap, sym, subst, ◌∙◌}
use mathlib.Core.Bool.{true, cond}
use mathlib.Core.List.{List}
use lib.ListN.{replicate}
use Rattle.rules.specs.Step.{allowed, fresh_record}
use Rattle.rules.specs.declared.types.Settings.{Settings}
use Rattle.cells.specs.Cells.{settings_in}
use Rattle.cells.specs.Code.{settings_row}
use Rattle.cells.proofs.RowLaws.{settings-says}
use Rattle.rows.specs.Encode.{slot_rows}
use Rattle.rows.proofs.NewLaws.{empty-says}
use Rattle.peer.specs.Record.{record_in, record_rows, AreCoded}

-- eight empty slots
pub fresh-says : (t : List ℕ) → record_in t (record_rows (fresh_record (settings_in t))) ≡ fresh_record (settings_in t)
fresh-says t = λ k. record { settings = settings_in t; slots = replicate 8 (empty-says k) }

pub fresh-coded : (t : List ℕ) → AreCoded (record_rows (fresh_record (settings_in t)))
fresh-coded t = λ k. replicate 8 (slot_rows (empty-says k))

-- what a call of `new` with allowed settings leaves of the words t₀ and a₀
module _ (s : Settings) {t : List ℕ} (t₀ : List ℕ) {a : List (List (List ℕ))} (a₀ : List (List (List ℕ)))
    (y : allowed s ≡ true) (p : t ≡ cond (allowed s) (settings_row s) t₀)
    (q : a ≡ cond (allowed s) (record_rows (fresh_record s)) a₀) where
  pub made_row : t ≡ settings_row s
  made_row = p ∙ (λ j. cond (y j) (settings_row s) t₀)

  pub made-rows : a ≡ record_rows (fresh_record s)
  made-rows = q ∙ (λ j. cond (y j) (record_rows (fresh_record s)) a₀)

  settings-in : settings_in t ≡ s
  settings-in = ap settings_in made_row ∙ settings-says s

  -- they say the new record
  pub fresh_in : record_in t a ≡ fresh_record s
  fresh_in =
      (λ j. record_in t (made-rows j)) ∙ (λ j. record_in t (record_rows (fresh_record (sym settings-in j)))) ∙ fresh-says t
      ∙ ap fresh_record settings-in

  -- and are the encoder's
  pub made-coded : AreCoded a
  made-coded =
      subst AreCoded (sym made-rows) (subst AreCoded (λ j. record_rows (fresh_record (settings-in j))) (fresh-coded t))
