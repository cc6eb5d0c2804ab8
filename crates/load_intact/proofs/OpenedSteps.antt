-- A sheet that was opened, by its layout.
use Prim.Native.Nat.{ℕ}
use mathlib.Core.Path.{◌≡◌, sym, ap, subst, ◌∙◌}
use mathlib.Core.List.{List}
use Rattle.blocks.specs.Frame.{first_words}
use Rattle.error.specs.Answer.{Loaded}
use Rattle.host.specs.Host.{HostFn}
use Rattle.open_layout.specs.declared.Layout.{Layout}
use Rattle.open_layout.specs.Opened.{module_in}
use Rattle.open_sheet.specs.declared.Opened.{Opened}
use Rattle.open_sheet.specs.Ready.{Ready}
use Rattle.load_intact.specs.Linking.{Fits, answered, table_left}

-- ── a sheet that was opened ──

module _ (b w : List ℕ) (l : Layout) (o : Opened) (x : (o.layout ≡ l) × Ready (first_words b l.words) w o) where
  pub opened_fits : (hs : List HostFn) (table : List ℕ) → Fits hs (module_in (first_words b l.words)) table → Fits hs (module_in (first_words b o.layout.words)) table
  opened_fits hs table f = subst (λ (k : Layout). Fits hs (module_in (first_words b k.words)) table) (sym x.0) f

  pub opened_answer : (hs : List HostFn) {r : Loaded} → r ≡ answered hs (module_in (first_words b o.layout.words)) → r ≡ answered hs (module_in (first_words b l.words))
  opened_answer hs e = e ∙ ap (λ (k : Layout). answered hs (module_in (first_words b k.words))) x.0

  pub opened_table : (hs : List HostFn) (table : List ℕ) {t : List ℕ} → t ≡ table_left hs (module_in (first_words b o.layout.words)) table → t ≡ table_left hs (module_in (first_words b l.words)) table
  opened_table hs table e = e ∙ ap (λ (k : Layout). table_left hs (module_in (first_words b k.words)) table) x.0
