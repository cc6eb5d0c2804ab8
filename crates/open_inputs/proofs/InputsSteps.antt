-- One law for each return of the tests before any rule.
use Rattle.std.specs.Prelude.{◌≡◌, refl, ℕ, Bool, true, cond, Option, None, Some, Result, Err, Ok, ok_or}
use Rattle.std.proofs.Math.Bool.{false}
use Rattle.std.proofs.Common.{sym, ap, ◌∙◌}
use Rattle.error.specs.declared.LoadErrorKind.{LoadErrorKind}
use Rattle.error.specs.declared.LoadErrorKind.TheVariants.{Decode, BadHostList, ShortSlice}
use Rattle.open_layout.specs.declared.Layout.{Layout}
use Rattle.load.specs.Load.{enough}
use Rattle.open_inputs.specs.Inputs.{with_hosts, inputs_of}

module _ (c : Option Layout) (h : Option ℕ) (table work : ℕ) {r : Option Layout} (k : r ≡ c) where
  decode : r ≡ None → Err Decode ≡ inputs_of c h table work
  unfolding inputs_of
  decode e = ap (λ (x : Option Layout). inputs_of x h table work) (sym e ∙ k)

  pub no_sheet : {x : Result Layout LoadErrorKind} {b : LoadErrorKind} → x ≡ Err b → x ≡ ok_or r Decode → Err b ≡ inputs_of c h table work
  no_sheet {x} {b} e f = go r refl f
    where
      go : (t : Option Layout) → r ≡ t → x ≡ ok_or t Decode → Err b ≡ inputs_of c h table work
      go None u f = let z : b ≡ Decode = cc in ap Err z ∙ decode u
      go (Some l) u f = cc

  module _ {l : Layout} (e : r ≡ Some l) {s : Option ℕ} (j : s ≡ h) where
    laid : {x : Option ℕ} → s ≡ x → inputs_of c h table work ≡ with_hosts l x table work
    unfolding inputs_of
    laid f = ap (λ (x : Option Layout). inputs_of x h table work) (sym k ∙ e) ∙ ap (λ (x : Option ℕ). with_hosts l x table work) (sym j ∙ f)

    listless : s ≡ None → Err BadHostList ≡ inputs_of c h table work
    unfolding with_hosts
    listless f = sym (laid f)

    pub no_list : {x : Result ℕ LoadErrorKind} {b : LoadErrorKind} → x ≡ Err b → x ≡ ok_or s BadHostList → Err b ≡ inputs_of c h table work
    no_list {x} {b} f g = go s refl g
      where
        go : (t : Option ℕ) → s ≡ t → x ≡ ok_or t BadHostList → Err b ≡ inputs_of c h table work
        go None u g = let z : b ≡ BadHostList = cc in ap Err z ∙ listless u
        go (Some n) u g = cc

    module _ {n : ℕ} (f : s ≡ Some n) {t : Bool} (d : t ≡ enough l.words table work) where
      both : {b : Bool} → t ≡ b → inputs_of c h table work ≡ cond b (Ok (l, n)) (Err ShortSlice)
      unfolding with_hosts
      both g = laid f ∙ ap (λ (x : Bool). cond x (Ok (l, n)) (Err ShortSlice)) (sym d ∙ g)

      pub long : t ≡ true → Ok (l, n) ≡ inputs_of c h table work
      long g = sym (both g)

      pub short : t ≡ false → Err ShortSlice ≡ inputs_of c h table work
      short g = sym (both g)

pub ruleset inputting = (no_sheet, no_list, long, short)
