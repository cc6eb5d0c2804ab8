-- A sheet that was opened, by its layout; work that was filled with zeros.
use Rattle.std.specs.Prelude.{ℕ, ◌+◌, ◌≤◌, ◌<◌, ◌≡◌, List, length, get_or, replicate}
use Rattle.std.proofs.Common.{sym, ap, subst, ◌∙◌, arith, ext_get_or}
use Rattle.std.proofs.lemmas.List.{length-replicate, get_or-replicate}
use Rattle.blocks.specs.Frame.{first_words}
use Rattle.open_layout.specs.declared.Layout.{Layout}
use Rattle.region.specs.Region.{word_at, Off, Frame}
use Rattle.open_sheet.specs.declared.Opened.{Opened}
use Rattle.open_sheet.specs.Ready.{Ready}

-- as many zeros
unfoldable pub Zeroed : List ℕ → List ℕ → Type 0
Zeroed w v = v ≡ replicate (length w) 0

module _ (b w : List ℕ) (l : Layout) (o : Opened) (x : (o.layout ≡ l) × Ready (first_words b l.words) w o) where
  pub opened_ready : Ready (first_words b o.layout.words) w o
  opened_ready = subst (λ (k : Layout). Ready (first_words b k.words) w o) (sym x.0) x.1

  pub opened_few : l.words ≤ 520192 → o.layout.words ≤ 520192
  opened_few h = subst (λ (k : Layout). k.words ≤ 520192) (sym x.0) h

-- what was filled from the first word to the last
pub filled_zero : (u w v : List ℕ) (n : ℕ) → Frame (Off 0 (0 + n)) w v → ((p : ℕ) → p < n → word_at v 0 p ≡ 0) → length w ≡ length u → n ≡ length w → Zeroed u v
unfolding Zeroed
filled_zero u w v n f g a b =
    ext_get_or 0 v (replicate (length u) 0) (omega (arith, f.len, length-replicate {A = ℕ} (length u) 0)) λ i h.
    let z : i ≡ 0 + i = omega arith in
    ap (λ k. get_or v k 0) z ∙ g i (omega (arith, f.len)) ∙ sym (get_or-replicate (length u) i 0 0 (omega (arith, f.len)))
