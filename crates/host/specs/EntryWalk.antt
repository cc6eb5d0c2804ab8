-- For the code that walks entries which were read before.
use Rattle.std.specs.Prelude.{ℕ, ◌+◌, ◌<◌, ◌≡◌, refl, List, [], eqb, ltb, get_or}
use Rattle.std.proofs.Math.Path.{sym, ap}
use Rattle.std.proofs.Common.{ap₂, ◌∙◌, arith}
use Rattle.blocks.specs.Blocks.{words}
use Rattle.blocks.specs.Frame.{first_words}
use Rattle.blocks.proofs.FirstWords.{length_first_words, first_words_at}
use Rattle.std.specs.Prelude.{Some}
use Rattle.reader.specs.Reader.{Got, got, pure, word, code_below}
use Rattle.reader.specs.Text.{string}
use Rattle.reader.specs.ReaderLaws.{then_inv, chosen}
use Rattle.reader.specs.Step.{step_of}
use Rattle.reader.specs.StepLaws.{arrived}
use Rattle.reader.specs.Value.{Whole}
use Rattle.reader.specs.ValueLaws.{whole_inv, got_whole, value_got}
use Rattle.host.specs.Host.{HostFn, host_fn, nobody}
use Rattle.host.specs.Listed.{text_at}
use Rattle.host.specs.Seek.{entry_at}
use Rattle.host.specs.Texts.{word_inv}

-- ── an entry ──

-- its strings from at and p on, its kind at q
pub record Entered (ws : List ℕ) (at : ℕ) (h : HostFn) (p q e : ℕ) : Type 0 where
  pub owner : string ws at ≡ got h.module_name p
  pub title : string ws p ≡ got h.name q
  pub kind_at : word ws q ≡ got h.kind e
  pub all : host_fn ws at ≡ got h e

code_inv : (ws : List ℕ) (n p : ℕ) {k q : ℕ} → code_below n ws p ≡ got k q → word ws p ≡ got k q
unfolding code_below
code_inv ws n p e = then_inv (word ws p) _ e λ w p₁ e₁ e. chosen ws (ltb w n) (pure w) p₁ e λ t e. e₁ ∙ e

pub entered : {C : Type 0} (ws : List ℕ) (at : ℕ) → Whole (host_fn ws at) → ((h : HostFn) (p q e : ℕ) → Entered ws at h p q e → C) → C
unfolding host_fn
entered ws at w f =
    whole_inv (host_fn ws at) w λ h e g.
    then_inv (string ws at) _ g λ a p e₁ g₁. then_inv (string ws p) _ g₁ λ b q e₂ g₂. then_inv (code_below 2 ws q) _ g₂ λ k r e₃ g₃.
    let x : record { module_name = a; name = b; kind = k } ≡ h = cc in
    let y : r ≡ e = cc in
    f h p q e
    (record {
      owner = e₁ ∙ ap (λ (z : HostFn). got z.module_name p) x;
      title = e₂ ∙ ap (λ (z : HostFn). got z.name q) x;
      kind_at = code_inv ws 2 q e₃ ∙ ap₂ (λ (z : HostFn) i. got z.kind i) x y;
      all = g;
    })

-- where a value ends
pub ends_at : {A : Type 0} {g : Got A} {a : A} {p q : ℕ} → g ≡ got a p → Some q ≡ step_of g → q ≡ p
ends_at {g = g} e h = arrived g refl h λ b f. let x : got b _ ≡ got _ _ = sym f ∙ e in cc

module _ (ws : List ℕ) (at : ℕ) (w : Whole (host_fn ws at)) where
  pub entry_module : Whole (string ws at)
  entry_module = entered ws at w λ h p q e t. got_whole t.owner

  module _ {p : ℕ} (m : Some p ≡ step_of (string ws at)) where
    pub entry_name : Whole (string ws p)
    entry_name = entered ws at w λ h p₁ q e t. got_whole (ap (string ws) (ends_at t.owner m) ∙ t.title)

    pub entry_kind : {q : ℕ} → Some q ≡ step_of (string ws p) → Some (q + 1) ≡ step_of (host_fn ws at)
    unfolding step_of
    entry_kind {q} n =
        entered ws at w λ h p₁ q₁ e t.
        let x : p ≡ p₁ = ends_at t.owner m in
        let y : q ≡ q₁ = ends_at t.title (n ∙ ap (λ i. step_of (string ws i)) x) in
        let i = word_inv ws q₁ t.kind_at in
        let z : q + 1 ≡ e = omega (arith, i.2) in
        ap Some z ∙ sym (ap step_of t.all)

    pub entry_texts : {C : Type 0} → (text_at ws at ≡ (entry_at ws at).module_name → text_at ws p ≡ (entry_at ws at).name → C) → C
    entry_texts f =
        entered ws at w λ h p₁ q e t.
        let x : entry_at ws at ≡ h = value_got nobody t.all in
        f
        (value_got [] t.owner ∙ sym (ap (λ (i : HostFn). i.module_name) x))
        (value_got [] (ap (string ws) (ends_at t.owner m) ∙ t.title) ∙ sym (ap (λ (i : HostFn). i.name) x))

pub ruleset walking = (entry_module, entry_name, entry_kind)

-- ── the kind ──

module _ (b : List ℕ) (n at q : ℕ) (m : Some (q + 1) ≡ step_of (host_fn (first_words b n) at)) where
  kind_read : {C : Type 0} → ((h : HostFn) → host_fn (first_words b n) at ≡ got h (q + 1) → q < n → get_or (words b) q 0 ≡ h.kind → C) → C
  kind_read f =
      arrived (host_fn (first_words b n) at) refl m λ a g. entered (first_words b n) at (got_whole g) λ h p q₁ e t.
      let i = word_inv (first_words b n) q₁ t.kind_at in
      let x : q + 1 ≡ e = ends_at t.all m in
      let y : q₁ ≡ q = omega (arith, i.2) in
      let l : q < n = omega (arith, i.0, length_first_words b n) in
      f h (t.all ∙ ap (got h) (sym x)) l (sym (first_words_at b n q l) ∙ ap (λ k. get_or (first_words b n) k 0) (sym y) ∙ sym i.1)

  pub kind_within : q < n
  kind_within = kind_read λ h g l k. l

  pub kind_word_lem : {w : ℕ} → w ≡ get_or (words b) q 0 → eqb w 1 ≡ eqb (entry_at (first_words b n) at).kind 1
  kind_word_lem e = kind_read λ h g l k. ap (λ x. eqb x 1) (e ∙ k ∙ sym (ap (λ (i : HostFn). i.kind) (value_got nobody g)))
