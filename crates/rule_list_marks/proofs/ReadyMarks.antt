-- Marks of a sheet that is ready: room for them, set and cleared.
use Prim.Native.Nat.{ℕ, zero, suc, ◌+◌, ◌*◌, ◌≤◌, ◌<◌}
use mathlib.Core.Path.{◌≡◌, sym, ap, ◌∙◌}
use mathlib.Core.List.{List, [], ◌∷◌}
use mathlib.Core.Bool.{Bool, true, false, ◌&&◌}
use native.Mathlib.Omega.{arith}
use lib.ListN.{length, get_or, take}
use Rattle.lists.specs.Lists.{concat_map}
use Rattle.blocks.specs.Blocks.{bytes_of}
use Rattle.blocks.specs.Frame.{first_words}
use Rattle.reader.specs.Reader.{got, Reader, pure, word, many, list_of}
use Rattle.reader.specs.Text.{good_text, string}
use Rattle.reader.specs.ReaderLaws.{then_inv, chosen}
use Rattle.open_layout.specs.Opened.{module_in}
use Rattle.open_sheet.specs.declared.Opened.{Opened}
use Rattle.open_sheet.specs.Ready.{Ready}
use Rattle.open_sheet.specs.ReadyLaws.{count_strings, strings_in}
use Rattle.rule_list_members.specs.declared.ListKind.{ListKind}
use Rattle.rule_list_members.specs.Members.{members_hold}
use Rattle.rule_list_marks.specs.Marks.{names_in, names_distinct, valid_members, put_marks, are_new}
use Rattle.rule_list_marks.proofs.MarkLaws.{holds_names, marks_new, marks_cleared, length_put_marks}
use Rattle.rule_list_members.proofs.MemberSteps.{word_inv}

-- ── there are no more strings than words ──

module _ (ws : List ℕ) where
  many_advance : {A : Type 0} (f : Reader A) → ((p : ℕ) (a : A) (q : ℕ) → f ws p ≡ got a q → (p + 1 ≤ q) × (q ≤ length ws)) → (n p : ℕ) (xs : List A) (q : ℕ) → many n f ws p ≡ got xs q → p ≤ length ws →
      ((p + n ≤ q) × (q ≤ length ws)) × (length xs ≡ n)
  unfolding many
  many_advance f adv zero p xs q e h = let x : [] ≡ xs = cc in let y : p ≡ q = cc in ((omega arith, omega arith), ap length (sym x))
  many_advance f adv (suc n) p xs q e h =
      then_inv (f ws p) _ e λ a p₁ e₁ e₂. then_inv (many n f ws p₁) _ e₂ λ ys p₂ e₃ e₄.
      let s = adv p a p₁ e₁ in
      let r = many_advance f adv n p₁ ys p₂ e₃ s.1 in
      let x : a ∷ ys ≡ xs = cc in
      let y : p₂ ≡ q = cc in
      ((omega (arith, r.0.0, s.0), omega (arith, r.0.1)), ap length (sym x) ∙ ap suc r.1)

  word_advance : (p a q : ℕ) → word ws p ≡ got a q → (p + 1 ≤ q) × (q ≤ length ws)
  word_advance p a q e = word_inv ws p e λ h i j. (omega arith, omega arith)

  string_advance : (p : ℕ) (a : List ℕ) (q : ℕ) → string ws p ≡ got a q → (p + 1 ≤ q) × (q ≤ length ws)
  unfolding string
  string_advance p a q e =
      then_inv (word ws p) _ e λ n p₁ e₁ e₂. then_inv (many _ word ws p₁) _ e₂ λ xs p₂ e₃ e₄.
      let s = word_advance p n p₁ e₁ in
      let r = many_advance word word_advance _ p₁ xs p₂ e₃ s.1 in
      chosen ws (good_text n (concat_map (bytes_of 4) xs)) (pure (take n (concat_map (bytes_of 4) xs))) p₂ e₄ λ t e₅.
      let y : p₂ ≡ q = cc in
      (omega (arith, r.0.0, s.0), omega (arith, r.0.1))

  pub strings_few : (at : ℕ) (xs : List (List ℕ)) (q : ℕ) → list_of string ws at ≡ got xs q → length xs ≤ length ws
  unfolding list_of
  strings_few at xs q e =
      then_inv (word ws at) _ e λ n p e₁ e₂.
      let s = word_advance at n p e₁ in
      let r = many_advance string string_advance n p xs q e₂ s.1 in
      omega (arith, r.0.0, r.0.1, r.1)

-- ── marks ──

module _ (b w : List ℕ) (o : Opened) (x : Ready (first_words b o.layout.words) w o) where
  pub marks_room : 3 * o.layout.words + o.counts.strings ≤ length w
  marks_room =
      let l = x.opens.located in
      let f : length (module_in (first_words b o.layout.words)).strings ≤ length (first_words b o.layout.words) =
      strings_few (first_words b o.layout.words) o.layout.strings (module_in (first_words b o.layout.words)).strings o.layout.types l.strings in
      omega (arith, f, l.words, x.room, count_strings (first_words b o.layout.words) o x.opens)

  zeros : (s : ℕ) → s < o.counts.strings → get_or w (3 * o.layout.words + s) 0 ≡ 0
  zeros s h = x.marks s (strings_in (first_words b o.layout.words) w o x s h)

  module _ (k : ListKind) (xs : List (ℕ × ℕ)) (n : names_in k o.counts.strings xs ≡ true) where
    pub distinct_found : {r : Bool} → r ≡ are_new k 1 (3 * o.layout.words) w xs → r ≡ names_distinct k xs
    distinct_found e = e ∙ marks_new k (3 * o.layout.words) o.counts.strings w marks_room zeros xs n

    pub marks_kept : {u v : List ℕ} → u ≡ put_marks k 1 (3 * o.layout.words) w xs → v ≡ put_marks k 0 (3 * o.layout.words) u xs → v ≡ w
    marks_kept e f = f ∙ ap (λ y. put_marks k 0 (3 * o.layout.words) y xs) e ∙ marks_cleared k (3 * o.layout.words) o.counts.strings w marks_room zeros xs n

    pub room_kept : {u : List ℕ} → u ≡ put_marks k 1 (3 * o.layout.words) w xs → 3 * o.layout.words + o.counts.strings ≤ length u
    room_kept e = omega (arith, marks_room, ap length e, length_put_marks k 1 (3 * o.layout.words) w xs)

-- ── both tests ──

module _ (k : ListKind) (n : ℕ) (xs : List (ℕ × ℕ)) {r : Bool} where
  pub valid_not : r ≡ false → r ≡ members_hold k n false xs → false ≡ valid_members k n xs
  unfolding valid_members
  valid_not e h = sym (ap (λ t. t && names_distinct k xs) (sym h ∙ e))

  pub valid_rest : {y : Bool} → r ≡ true → r ≡ members_hold k n false xs → y ≡ names_distinct k xs → y ≡ valid_members k n xs
  unfolding valid_members
  valid_rest e h i = i ∙ sym (ap (λ t. t && names_distinct k xs) (sym h ∙ e))

  pub names_held : r ≡ true → r ≡ members_hold k n false xs → names_in k n xs ≡ true
  names_held e h = holds_names k n false xs (sym h ∙ e)
