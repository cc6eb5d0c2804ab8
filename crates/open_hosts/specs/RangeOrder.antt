-- The order of two strings, by the ranges of words where they stand.
use Rattle.std.specs.Prelude.{ℕ, ◌≤◌, ◌<◌, ◌≡◌, List, [], true, eqb, length, drop}
use Rattle.std.proofs.Common.{sym, ◌∙◌}
use Rattle.std.proofs.Math.Path.{ap, ap₂}
use native.Mathlib.Omega.{arith}
use Rattle.std.proofs.Math.ListN.{take}
use Rattle.std.proofs.Math.Seq.{slice}
use Rattle.lists.specs.Lists.{all_of, concat_map}
use Rattle.lists.specs.ListLaws.{and_first}
use Rattle.blocks.specs.Blocks.{bytes_of}
use Rattle.blocks.specs.ByteLaws.{is_byte}
use Rattle.blocks.specs.Frame.{first_words}
use Rattle.blocks.proofs.FirstWords.{first_words_small}
use Rattle.utf8.specs.Utf8.{well_formed}
use Rattle.std.specs.Prelude.{Some}
use Rattle.reader.specs.Reader.{got, pure, word, many}
use Rattle.reader.specs.ReaderLaws.{then_inv, chosen}
use Rattle.reader.proofs.ReadLaws.{read_inside, stands_slice}
use Rattle.reader.specs.Step.{step_of}
use Rattle.reader.specs.Text.{words_for, good_text, string, encode_string}
use Rattle.reader.specs.TextLaws.{string_codes}
use Rattle.reader.specs.Value.{Whole}
use Rattle.reader.specs.ValueLaws.{whole_inv, value_got}
use Rattle.std.specs.declared.cmp.Ordering.{Ordering}
use Rattle.sorting.specs.Order.{lex}
use Rattle.host.specs.EntryWalk.{ends_at}
use Rattle.host.specs.Listed.{text_at}

-- the order of two strings' words
unfoldable pub text_order : List ℕ → ℕ → List ℕ → ℕ → Ordering
text_order us p vs q = lex (encode_string (text_at us p)) (encode_string (text_at vs q))

-- ── a string ──

pub text_fine : (ws : List ℕ) (p : ℕ) → Whole (string ws p) → well_formed (text_at ws p) ≡ true
text_fine ws p w = whole_inv (string ws p) w λ s q e. ap well_formed (value_got [] e) ∙ go s q e
  where
    good : (k : ℕ) (bs : List ℕ) → good_text k bs ≡ true → well_formed (take k bs) ≡ true
    good k bs t = unfold good_text in and_first (well_formed (take k bs)) (all_of (eqb 0) (drop k bs)) (unfold good_text in t)

    go : (s : List ℕ) (q : ℕ) → string ws p ≡ got s q → well_formed s ≡ true
    go s q e = unfold string in
        then_inv (word ws p) _ (unfold string in e) λ k p₁ e₁ e. then_inv (many (words_for k) word ws p₁) _ e λ xs p₂ e₂ e.
        let bs = concat_map (bytes_of 4) xs in
        chosen ws (good_text k bs) (pure (take k bs)) p₂ e λ t e.
        let x : take k bs ≡ s = cc in
        ap well_formed (sym x) ∙ good k bs t

module _ (b : List ℕ) (n p : ℕ) (w : Whole (string (first_words b n) p)) {e : ℕ} (q : Some e ≡ step_of (string (first_words b n) p)) (small : all_of is_byte b ≡ true) where
  text_range : {C : Type 0} → (p ≤ e → e ≤ length (first_words b n) → slice p e (first_words b n) ≡ encode_string (text_at (first_words b n) p) → C) → C
  text_range f =
      whole_inv (string (first_words b n) p) w λ s r g.
      let ws = first_words b n in
      let c = string_codes ws (first_words_small b n small) in
      let z : e ≡ r = ends_at g q in
      let t = (c.found p s r g).stands in
      let i : r ≤ length ws = read_inside ws string encode_string well_formed c p s r g (long s) in
      f (omega (arith, t.end)) (omega arith) (ap (λ k. slice p k ws) z ∙ stands_slice ws p r (encode_string s) t i ∙ ap encode_string (sym (value_got [] g)))
    where
      long : (s : List ℕ) → 0 < length (encode_string s)
      long s = unfold encode_string in omega arith

module _ (a : List ℕ) (n p : ℕ) (b : List ℕ) (m q : ℕ) {pe qe : ℕ} (w : Whole (string (first_words a n) p)) (u : Whole (string (first_words b m) q))
    (e : Some pe ≡ step_of (string (first_words a n) p)) (f : Some qe ≡ step_of (string (first_words b m) q)) (sa : all_of is_byte a ≡ true) (sb : all_of is_byte b ≡ true) where
  pub texts_room : (p ≤ pe) × (pe ≤ length (first_words a n)) × (q ≤ qe) × (qe ≤ length (first_words b m))
  texts_room = text_range a n p w e sa λ x y z. text_range b m q u f sb λ x₂ y₂ z₂. (x, y, x₂, y₂)

  pub texts_compared : {r : Ordering} → r ≡ lex (slice p pe (first_words a n)) (slice q qe (first_words b m)) → r ≡ text_order (first_words a n) p (first_words b m) q
  unfolding text_order
  texts_compared g = text_range a n p w e sa λ x y z. text_range b m q u f sb λ x₂ y₂ z₂. g ∙ ap₂ lex z z₂
