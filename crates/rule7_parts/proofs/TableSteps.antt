-- Switch tables: targets one after the other, the default as the last of them.
use Prim.Native.Nat.{ℕ, zero, suc, ◌+◌, ◌-◌, ◌≤◌, ◌<◌}
use mathlib.Core.Path.{◌≡◌, refl, sym, ap, ap₂, ◌∙◌}
use mathlib.Core.List.{List, [], ◌∷◌, ◌++◌}
use native.Mathlib.Omega.{arith}
use native.Mathlib.Numerals.{add-one}
use lib.ListN.{length, get_or}
use Rattle.lists.specs.Lists.{concat_map}
use Rattle.blocks.specs.Blocks.{words}
use Rattle.blocks.specs.Frame.{first_words}
use Rattle.blocks.proofs.FirstWords.{length_first_words}
use Rattle.error.specs.declared.What.TheVariants.{TableTargets}
use Rattle.error.specs.declared.LoadErrorKind.{LoadErrorKind}
use Rattle.error.specs.Verdict.{Verdict}
use Rattle.std.specs.Prelude.{Err, Ok}
use Rattle.error.specs.Answer.{in_range}
use Rattle.error.specs.Verdict.{verdict_of}
use Rattle.error.specs.VerdictLaws.{verdict_then, verdict_stop}
use Rattle.reader.specs.Reader.{got, Reader, and_then, word, many, list_of}
use Rattle.std.proofs.Common.{subst, append_assoc, append-nil}
use Rattle.reader.specs.ReaderLaws.{free, one_word, word_codes, then_inv}
use Rattle.reader.specs.Value.{Whole, value_of}
use Rattle.reader.specs.ValueLaws.{whole_inv, got_whole, value_got, list_within}
use Rattle.reader.proofs.SizeLaws.{first_held, list_count, word_takes, many_inside, many_takes, list_read}
use Rattle.sheet.specs.Module.{Switch, Func}
use Rattle.sheet.specs.Decode.{switch_of}
use Rattle.code.specs.Code.{table_faults}
use Rattle.law_judging.specs.Each.{each_faults}
use Rattle.law_judging.proofs.EachLaws.{many_judged}
use Rattle.law_judging.specs.Judging.{Judges, list_faults, judges_start, judges_end, judges_whole, judges_next, judges_stop}
use Rattle.rule_frames.specs.declared.Frame.{Frame}
use Rattle.rule_frames.specs.Frames.{func_of, Framed}
use Rattle.rule7_parts.specs.CodeParts.{no_switch, tables_faults}

-- ── one table ──

-- some values and one more after them
many_more : {A : Type 0} (f : Reader A) (ws : List ℕ) (k p : ℕ) (xs : List A) (q : ℕ) (d : A) (r : ℕ) → many k f ws p ≡ got xs q → f ws q ≡ got d r → many (suc k) f ws p ≡ got (xs ++ (d ∷ [])) r
unfolding many
many_more f ws zero p xs q d r e g =
    let x : [] ≡ xs = cc in
    let y : p ≡ q = cc in
    ap (λ z. and_then z (λ a q. got (a ∷ []) q)) (ap (f ws) y ∙ g) ∙ ap (λ l. got (l ++ (d ∷ [])) r) x
many_more {A} f ws (suc k) p xs q d r e g =
    then_inv (f ws p) _ e λ a p₁ e₁ e₂. then_inv (many k f ws p₁) _ e₂ λ ys p₂ e₃ e₄.
    let x : a ∷ ys ≡ xs = cc in
    let y : p₂ ≡ q = cc in
    ap (λ z. and_then z (λ a q. and_then (many (suc k) f ws q) (λ xs r. got (a ∷ xs) r))) e₁
    ∙ ap (λ z. and_then z (λ xs r. got (a ∷ xs) r)) (many_more f ws k p₁ ys q d r (e₃ ∙ ap (got ys) y) g)
    ∙ ap (λ l. got (l ++ (d ∷ [])) r) x

-- targets and default are so many words and one more
module _ (b : List ℕ) (n at : ℕ) {k : ℕ} (h : Whole (switch_of (first_words b n) at)) (e : k ≡ get_or (words b) at 0) where
  switch_inv : {C : Type 0} → ((s : Switch) (q : ℕ) → switch_of (first_words b n) at ≡ got s q → many (k + 1) word (first_words b n) (at + 1) ≡ got (s.targets ++ (s.default ∷ [])) q → C) → C
  unfolding switch_of
  switch_inv f = whole_inv (switch_of (first_words b n) at) h λ s q g.
      then_inv (list_of word (first_words b n) at) _ g λ ts p₁ e₁ e₂. then_inv (word (first_words b n) p₁) _ e₂ λ d p₂ e₃ e₄.
      let x : record { targets = ts; default = d } ≡ s = cc in
      let y : p₂ ≡ q = cc in
      let m : many k word (first_words b n) (at + 1) ≡ got ts p₁ = list_read word b n at ts p₁ e₁ e in
      f s q g
      (ap (λ c. many c word (first_words b n) (at + 1)) (add-one k)
      ∙ many_more word (first_words b n) k (at + 1) ts p₁ d q m (e₃ ∙ ap (got d) y)
      ∙ ap (λ (z : Switch). got (z.targets ++ (z.default ∷ [])) q) x)

  pub switch_fit : at + 2 + k ≤ n
  switch_fit = switch_inv λ s q g m.
      omega (arith, many_inside word 1 word_takes (first_words b n) (k + 1) (at + 1) (got_whole m), length_first_words b n)

  pub switch_ends : (s : Switch) (q : ℕ) → switch_of (first_words b n) at ≡ got s q → q ≡ at + (2 + k)
  switch_ends s q g = switch_inv λ t r g₂ m.
      let z : got s q ≡ got t r = sym g ∙ g₂ in
      let y : q ≡ r = cc in
      omega (arith, many_takes word 1 word_takes (first_words b n) (k + 1) (at + 1) (t.targets ++ (t.default ∷ [])) r m)

pub switch_within : (b : List ℕ) (n at : ℕ) → Whole (switch_of (first_words b n) at) → at + 1 < n
switch_within b n at h = omega (arith, switch_fit b n at h refl)

-- a target, judged by the count that the frame has
pub target_judged : (b : List ℕ) (n : ℕ) (c : Frame) (at : ℕ) {w : ℕ} {r : Verdict} → Framed (first_words b n) c → w ≡ get_or (words b) at 0 → r ≡ verdict_of (in_range TableTargets c.code w) →
    r ≡ verdict_of (in_range TableTargets (length (func_of (first_words b n) c).code) (get_or (words b) at 0))
target_judged b n c at x e k = k ∙ ap₂ (λ m w. verdict_of (in_range TableTargets m w)) x.code e

-- what is broken in the target at p
unfoldable pub target_faults : List ℕ → Func → ℕ → List LoadErrorKind
target_faults b f p = in_range TableTargets (length f.code) (get_or (words b) p 0)

each_more : (g : ℕ → List LoadErrorKind) (k p : ℕ) → each_faults g 1 (suc k) p ≡ each_faults g 1 k p ++ g (p + k)
unfolding each_faults
each_more g zero p = let z : p + 0 ≡ p = omega arith in rw z (append-nil (g p))
each_more g (suc k) p =
    let z : p + suc k ≡ p + 1 + k = omega arith in
    ap (λ l. g p ++ l) (each_more g k (p + 1)) ∙ sym (append_assoc (g p) (each_faults g 1 k (p + 1)) (g (p + 1 + k))) ∙ ap (λ q. g p ++ each_faults g 1 k (p + 1) ++ g q) (sym z)

module _ (b : List ℕ) (n : ℕ) (f : Func) (at : ℕ) {k : ℕ} (h : Whole (switch_of (first_words b n) at)) (e : k ≡ get_or (words b) at 0) where
  target_same : (p a q : ℕ) → word (first_words b n) p ≡ got a q → target_faults b f p ≡ in_range TableTargets (length f.code) a
  unfolding target_faults
  target_same p a q g = ap (in_range TableTargets (length f.code)) (first_held word one_word free b n (word_codes (first_words b n)) p a q g (omega arith) refl)

  split : verdict_of (table_faults f (value_of no_switch (switch_of (first_words b n) at))) ≡ verdict_of (each_faults (target_faults b f) 1 k (at + 1) ++ target_faults b f (at + 1 + k))
  unfolding table_faults list_faults
  split = switch_inv b n at h e λ s q g m.
      let z : k + 1 ≡ suc k = omega arith in
      ap (λ (t : Switch). verdict_of (table_faults f t)) (value_got no_switch g)
      ∙ ap (λ l. verdict_of (concat_map (in_range TableTargets (length f.code)) l)) (sym (value_got [] m))
      ∙ ap verdict_of (sym (many_judged word 1 word_takes (first_words b n) (in_range TableTargets (length f.code)) (target_faults b f) target_same (k + 1) (at + 1) (got_whole m)))
      ∙ ap (λ c. verdict_of (each_faults (target_faults b f) 1 c (at + 1))) z ∙ ap verdict_of (each_more (target_faults b f) k (at + 1))

  module _ {r : Verdict} (x : r ≡ verdict_of (each_faults (target_faults b f) 1 k (at + 1))) where
    pub targets_stop : {d : LoadErrorKind} → r ≡ Err d → Err d ≡ verdict_of (table_faults f (value_of no_switch (switch_of (first_words b n) at)))
    targets_stop {d} z = verdict_stop (each_faults (target_faults b f) 1 k (at + 1)) (target_faults b f (at + 1 + k)) d z x ∙ sym split

    pub targets_last : {s : Verdict} → r ≡ Ok tt → s ≡ verdict_of (target_faults b f (at + 1 + k)) → s ≡ verdict_of (table_faults f (value_of no_switch (switch_of (first_words b n) at)))
    targets_last z y = verdict_then (each_faults (target_faults b f) 1 k (at + 1)) (target_faults b f (at + 1 + k)) z x y ∙ sym split

-- ── all of them ──

module _ (b : List ℕ) (n : ℕ) (c : Frame) (x : Framed (first_words b n) c) where
  pub tables_within : c.body.tables < n
  tables_within = list_within switch_of b n c.body.tables (got_whole x.placed.tables)

  pub tables_start : Judges switch_of (table_faults (func_of (first_words b n) c)) (first_words b n) c.body.tables (c.tables - 0) (c.body.tables + 1)
  tables_start =
      let z : c.tables ≡ c.tables - 0 = omega arith in
      subst (λ k. Judges switch_of (table_faults (func_of (first_words b n) c)) (first_words b n) c.body.tables k (c.body.tables + 1)) z
      (judges_start switch_of (table_faults (func_of (first_words b n) c)) b n c.body.tables (got_whole x.placed.tables)
      (x.tables ∙ sym (list_count switch_of b n c.body.tables (func_of (first_words b n) c).tables c.body.code x.placed.tables refl)))

  all_tables : verdict_of (list_faults (table_faults (func_of (first_words b n) c)) (list_of switch_of (first_words b n) c.body.tables)) ≡ verdict_of (tables_faults (func_of (first_words b n) c))
  unfolding tables_faults list_faults
  all_tables = ap (λ l. verdict_of (concat_map (table_faults (func_of (first_words b n) c)) l)) (value_got [] x.placed.tables)

  module _ (i p : ℕ) (y : Judges switch_of (table_faults (func_of (first_words b n) c)) (first_words b n) c.body.tables (c.tables - i) p) where
    pub tables_end : c.tables ≤ i → Ok tt ≡ verdict_of (tables_faults (func_of (first_words b n) c))
    tables_end h = judges_end switch_of (table_faults (func_of (first_words b n) c)) (first_words b n) c.body.tables (c.tables - i) p y (omega arith) ∙ all_tables

    module _ (h : i < c.tables) where
      pub tables_whole : Whole (switch_of (first_words b n) p)
      tables_whole = judges_whole switch_of (table_faults (func_of (first_words b n) c)) (first_words b n) c.body.tables (c.tables - i) p y (omega arith)

      pub tables_fit : {w : ℕ} → w ≡ get_or (words b) p 0 → p + 2 + w ≤ n
      tables_fit e = switch_fit b n p tables_whole e

      module _ {r : Verdict} (k : r ≡ verdict_of (table_faults (func_of (first_words b n) c) (value_of no_switch (switch_of (first_words b n) p)))) where
        pub tables_next : {w : ℕ} → w ≡ get_or (words b) p 0 → r ≡ Ok tt →
            Judges switch_of (table_faults (func_of (first_words b n) c)) (first_words b n) c.body.tables (c.tables - (i + 1)) (p + (2 + w))
        tables_next {w} z e =
            let m : c.tables - i - 1 ≡ c.tables - (i + 1) = omega arith in
            subst (λ k. Judges switch_of (table_faults (func_of (first_words b n) c)) (first_words b n) c.body.tables k (p + (2 + w))) m
            (judges_next switch_of (table_faults (func_of (first_words b n) c)) (first_words b n) c.body.tables (c.tables - i) p y (omega arith) no_switch (p + (2 + w)) e k
            (switch_ends b n p tables_whole z))

        pub tables_stop : {d : LoadErrorKind} → r ≡ Err d → Err d ≡ verdict_of (tables_faults (func_of (first_words b n) c))
        tables_stop {d} e =
            judges_stop switch_of (table_faults (func_of (first_words b n) c)) (first_words b n) c.body.tables (c.tables - i) p y (omega arith) no_switch d e k ∙ all_tables

pub ruleset tables = (tables_start, tables_end, tables_whole, tables_next, tables_stop)
