-- Types by their kind words, and types in order.
use Prim.Native.Nat.{ℕ, ◌+◌, ◌≤◌, ◌<◌}
use mathlib.Core.Path.{◌≡◌, refl, sym, ap, ap₂, subst, ◌∙◌}
use mathlib.Core.List.{List, [], ◌++◌, append_assoc}
use native.Mathlib.Omega.{arith}
use native.Mathlib.Decide.{dec_lt}
use lib.Dec.{leb}
use lib.ListN.{length, get_or, get_or-eq_default}
use borrow.Author.Tests.{le-leb, lt-leb}
use Rattle.lists.specs.Lists.{concat_map}
use Rattle.lists.specs.ListLaws.{concat_map_from_lem}
use Rattle.blocks.specs.Blocks.{words}
use Rattle.blocks.specs.Frame.{first_words}
use Rattle.error.specs.declared.LoadErrorKind.{LoadErrorKind}
use Rattle.error.specs.declared.LoadErrorKind.TheVariants.{BadSignature}
use Rattle.error.specs.Verdict.{Verdict}
use Rattle.std.specs.Prelude.{Err, Ok}
use Rattle.error.specs.Verdict.{Judged}
use Rattle.error.specs.Answer.{unless, in_module}
use Rattle.error.specs.Verdict.{verdict_of, judged_of, placed}
use Rattle.error.specs.VerdictLaws.{verdict_then, verdict_stop, placed_faults_lem}
use Rattle.reader.specs.Reader.{broken, got, Reader, and_then, fail, list_of}
use Rattle.reader.specs.ReaderLaws.{then_inv}
use Rattle.reader.specs.StepLaws.{word_read, word_none, beyond}
use Rattle.reader.specs.Value.{Whole, value_of}
use Rattle.reader.specs.ValueLaws.{whole_inv, got_whole, not_whole, value_got, list_within}
use Rattle.sheet.specs.Module.{ValueType, dyn, TypeDef, func, cell, iter, coroutine, Module, type_at}
use Rattle.sheet.specs.Decode.{value_type, func_type, struct_type, of_one, of_two, type_bodies, type_def}
use Rattle.sheet.proofs.SizeLaws.{value_takes}
use Rattle.open_layout.specs.Opened.{module_in}
use Rattle.open_sheet.specs.declared.Opened.{Opened}
use Rattle.open_sheet.specs.Ready.{Ready, pos_at}
use Rattle.open_sheet.specs.ReadyLaws.{count_types, types_in, type_value}
use Rattle.types.specs.Types.{value_faults, sig_faults, type_faults, types_faults}
use Rattle.law_judging.specs.Judging.{list_faults}
use Rattle.law_judging.specs.Clearing.{Clears, clears_start, clears_holds, clears_pass, clears_stop}
use Rattle.rule_values.proofs.Sizes.{list_takes}
use Rattle.rule_values.proofs.ValueRules.{value_in}

-- ── a func type: parameters, results ──

sig_is : (m : Module) (ps rs : List ValueType) → type_faults m (func (record { params = ps; results = rs })) ≡ unless (leb (length rs) 1) BadSignature ++ (concat_map (value_faults m) ps ++ concat_map (value_faults m) rs)
unfolding type_faults sig_faults
sig_is m ps rs = append_assoc (unless (leb (length rs) 1) BadSignature) (concat_map (value_faults m) ps) (concat_map (value_faults m) rs)

module _ (b : List ℕ) (n at : ℕ) (h : Whole (func_type (first_words b n) at)) where
  func_inv : {C : Type 0} → ((ps rs : List ValueType) (e : ℕ) → list_of value_type (first_words b n) at ≡ got ps (at + 1 + get_or (words b) at 0) →
      list_of value_type (first_words b n) (at + 1 + get_or (words b) at 0) ≡ got rs e → func_type (first_words b n) at ≡ got (func (record { params = ps; results = rs })) e → C) → C
  unfolding func_type
  func_inv k = whole_inv (func_type (first_words b n) at) h λ v e g.
      then_inv (list_of value_type (first_words b n) at) _ g λ ps p₁ e₁ g₁.
      then_inv (list_of value_type (first_words b n) p₁) _ g₁ λ rs p₂ e₂ g₂.
      let t = list_takes value_type 1 value_takes b n at ps p₁ refl e₁ in
      let z : p₁ ≡ at + 1 + get_or (words b) at 0 = omega (arith, t.0) in
      k ps rs p₂ (e₁ ∙ ap (got ps) z) (ap (list_of value_type (first_words b n)) (sym z) ∙ e₂) (g ∙ sym g₂)

  pub func_room : at + 1 + get_or (words b) at 0 < n
  func_room = func_inv λ ps rs e e₁ e₂ e₃. list_within value_type b n _ (got_whole e₂)

  pub func_params : Whole (list_of value_type (first_words b n) at)
  func_params = func_inv λ ps rs e e₁ e₂ e₃. got_whole e₁

  module _ {w : ℕ} (i : w ≡ get_or (words b) at 0) where
    pub func_results : Whole (list_of value_type (first_words b n) (at + 1 + w))
    func_results = func_inv λ ps rs e e₁ e₂ e₃. rw i (got_whole e₂)

    module _ (m : Module) {c : ℕ} (j : c ≡ get_or (words b) (at + 1 + w) 0) where
      -- what is broken in it: the number of results, then parameters, then results
      func_parts : verdict_of (type_faults m (value_of coroutine (func_type (first_words b n) at)))
          ≡ verdict_of (unless (leb c 1) BadSignature ++ (list_faults (value_faults m) (list_of value_type (first_words b n) at) ++ list_faults (value_faults m) (list_of value_type (first_words b n) (at + 1 + w))))
      unfolding list_faults
      func_parts = func_inv λ ps rs e e₁ e₂ e₃.
          let f₂ : list_of value_type (first_words b n) (at + 1 + w) ≡ got rs e = ap (λ k. list_of value_type (first_words b n) (at + 1 + k)) i ∙ e₂ in
          let zc : length rs ≡ c = (list_takes value_type 1 value_takes b n (at + 1 + w) rs e j f₂).1 in
          ap (λ d. verdict_of (type_faults m d)) (value_got coroutine e₃)
          ∙ ap verdict_of (sig_is m ps rs)
          ∙ ap (λ k. verdict_of (unless (leb k 1) BadSignature ++ (concat_map (value_faults m) ps ++ concat_map (value_faults m) rs))) zc
          ∙ ap₂ (λ x y. verdict_of (unless (leb c 1) BadSignature ++ (concat_map (value_faults m) x ++ concat_map (value_faults m) y))) (sym (value_got [] e₁)) (sym (value_got [] f₂))

      pub sig_many : 1 < c → Err BadSignature ≡ verdict_of (type_faults m (value_of coroutine (func_type (first_words b n) at)))
      unfolding verdict_of
      sig_many l = sym (func_parts ∙ ap (λ t. verdict_of (unless t BadSignature ++ (list_faults (value_faults m) (list_of value_type (first_words b n) at) ++ list_faults (value_faults m) (list_of value_type (first_words b n) (at + 1 + w))))) (lt-leb c 1 l))

      few : c ≤ 1 → verdict_of (type_faults m (value_of coroutine (func_type (first_words b n) at)))
          ≡ verdict_of (list_faults (value_faults m) (list_of value_type (first_words b n) at) ++ list_faults (value_faults m) (list_of value_type (first_words b n) (at + 1 + w)))
      few l = func_parts ∙ ap (λ t. verdict_of (unless t BadSignature ++ (list_faults (value_faults m) (list_of value_type (first_words b n) at) ++ list_faults (value_faults m) (list_of value_type (first_words b n) (at + 1 + w))))) (le-leb c 1 l)

      module _ (l : c ≤ 1) {r : Verdict} (k : r ≡ verdict_of (list_faults (value_faults m) (list_of value_type (first_words b n) at))) where
        pub sig_stop : {b₁ : LoadErrorKind} → r ≡ Err b₁ → Err b₁ ≡ verdict_of (type_faults m (value_of coroutine (func_type (first_words b n) at)))
        sig_stop {b₁} z = verdict_stop (list_faults (value_faults m) (list_of value_type (first_words b n) at)) _ b₁ z k ∙ sym (few l)

        pub sig_then : {x : Verdict} → r ≡ Ok tt → x ≡ verdict_of (list_faults (value_faults m) (list_of value_type (first_words b n) (at + 1 + w))) → x ≡ verdict_of (type_faults m (value_of coroutine (func_type (first_words b n) at)))
        sig_then z y = verdict_then (list_faults (value_faults m) (list_of value_type (first_words b n) at)) _ z k y ∙ sym (few l)

-- ── key, then value ──

module _ (ws : List ℕ) (at : ℕ) (h : Whole (of_two TypeDef.map ws at)) where
  two_inv : {C : Type 0} → ((k v : ValueType) (e : ℕ) → value_type ws at ≡ got k (at + 1) → value_type ws (at + 1) ≡ got v e → of_two TypeDef.map ws at ≡ got (TypeDef.map k v) e → C) → C
  unfolding of_two
  two_inv f = whole_inv (of_two TypeDef.map ws at) h λ d e g.
      then_inv (value_type ws at) _ g λ k p₁ e₁ g₁. then_inv (value_type ws p₁) _ g₁ λ v p₂ e₂ g₂.
      let z : p₁ ≡ at + 1 = value_takes.ends ws at k p₁ e₁ in
      f k v p₂ (e₁ ∙ ap (got k) z) (ap (value_type ws) (sym z) ∙ e₂) (g ∙ sym g₂)

  pub two_key : Whole (value_type ws at)
  two_key = two_inv λ k v e e₁ e₂ e₃. got_whole e₁

  pub two_value : Whole (value_type ws (at + 1))
  two_value = two_inv λ k v e e₁ e₂ e₃. got_whole e₂

  module _ (m : Module) where
    two_parts : verdict_of (type_faults m (value_of coroutine (of_two TypeDef.map ws at))) ≡ verdict_of (value_faults m (value_of dyn (value_type ws at)) ++ value_faults m (value_of dyn (value_type ws (at + 1))))
    unfolding type_faults
    two_parts = two_inv λ k v e e₁ e₂ e₃.
        ap (λ d. verdict_of (type_faults m d)) (value_got coroutine e₃)
        ∙ ap₂ (λ x y. verdict_of (value_faults m x ++ value_faults m y)) (sym (value_got dyn e₁)) (sym (value_got dyn e₂))

    module _ {r : Verdict} (k : r ≡ verdict_of (value_faults m (value_of dyn (value_type ws at)))) where
      pub two_stop : {b : LoadErrorKind} → r ≡ Err b → Err b ≡ verdict_of (type_faults m (value_of coroutine (of_two TypeDef.map ws at)))
      two_stop {b} z = verdict_stop (value_faults m (value_of dyn (value_type ws at))) _ b z k ∙ sym two_parts

      pub two_then : {x : Verdict} → r ≡ Ok tt → x ≡ verdict_of (value_faults m (value_of dyn (value_type ws (at + 1)))) → x ≡ verdict_of (type_faults m (value_of coroutine (of_two TypeDef.map ws at)))
      two_then z y = verdict_then (value_faults m (value_of dyn (value_type ws at))) _ z k y ∙ sym two_parts

pub two_in : (b : List ℕ) (n at : ℕ) → Whole (of_two TypeDef.map (first_words b n) at) → at < n
two_in b n at h = value_in b n at (two_key (first_words b n) at h)

-- ── a type by its kind ──

module _ (b : List ℕ) (n at : ℕ) where
  pub type_in : Whole (type_def (first_words b n) at) → at < n
  type_in h = go (dec_lt at n)
    where
      none_past : n ≤ at → type_def (first_words b n) at ≡ broken
      none_past l = unfold type_def in rw (word_none b n at l)

      go : Dec (at < n) → at < n
      go (yes l) = l
      go (no l) = absurd (not_whole (none_past (omega arith)) h)

  module _ {w : ℕ} (h : Whole (type_def (first_words b n) at)) (e : w ≡ get_or (words b) at 0) where
    body : (k : ℕ) → w ≡ k → type_def (first_words b n) at ≡ get_or type_bodies k fail (first_words b n) (at + 1)
    unfolding type_def
    body k z = rw (word_read b n at (type_in h) (sym z ∙ e))

    -- one value type
    one_whole : (make : ValueType → TypeDef) → type_def (first_words b n) at ≡ of_one make (first_words b n) (at + 1) → Whole (value_type (first_words b n) (at + 1))
    unfolding of_one
    one_whole make g = whole_inv (type_def (first_words b n) at) h λ d p i. then_inv (value_type (first_words b n) (at + 1)) _ (sym g ∙ i) λ v q e₁ e₂. got_whole e₁

    one_faults : (make : ValueType → TypeDef) (m : Module) {x : Verdict} → ((v : ValueType) → value_faults m v ≡ type_faults m (make v)) → type_def (first_words b n) at ≡ of_one make (first_words b n) (at + 1) →
        x ≡ verdict_of (value_faults m (value_of dyn (value_type (first_words b n) (at + 1)))) → x ≡ verdict_of (type_faults m (value_of coroutine (type_def (first_words b n) at)))
    unfolding of_one
    one_faults make m f g k = whole_inv (type_def (first_words b n) at) h λ d p i. then_inv (value_type (first_words b n) (at + 1)) _ (sym g ∙ i) λ v q e₁ e₂.
        k ∙ ap verdict_of (ap (value_faults m) (value_got dyn e₁) ∙ f v) ∙ ap (λ y. verdict_of (type_faults m y)) (sym (value_got coroutine (i ∙ sym e₂)))

    -- iter is read as map is
    iter_inv : {C : Type 0} → type_def (first_words b n) at ≡ of_two iter (first_words b n) (at + 1) →
        ((k v : ValueType) (q : ℕ) → of_two TypeDef.map (first_words b n) (at + 1) ≡ got (TypeDef.map k v) q → type_def (first_words b n) at ≡ got (iter k v) q → C) → C
    unfolding of_two
    iter_inv g f = whole_inv (type_def (first_words b n) at) h λ d p i.
        then_inv (value_type (first_words b n) (at + 1)) _ (sym g ∙ i) λ k q e₁ g₁. then_inv (value_type (first_words b n) q) _ g₁ λ v r e₂ g₂.
        f k v r (ap (λ y. and_then y (λ a s. and_then (value_type (first_words b n) s) (λ c t. got (TypeDef.map a c) t))) e₁ ∙ ap (λ y. and_then y (λ c t. got (TypeDef.map k c) t)) e₂) (i ∙ sym g₂)

    pub kind_func_whole : w ≡ 0 → Whole (func_type (first_words b n) (at + 1))
    kind_func_whole z = subst Whole (body 0 z) h

    pub kind_struct_whole : w ≡ 1 → Whole (struct_type (first_words b n) (at + 1))
    kind_struct_whole z = subst Whole (body 1 z) h

    pub kind_array_whole : w ≡ 2 → Whole (value_type (first_words b n) (at + 1))
    kind_array_whole z = one_whole TypeDef.array (body 2 z)

    pub kind_map_whole : w ≡ 3 → Whole (of_two TypeDef.map (first_words b n) (at + 1))
    kind_map_whole z = subst Whole (body 3 z) h

    pub kind_cell_whole : w ≡ 4 → Whole (value_type (first_words b n) (at + 1))
    kind_cell_whole z = one_whole cell (body 4 z)

    pub kind_iter_whole : w ≡ 5 → Whole (of_two TypeDef.map (first_words b n) (at + 1))
    kind_iter_whole z = iter_inv (body 5 z) λ k v q e₁ e₂. got_whole e₁

    module _ (m : Module) {x : Verdict} where
      pub kind_func : w ≡ 0 → x ≡ verdict_of (type_faults m (value_of coroutine (func_type (first_words b n) (at + 1)))) → x ≡ verdict_of (type_faults m (value_of coroutine (type_def (first_words b n) at)))
      kind_func z k = k ∙ ap (λ y. verdict_of (type_faults m (value_of coroutine y))) (sym (body 0 z))

      pub kind_struct : w ≡ 1 → x ≡ verdict_of (type_faults m (value_of coroutine (struct_type (first_words b n) (at + 1)))) → x ≡ verdict_of (type_faults m (value_of coroutine (type_def (first_words b n) at)))
      kind_struct z k = k ∙ ap (λ y. verdict_of (type_faults m (value_of coroutine y))) (sym (body 1 z))

      pub kind_array : w ≡ 2 → x ≡ verdict_of (value_faults m (value_of dyn (value_type (first_words b n) (at + 1)))) → x ≡ verdict_of (type_faults m (value_of coroutine (type_def (first_words b n) at)))
      unfolding type_faults
      kind_array z k = one_faults TypeDef.array m (λ v. refl) (body 2 z) k

      pub kind_map : w ≡ 3 → x ≡ verdict_of (type_faults m (value_of coroutine (of_two TypeDef.map (first_words b n) (at + 1)))) → x ≡ verdict_of (type_faults m (value_of coroutine (type_def (first_words b n) at)))
      kind_map z k = k ∙ ap (λ y. verdict_of (type_faults m (value_of coroutine y))) (sym (body 3 z))

      pub kind_cell : w ≡ 4 → x ≡ verdict_of (value_faults m (value_of dyn (value_type (first_words b n) (at + 1)))) → x ≡ verdict_of (type_faults m (value_of coroutine (type_def (first_words b n) at)))
      unfolding type_faults
      kind_cell z k = one_faults cell m (λ v. refl) (body 4 z) k

      pub kind_iter : w ≡ 5 → x ≡ verdict_of (type_faults m (value_of coroutine (of_two TypeDef.map (first_words b n) (at + 1)))) → x ≡ verdict_of (type_faults m (value_of coroutine (type_def (first_words b n) at)))
      unfolding type_faults
      kind_iter z y = iter_inv (body 5 z) λ k v q e₁ e₂.
          y ∙ ap (λ d. verdict_of (type_faults m d)) (value_got coroutine e₁) ∙ ap (λ d. verdict_of (type_faults m d)) (sym (value_got coroutine e₂))

    six_on : (w ≡ 0 → ⊥) → (w ≡ 1 → ⊥) → (w ≡ 2 → ⊥) → (w ≡ 3 → ⊥) → (w ≡ 4 → ⊥) → (w ≡ 5 → ⊥) → 6 ≤ w
    six_on a b c d e f = beyond 5 w (beyond 4 w (beyond 3 w (beyond 2 w (beyond 1 w (beyond 0 w (omega arith) a) b) c) d) e) f

    -- a coroutine has no parts
    pub kind_rest : (m : Module) → (w ≡ 0 → ⊥) → (w ≡ 1 → ⊥) → (w ≡ 2 → ⊥) → (w ≡ 3 → ⊥) → (w ≡ 4 → ⊥) → (w ≡ 5 → ⊥) → Ok tt ≡ verdict_of (type_faults m (value_of coroutine (type_def (first_words b n) at)))
    kind_rest m a b₁ c d f g = go (dec_lt w 7)
      where
        none : (d : TypeDef) → d ≡ coroutine → Ok tt ≡ verdict_of (type_faults m d)
        none d i = unfold verdict_of type_faults in sym (ap (λ y. verdict_of (type_faults m y)) i)

        go : Dec (w < 7) → Ok tt ≡ verdict_of (type_faults m (value_of coroutine (type_def (first_words b n) at)))
        go (yes l) = let z : w ≡ 6 = omega (arith, six_on a b₁ c d f g) in none (value_of coroutine (type_def (first_words b n) at)) (value_got coroutine (body 6 z))
        go (no l) = let k : 7 ≤ w = omega arith in absurd (not_whole (body w refl ∙ ap (λ (r : Reader TypeDef). r (first_words b n) (at + 1)) (get_or-eq_default type_bodies fail k)) h)

-- ── types by number ──

-- nothing is broken before type i
pub record Cleared (m : Module) (i : ℕ) : Type 0 where
  pub clear : Clears (λ j. type_faults m) m.types i

pub cleared_start : (m : Module) → Cleared m 0
cleared_start m = record { clear = clears_start (λ j. type_faults m) m.types }

module _ (ws w : List ℕ) (o : Opened) (x : Ready ws w o) (i : ℕ) where
  pub cleared_end : Cleared (module_in ws) i → o.counts.types ≤ i → Ok tt ≡ verdict_of (concat_map (type_faults (module_in ws)) (module_in ws).types)
  cleared_end y h =
      clears_holds (λ j. type_faults (module_in ws)) (module_in ws).types i y.clear (omega (arith, count_types ws o x.opens))
      ∙ sym (ap verdict_of (concat_map_from_lem 0 (type_faults (module_in ws)) (module_in ws).types))

  module _ (h : i < o.counts.types) {p : ℕ} (e : p ≡ pos_at w o.index.types i) (y : Cleared (module_in ws) i) {r : Verdict}
      (k : r ≡ verdict_of (type_faults (module_in ws) (value_of coroutine (type_def ws p)))) where
    at_number : r ≡ verdict_of (type_faults (module_in ws) (get_or (module_in ws).types i coroutine))
    unfolding type_at
    at_number = k ∙ ap (λ d. verdict_of (type_faults (module_in ws) d)) (type_value ws w o x i h e)

    pub cleared_next : r ≡ Ok tt → Cleared (module_in ws) (i + 1)
    cleared_next z = record { clear = clears_pass (λ j. type_faults (module_in ws)) (module_in ws).types i y.clear coroutine (types_in ws w o x i h) z at_number }

    pub cleared_stop : {b : LoadErrorKind} → r ≡ Err b → Err b ≡ verdict_of (concat_map (type_faults (module_in ws)) (module_in ws).types)
    cleared_stop z =
        clears_stop (λ j. type_faults (module_in ws)) (module_in ws).types i y.clear coroutine (types_in ws w o x i h) z at_number
        ∙ sym (ap verdict_of (concat_map_from_lem 0 (type_faults (module_in ws)) (module_in ws).types))

pub types_judged : (m : Module) {v : Verdict} {r : Judged} → v ≡ verdict_of (concat_map (type_faults m) m.types) → r ≡ placed in_module v → r ≡ judged_of (types_faults m)
unfolding types_faults
types_judged m e k = placed_faults_lem in_module (concat_map (type_faults m) m.types) e k
