-- Fields and methods, two words each, and structs.
use Prim.Native.Nat.{ℕ, ◌+◌, ◌-◌, ◌*◌, ◌≤◌, ◌<◌}
use mathlib.Core.Path.{◌≡◌, refl, sym, ap, ap₂, ◌∙◌}
use mathlib.Core.List.{List, [], ◌++◌, append_assoc}
use native.Mathlib.Omega.{arith}
use native.Mathlib.Decide.{dec_lt}
use Rattle.std.specs.Prelude.{min}
use Rattle.std.proofs.Math.Nat.{min-le_left, min-eq_left, min-eq_right}
use lib.ListN.{length, get_or, take}
use lib.Seq.{take_all}
use Rattle.lists.specs.Lists.{concat_map}
use Rattle.blocks.specs.Blocks.{words}
use Rattle.blocks.specs.Frame.{first_words}
use Rattle.blocks.proofs.FirstWords.{length_first_words}
use Rattle.error.specs.declared.What.TheVariants.{Functions, Strings}
use Rattle.error.specs.declared.LoadErrorKind.{LoadErrorKind}
use Rattle.error.specs.Verdict.{Verdict}
use Rattle.std.specs.Prelude.{Err, Ok}
use Rattle.error.specs.Answer.{in_range}
use Rattle.error.specs.Verdict.{verdict_of}
use Rattle.error.specs.VerdictLaws.{verdict_then, verdict_stop}
use Rattle.reader.specs.Reader.{got, word, many, list_of}
use Rattle.reader.specs.ReaderLaws.{then_inv}
use Rattle.reader.specs.StepLaws.{word_read}
use Rattle.reader.specs.Value.{Whole, value_of}
use Rattle.reader.specs.ValueLaws.{whole_inv, got_whole, value_got, list_whole, list_value, list_within}
use Rattle.reader.proofs.SizeLaws.{word_takes, many_inside}
use Rattle.sheet.specs.Module.{ValueType, dyn, Field, Method, struct, coroutine, Module}
use Rattle.sheet.specs.Decode.{value_type, field_of, method_of, struct_type}
use Rattle.open_layout.specs.Opened.{module_in}
use Rattle.open_sheet.specs.declared.Opened.{Opened}
use Rattle.open_sheet.specs.Ready.{Opens}
use Rattle.types.specs.Types.{named_slots, value_faults, string_faults, function_faults, method_faults, struct_faults, type_faults}
use Rattle.law_judging.specs.Judging.{list_faults}
use Rattle.law_judging.specs.Each.{each_faults}
use Rattle.law_judging.proofs.EachLaws.{many_judged}
use Rattle.rule2_structs.specs.Parts.{no_field, no_method, field_type_faults, field_name_faults, names_faults, fields_faults}
use Rattle.rule_values.proofs.Sizes.{field_takes, method_takes, list_takes, many_front}
use Rattle.rule_values.proofs.NumberRules.{string_number_lem, function_number, strings_same}

-- ── a field: its name, then its type ──

module _ (ws : List ℕ) (q : ℕ) (h : Whole (field_of ws q)) where
  field_inv : {C : Type 0} → ((a : ℕ) (t : ValueType) (p : ℕ) → word ws q ≡ got a (q + 1) → value_type ws (q + 1) ≡ got t p → field_of ws q ≡ got (record { name = a; type = t }) p → C) → C
  unfolding field_of
  field_inv k = whole_inv (field_of ws q) h λ v p e.
      then_inv (word ws q) _ e λ a p₁ e₁ e₂. then_inv (value_type ws p₁) _ e₂ λ t p₂ e₃ e₄.
      let z : p₁ ≡ q + 1 = word_takes.ends ws q a p₁ e₁ in
      k a t p₂ (e₁ ∙ ap (got a) z) (ap (value_type ws) (sym z) ∙ e₃) (e ∙ sym e₄)

  pub field_type_whole : Whole (value_type ws (q + 1))
  field_type_whole = field_inv λ a t p e₁ e₂ e₃. got_whole e₂

  field_type : value_of dyn (value_type ws (q + 1)) ≡ (value_of no_field (field_of ws q)).type
  field_type = field_inv λ a t p e₁ e₂ e₃. value_got dyn e₂ ∙ sym (ap (λ (f : Field). f.type) (value_got no_field e₃))

  field_name : value_of 0 (word ws q) ≡ (value_of no_field (field_of ws q)).name
  field_name = field_inv λ a t p e₁ e₂ e₃. value_got 0 e₁ ∙ sym (ap (λ (f : Field). f.name) (value_got no_field e₃))

-- what code finds of the field that is read at q
module _ (b : List ℕ) (n : ℕ) (o : Opened) (y : Opens (first_words b n) o) (q : ℕ) (f : Field) (r : ℕ)
    (e : field_of (first_words b n) q ≡ got f r) where
  pub types_same : value_faults (module_in (first_words b n)) (value_of dyn (value_type (first_words b n) (q + 1)))
      ≡ field_type_faults (module_in (first_words b n)) f
  unfolding field_type_faults
  types_same = ap (value_faults (module_in (first_words b n)))
      (field_type (first_words b n) q (got_whole e) ∙ ap (λ (g : Field). g.type) (value_got no_field e))

  pub names_same : in_range Strings o.counts.strings (get_or (words b) q 0) ≡ field_name_faults (module_in (first_words b n)) f
  unfolding field_name_faults
  names_same = field_inv (first_words b n) q (got_whole e) λ a t p e₁ e₂ e₃.
      let z : a ≡ f.name = sym (value_got 0 e₁) ∙ field_name (first_words b n) q (got_whole e)
      ∙ ap (λ (g : Field). g.name) (value_got no_field e) in
      strings_same b n o y q a (q + 1) e₁ ∙ ap (string_faults (module_in (first_words b n))) z

-- ── the names of some fields ──

module _ (b : List ℕ) (n at count : ℕ) (h : Whole (many count field_of (first_words b n) at)) where
  pub fields_room : 2 * count ≤ n - at
  fields_room = omega (arith, many_inside field_of 2 field_takes (first_words b n) count at h, length_first_words b n)

  pub names_judged : (o : Opened) → Opens (first_words b n) o → {r : Verdict} →
      r ≡ verdict_of (each_faults (λ p. in_range Strings o.counts.strings (get_or (words b) p 0)) 2 count at) →
      r ≡ verdict_of (list_faults (field_name_faults (module_in (first_words b n))) (many count field_of (first_words b n) at))
  names_judged o y k =
      k ∙ ap verdict_of (many_judged field_of 2 field_takes (first_words b n) (field_name_faults (module_in (first_words b n)))
      (λ p. in_range Strings o.counts.strings (get_or (words b) p 0)) (names_same b n o y) count at h)

-- ── the names of a list of fields ──

module _ (b : List ℕ) (n at : ℕ) {w : ℕ} (h : Whole (list_of field_of (first_words b n) at)) (e : w ≡ get_or (words b) at 0) where
  pub few_whole : Whole (many w field_of (first_words b n) (at + 1))
  few_whole = list_whole field_of b n at h e

  front : {C : Type 0} (k : ℕ) → k ≤ w → ((r : ℕ) → many k field_of (first_words b n) (at + 1) ≡ got (take k (value_of [] (list_of field_of (first_words b n) at))) r → C) → C
  front k l g = whole_inv (many w field_of (first_words b n) (at + 1)) few_whole λ xs q i.
      many_front field_of (first_words b n) k w (at + 1) xs q i l λ r j.
      g r (j ∙ ap (λ l. got (take k l) r) (sym (list_value field_of b n at [] h e ∙ value_got [] i)))

  -- code looks at so many
  module _ {c : ℕ} (z : c ≡ min w 65536) where
    few : c ≤ w
    few = omega (arith, z, min-le_left w 65536)

    pub front_whole : Whole (many c field_of (first_words b n) (at + 1))
    front_whole = front c few λ r j. got_whole j

    pub names_told : (m : Module) {x : Verdict} →
        x ≡ verdict_of (list_faults (field_name_faults m) (many c field_of (first_words b n) (at + 1))) →
        x ≡ verdict_of (names_faults m (value_of [] (list_of field_of (first_words b n) at)))
    unfolding list_faults names_faults
    names_told m k =
        whole_inv (list_of field_of (first_words b n) at) h λ xs q g.
        let l : length xs ≡ w = (list_takes field_of 2 field_takes b n at xs q e g).1 in
        let v : value_of [] (list_of field_of (first_words b n) at) ≡ xs = value_got [] g in
        front c few λ r j.
        k ∙ ap (λ l. verdict_of (concat_map (field_name_faults m) l))
        (value_got [] j ∙ ap (take c) v ∙ same xs l ∙ ap (take named_slots) (sym v))
      where
        same : (xs : List Field) → length xs ≡ w → take c xs ≡ take named_slots xs
        same xs l = go (dec_lt w 65536)
          where
            go : Dec (w < 65536) → take c xs ≡ take named_slots xs
            go (yes i) =
                let y : c ≡ w = z ∙ min-eq_left (omega arith) in
                take_all c xs (omega arith) ∙ sym (take_all named_slots xs (omega arith))
            go (no i) = let y : c ≡ named_slots = z ∙ min-eq_right (omega arith) in ap (λ k. take k xs) y

-- ── fields: all types, then all names ──

module _ (m : Module) (ws : List ℕ) (at : ℕ) {r : Verdict} where
  pub fields_stop : {k : LoadErrorKind} → r ≡ Err k → r ≡ verdict_of (list_faults (field_type_faults m) (list_of field_of ws at)) → Err k ≡ verdict_of (fields_faults m (value_of [] (list_of field_of ws at)))
  unfolding list_faults fields_faults
  fields_stop {k} e y = verdict_stop (concat_map (field_type_faults m) (value_of [] (list_of field_of ws at))) (names_faults m (value_of [] (list_of field_of ws at))) k e y

  pub fields_then : {x : Verdict} → r ≡ Ok tt → r ≡ verdict_of (list_faults (field_type_faults m) (list_of field_of ws at)) → x ≡ verdict_of (names_faults m (value_of [] (list_of field_of ws at))) →
      x ≡ verdict_of (fields_faults m (value_of [] (list_of field_of ws at)))
  unfolding list_faults fields_faults
  fields_then e y z = verdict_then (concat_map (field_type_faults m) (value_of [] (list_of field_of ws at))) (names_faults m (value_of [] (list_of field_of ws at))) e y z

-- ── a method ──

module _ (b : List ℕ) (n at : ℕ) where
  pub method_in : Whole (method_of (first_words b n) at) → at + 1 < n
  method_in h = whole_inv (method_of (first_words b n) at) h λ v q e.
      omega (arith, method_takes.ends (first_words b n) at v q e, method_takes.inside (first_words b n) at v q e, length_first_words b n)

  module _ (h : Whole (method_of (first_words b n) at)) {f : ℕ} (e : f ≡ get_or (words b) (at + 1) 0) where
    method_read : method_of (first_words b n) at ≡ got (record { name = get_or (words b) at 0; func = f }) (at + 2)
    unfolding method_of
    method_read =
        let l : at + 1 < n = method_in h in
        let z : (at + 1) + 1 ≡ at + 2 = omega arith in
        rw (word_read b n at (omega arith) refl) (rw (word_read b n (at + 1) l e) (ap (got (record { name = get_or (words b) at 0; func = f })) z))

    method_value : value_of no_method (method_of (first_words b n) at) ≡ record { name = get_or (words b) at 0; func = f }
    method_value = value_got no_method method_read

    module _ (o : Opened) (y : Opens (first_words b n) o) {r : Verdict} (k : r ≡ verdict_of (in_range Functions o.counts.funcs f)) where
      pub method_stop : {b₁ : LoadErrorKind} → r ≡ Err b₁ → Err b₁ ≡ verdict_of (method_faults (module_in (first_words b n)) (value_of no_method (method_of (first_words b n) at)))
      unfolding method_faults
      method_stop {b₁} z =
          verdict_stop (function_faults (module_in (first_words b n)) f) (string_faults (module_in (first_words b n)) (get_or (words b) at 0)) b₁ z (function_number (first_words b n) o y f k)
          ∙ ap (λ v. verdict_of (method_faults (module_in (first_words b n)) v)) (sym method_value)

      pub method_then : {s : ℕ} {x : Verdict} → r ≡ Ok tt → s ≡ get_or (words b) at 0 → x ≡ verdict_of (in_range Strings o.counts.strings s) →
          x ≡ verdict_of (method_faults (module_in (first_words b n)) (value_of no_method (method_of (first_words b n) at)))
      unfolding method_faults
      method_then z g u =
          verdict_then (function_faults (module_in (first_words b n)) f) (string_faults (module_in (first_words b n)) (get_or (words b) at 0)) z (function_number (first_words b n) o y f k)
          (string_number_lem (first_words b n) o y _ u ∙ ap (λ v. verdict_of (string_faults (module_in (first_words b n)) v)) g)
          ∙ ap (λ v. verdict_of (method_faults (module_in (first_words b n)) v)) (sym method_value)

-- ── a struct: name, parent, fields, methods ──

struct_is : (m : Module) (a p : ℕ) (fs : List Field) (ms : List Method) → type_faults m (struct (record { name = a; parent+ = p; fields = fs; methods = ms }))
    ≡ fields_faults m fs ++ (concat_map (method_faults m) ms ++ string_faults m a)
unfolding type_faults struct_faults fields_faults names_faults field_type_faults field_name_faults
struct_is m a p fs ms =
    append_assoc (fields_faults m fs) (concat_map (method_faults m) ms) (string_faults m a)

module _ (b : List ℕ) (n at : ℕ) (h : Whole (struct_type (first_words b n) at)) where
  struct_inv : {C : Type 0} → ((a p : ℕ) (fs : List Field) (ms : List Method) (e : ℕ) → word (first_words b n) at ≡ got a (at + 1) →
      list_of field_of (first_words b n) (at + 2) ≡ got fs (at + 3 + 2 * get_or (words b) (at + 2) 0) →
      list_of method_of (first_words b n) (at + 3 + 2 * get_or (words b) (at + 2) 0) ≡ got ms e →
      struct_type (first_words b n) at ≡ got (struct (record { name = a; parent+ = p; fields = fs; methods = ms })) e → C) → C
  unfolding struct_type
  struct_inv k = whole_inv (struct_type (first_words b n) at) h λ v e g.
      then_inv (word (first_words b n) at) _ g λ a p₁ e₁ g₁.
      then_inv (word (first_words b n) p₁) _ g₁ λ p p₂ e₂ g₂.
      then_inv (list_of field_of (first_words b n) p₂) _ g₂ λ fs p₃ e₃ g₃.
      then_inv (list_of method_of (first_words b n) p₃) _ g₃ λ ms p₄ e₄ g₄.
      let z₁ : p₁ ≡ at + 1 = word_takes.ends (first_words b n) at a p₁ e₁ in
      let z₂ : p₂ ≡ at + 2 = omega (arith, word_takes.ends (first_words b n) p₁ p p₂ e₂) in
      let f₃ : list_of field_of (first_words b n) (at + 2) ≡ got fs p₃ = ap (list_of field_of (first_words b n)) (sym z₂) ∙ e₃ in
      let t = list_takes field_of 2 field_takes b n (at + 2) fs p₃ refl f₃ in
      let z₃ : p₃ ≡ at + 3 + 2 * get_or (words b) (at + 2) 0 = omega (arith, t.0) in
      k a p fs ms p₄ (e₁ ∙ ap (got a) z₁) (f₃ ∙ ap (got fs) z₃) (ap (list_of method_of (first_words b n)) (sym z₃) ∙ e₄) (g ∙ sym g₄)

  pub struct_room : at + 3 + 2 * get_or (words b) (at + 2) 0 < n
  struct_room = struct_inv λ a p fs ms e e₁ e₂ e₃ e₄. list_within method_of b n _ (got_whole e₃)

  pub struct_fields : Whole (list_of field_of (first_words b n) (at + 2))
  struct_fields = struct_inv λ a p fs ms e e₁ e₂ e₃ e₄. got_whole e₂

  pub struct_methods : {w : ℕ} → w ≡ get_or (words b) (at + 2) 0 → Whole (list_of method_of (first_words b n) (at + 3 + 2 * w))
  struct_methods z = struct_inv λ a p fs ms e e₁ e₂ e₃ e₄. rw z (got_whole e₃)

  module _ (m : Module) where
    -- what is broken in it: in the fields, in the methods, in the name
    struct_parts : verdict_of (type_faults m (value_of coroutine (struct_type (first_words b n) at)))
        ≡ verdict_of (fields_faults m (value_of [] (list_of field_of (first_words b n) (at + 2)))
        ++ (list_faults (method_faults m) (list_of method_of (first_words b n) (at + 3 + 2 * get_or (words b) (at + 2) 0)) ++ string_faults m (get_or (words b) at 0)))
    unfolding list_faults
    struct_parts = struct_inv λ a p fs ms e e₁ e₂ e₃ e₄.
        let l : at < n = omega (arith, struct_room) in
        let za : a ≡ get_or (words b) at 0 = sym (value_got 0 e₁) ∙ value_got 0 (word_read b n at l refl) in
        let zf : fs ≡ value_of [] (list_of field_of (first_words b n) (at + 2)) = sym (value_got [] e₂) in
        let zm : ms ≡ value_of [] (list_of method_of (first_words b n) (at + 3 + 2 * get_or (words b) (at + 2) 0)) = sym (value_got [] e₃) in
        ap (λ d. verdict_of (type_faults m d)) (value_got coroutine e₄)
        ∙ ap verdict_of (struct_is m a p fs ms)
        ∙ ap (λ x. verdict_of (fields_faults m x ++ (concat_map (method_faults m) ms ++ string_faults m a))) zf
        ∙ ap₂ (λ x y. verdict_of (fields_faults m (value_of [] (list_of field_of (first_words b n) (at + 2))) ++ (concat_map (method_faults m) x ++ string_faults m y))) zm za

    module _ {r : Verdict} (e : r ≡ verdict_of (fields_faults m (value_of [] (list_of field_of (first_words b n) (at + 2))))) where
      pub struct_fields_stop : {k : LoadErrorKind} → r ≡ Err k → Err k ≡ verdict_of (type_faults m (value_of coroutine (struct_type (first_words b n) at)))
      struct_fields_stop {k} z = verdict_stop (fields_faults m (value_of [] (list_of field_of (first_words b n) (at + 2)))) _ k z e ∙ sym struct_parts

      module _ (z : r ≡ Ok tt) {w : ℕ} (i : w ≡ get_or (words b) (at + 2) 0) {s : Verdict} (g : s ≡ verdict_of (list_faults (method_faults m) (list_of method_of (first_words b n) (at + 3 + 2 * w)))) where
        methods_got : s ≡ verdict_of (list_faults (method_faults m) (list_of method_of (first_words b n) (at + 3 + 2 * get_or (words b) (at + 2) 0)))
        methods_got = g ∙ ap (λ j. verdict_of (list_faults (method_faults m) (list_of method_of (first_words b n) (at + 3 + 2 * j)))) i

        pub struct_methods_stop : {k : LoadErrorKind} → s ≡ Err k → Err k ≡ verdict_of (type_faults m (value_of coroutine (struct_type (first_words b n) at)))
        struct_methods_stop {k} y =
            verdict_then (fields_faults m (value_of [] (list_of field_of (first_words b n) (at + 2)))) _ z e (verdict_stop (list_faults (method_faults m) (list_of method_of (first_words b n) (at + 3 + 2 * get_or (words b) (at + 2) 0))) (string_faults m (get_or (words b) at 0)) k y methods_got)
            ∙ sym struct_parts

  module _ (o : Opened) (y : Opens (first_words b n) o) {r : Verdict} (e : r ≡ verdict_of (fields_faults (module_in (first_words b n)) (value_of [] (list_of field_of (first_words b n) (at + 2))))) (z : r ≡ Ok tt)
      {w : ℕ} (i : w ≡ get_or (words b) (at + 2) 0) {s : Verdict} (g : s ≡ verdict_of (list_faults (method_faults (module_in (first_words b n))) (list_of method_of (first_words b n) (at + 3 + 2 * w)))) (v : s ≡ Ok tt) where
    pub struct_then : {u : ℕ} {x : Verdict} → u ≡ get_or (words b) at 0 → x ≡ verdict_of (in_range Strings o.counts.strings u) →
        x ≡ verdict_of (type_faults (module_in (first_words b n)) (value_of coroutine (struct_type (first_words b n) at)))
    struct_then c k =
        verdict_then (fields_faults (module_in (first_words b n)) (value_of [] (list_of field_of (first_words b n) (at + 2)))) _ z e
        (verdict_then (list_faults (method_faults (module_in (first_words b n))) (list_of method_of (first_words b n) (at + 3 + 2 * get_or (words b) (at + 2) 0))) (string_faults (module_in (first_words b n)) (get_or (words b) at 0)) v
        (methods_got (module_in (first_words b n)) e z i g)
        (string_number_lem (first_words b n) o y _ k ∙ ap (λ j. verdict_of (string_faults (module_in (first_words b n)) j)) c))
        ∙ sym (struct_parts (module_in (first_words b n)))
