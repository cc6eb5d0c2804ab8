-- The parts of a func type, word by word.
use Prim.Native.Nat.{ℕ, ◌+◌, ◌≤◌, ◌<◌}
use mathlib.Core.Path.{◌≡◌, refl, sym, ap, ◌∙◌}
use mathlib.Core.List.{List, []}
use mathlib.Core.Bool.{Bool, true, false, ◌&&◌}
use native.Mathlib.Omega.{arith}
use native.Mathlib.Decide.{dec_lt}
use lib.Dec.{eqb, leb}
use lib.ListN.{length, get_or}
use borrow.Author.Tests.{eq-eqb, eqb-true}
use Rattle.lists.specs.Lists.{all_of}
use Rattle.lists.specs.ListLaws.{length_concat_map}
use Rattle.blocks.specs.Blocks.{words}
use Rattle.blocks.specs.Frame.{first_words}
use Rattle.blocks.proofs.FirstWords.{first_words_at}
use Rattle.error.specs.declared.What.{What}
use Rattle.error.specs.declared.What.TheVariants.{Types}
use Rattle.error.specs.declared.LoadErrorKind.{LoadErrorKind}
use Rattle.error.specs.declared.LoadErrorKind.TheVariants.{OutOfRange, BadSignature}
use Rattle.error.specs.Verdict.{Verdict}
use Rattle.std.specs.Prelude.{Err, Ok}
use Rattle.error.specs.Answer.{unless, in_range}
use Rattle.error.specs.Verdict.{verdict_of}
use Rattle.error.specs.VerdictLaws.{range_broken, verdict_then, verdict_stop}
use Rattle.reader.specs.Reader.{broken, got, list_of, encode_list}
use Rattle.reader.specs.ReaderLaws.{then_inv}
use Rattle.reader.proofs.ReadLaws.{read_at}
use Rattle.reader.specs.StepLaws.{word_read, word_none}
use Rattle.reader.specs.Value.{Whole, value_of}
use Rattle.reader.specs.ValueLaws.{whole_inv, got_whole, not_whole, value_got, list_within}
use Rattle.sheet.specs.Module.{ValueType, Sig, func, coroutine, type_at, kind_word, is_func, no_sig, sig_of}
use Rattle.sheet.specs.Decode.{value_type, func_type, type_def}
use Rattle.sheet.specs.Encode.{encode_value, encode_type}
use Rattle.sheet.specs.Coded.{coded_value, coded_type}
use Rattle.sheet.proofs.TypeCodes.{values_codes, type_codes}
use Rattle.imports.specs.Params.{is_signature, signature_faults, sig_params, sig_results}
use Rattle.open_layout.specs.Opened.{module_in}
use Rattle.open_sheet.specs.declared.Opened.{Opened}
use Rattle.open_sheet.specs.Ready.{Ready, pos_at}
use Rattle.open_sheet.specs.ReadyLaws.{count_types, type_room, type_whole, type_value}
use Rattle.rule_signatures.specs.Signature.{HasSig}
use Rattle.rule_signatures.specs.SignatureLaws.{no_sig_lem, no_type}

-- ── a list of value types, each a word ──

module _ (b : List ℕ) (n at : ℕ) {vs : List ValueType} {q : ℕ} (e : list_of value_type (first_words b n) at ≡ got vs q) where
  pub values_end : q ≡ at + 1 + length vs
  unfolding encode_value
  values_end =
      let s = ((values_codes (first_words b n)).found at vs q e).stands in
      omega (arith, s.end, length_concat_map encode_value 1 (λ v. refl) vs)

  pub values_count : get_or (words b) at 0 ≡ length vs
  values_count =
      let h : at < n = list_within value_type b n at (got_whole e) in
      let z : at ≡ at + 0 = omega arith in
      sym (first_words_at b n at h) ∙ ap (λ k. get_or (first_words b n) k 0) z
      ∙ read_at (first_words b n) (list_of value_type) (encode_list encode_value) (all_of coded_value) (values_codes (first_words b n)) at vs q e 0 (omega arith)

-- ── a type by its first word ──

module _ (b : List ℕ) (n at : ℕ) (h : Whole (type_def (first_words b n) at)) where
  pub type_within : at < n
  type_within = go (dec_lt at n)
    where
      past : n ≤ at → type_def (first_words b n) at ≡ broken
      past l = unfold type_def in rw (word_none b n at l)

      go : Dec (at < n) → at < n
      go (yes l) = l
      go (no l) = absurd (not_whole (past (omega arith)) h)

  kind_word_lem : kind_word (value_of coroutine (type_def (first_words b n) at)) ≡ get_or (words b) at 0
  unfolding encode_type
  kind_word_lem =
      whole_inv (type_def (first_words b n) at) h λ d q e.
      let z : at + 0 ≡ at = omega arith in
      ap kind_word (value_got coroutine e)
      ∙ sym (read_at (first_words b n) type_def encode_type coded_type (type_codes (first_words b n)) at d q e 0 (omega arith))
      ∙ ap (λ k. get_or (first_words b n) k 0) z ∙ first_words_at b n at type_within

  pub is_func_lem : {w : ℕ} → w ≡ get_or (words b) at 0 → is_func (value_of coroutine (type_def (first_words b n) at)) ≡ eqb w 0
  unfolding is_func
  is_func_lem e = ap (λ k. eqb k 0) (kind_word_lem ∙ sym e)

  -- parameters, and after them results
  pub func_parts : {C : Type 0} → get_or (words b) at 0 ≡ 0
      → ((ps rs : List ValueType) (e : ℕ) → list_of value_type (first_words b n) (at + 1) ≡ got ps (at + 2 + length ps)
      → list_of value_type (first_words b n) (at + 2 + length ps) ≡ got rs e
      → sig_of (value_of coroutine (type_def (first_words b n) at)) ≡ record { params = ps; results = rs } → C) → C
  unfolding func_type sig_of
  func_parts z k =
      whole_inv (type_def (first_words b n) at) h λ d q e.
      then_inv (list_of value_type (first_words b n) (at + 1)) _ (sym opened ∙ e) λ ps q₁ e₁ e₂.
      then_inv (list_of value_type (first_words b n) q₁) _ e₂ λ rs q₂ e₃ e₄.
      let y : q₁ ≡ at + 2 + length ps = omega (arith, values_end b n (at + 1) e₁) in
      let x : value_of coroutine (type_def (first_words b n) at) ≡ func (record { params = ps; results = rs }) = value_got coroutine (e ∙ sym e₄) in
      k ps rs q₂ (e₁ ∙ ap (got ps) y) (ap (list_of value_type (first_words b n)) (sym y) ∙ e₃) (ap sig_of x)
    where
      opened : type_def (first_words b n) at ≡ func_type (first_words b n) (at + 1)
      opened = unfold type_def in rw (word_read b n at type_within (sym z))

-- ── code ──

module _ (b : List ℕ) (n at : ℕ) {w : ℕ} (h : Whole (type_def (first_words b n) at)) (e : w ≡ get_or (words b) at 0) where
  -- a func type
  module _ (z : w ≡ 0) where
    pub params_within : at + 1 < n
    params_within = func_parts b n at h (sym e ∙ z) λ ps rs q e₁ e₂ e₃. list_within value_type b n (at + 1) (got_whole e₁)

    pub params_whole : Whole (list_of value_type (first_words b n) (at + 1))
    params_whole = func_parts b n at h (sym e ∙ z) λ ps rs q e₁ e₂ e₃. got_whole e₁

    pub params_value : value_of [] (list_of value_type (first_words b n) (at + 1)) ≡ (sig_of (value_of coroutine (type_def (first_words b n) at))).params
    params_value = func_parts b n at h (sym e ∙ z) λ ps rs q e₁ e₂ e₃. value_got [] e₁ ∙ sym (ap (λ (s : Sig). s.params) e₃)

    pub params_counted : {c : ℕ} → c ≡ get_or (words b) (at + 1) 0 → c ≡ length (sig_of (value_of coroutine (type_def (first_words b n) at))).params
    params_counted k = func_parts b n at h (sym e ∙ z) λ ps rs q e₁ e₂ e₃. k ∙ values_count b n (at + 1) e₁ ∙ sym (ap (λ (s : Sig). length s.params) e₃)

    module _ {c : ℕ} (k : c ≡ get_or (words b) (at + 1) 0) where
      -- what is known of the list after the parameters
      after : {C : Type 0} → ((rs : List ValueType) (q : ℕ) → list_of value_type (first_words b n) (at + 2 + c) ≡ got rs q
          → (sig_of (value_of coroutine (type_def (first_words b n) at))).results ≡ rs → C) → C
      after f = func_parts b n at h (sym e ∙ z) λ ps rs q e₁ e₂ e₃.
          let y : c ≡ length ps = k ∙ values_count b n (at + 1) e₁ in
          f rs q (ap (λ i. list_of value_type (first_words b n) (at + 2 + i)) y ∙ e₂) (ap (λ (s : Sig). s.results) e₃)

      pub results_within : at + 2 + c < n
      results_within = after λ rs q e₁ e₂. list_within value_type b n (at + 2 + c) (got_whole e₁)

      pub results_whole : Whole (list_of value_type (first_words b n) (at + 2 + c))
      results_whole = after λ rs q e₁ e₂. got_whole e₁

      pub results_value : value_of [] (list_of value_type (first_words b n) (at + 2 + c)) ≡ (sig_of (value_of coroutine (type_def (first_words b n) at))).results
      results_value = after λ rs q e₁ e₂. value_got [] e₁ ∙ sym e₂

      pub results_counted : {r : ℕ} → r ≡ get_or (words b) (at + 2 + c) 0 → r ≡ length (sig_of (value_of coroutine (type_def (first_words b n) at))).results
      results_counted l = after λ rs q e₁ e₂. l ∙ values_count b n (at + 2 + c) e₁ ∙ ap length (sym e₂)

    pub few_results : {r : ℕ} → r ≡ length (sig_of (value_of coroutine (type_def (first_words b n) at))).results
        → leb r 1 ≡ is_signature (value_of coroutine (type_def (first_words b n) at))
    unfolding is_signature
    few_results {r} k =
        let y : is_func (value_of coroutine (type_def (first_words b n) at)) ≡ true = is_func_lem b n at h e ∙ eq-eqb w 0 z in
        ap (λ i. leb i 1) k ∙ sym (ap (λ x. x && leb (length (sig_of (value_of coroutine (type_def (first_words b n) at))).results) 1) y)

  -- another
  module _ (z : w ≡ 0 → ⊥) where
    other : is_func (value_of coroutine (type_def (first_words b n) at)) ≡ false
    other = is_func_lem b n at h e ∙ go (eqb w 0) refl
      where
        go : (x : Bool) → eqb w 0 ≡ x → eqb w 0 ≡ false
        go true k = absurd (z (eqb-true w 0 k))
        go false k = k

    pub no_params : 0 ≡ length (sig_of (value_of coroutine (type_def (first_words b n) at))).params
    unfolding no_sig
    no_params = sym (ap (λ (s : Sig). length s.params) (no_sig_lem _ other))

    pub no_results : 0 ≡ length (sig_of (value_of coroutine (type_def (first_words b n) at))).results
    unfolding no_sig
    no_results = sym (ap (λ (s : Sig). length s.results) (no_sig_lem _ other))

    pub no_signature : false ≡ is_signature (value_of coroutine (type_def (first_words b n) at))
    unfolding is_signature
    no_signature = sym (ap (λ x. x && leb (length (sig_of (value_of coroutine (type_def (first_words b n) at))).results) 1) other)

-- ── type t ──

module _ (ws w : List ℕ) (o : Opened) (x : Ready ws w o) (t : ℕ) (h : t < o.counts.types) where
  module _ {p : ℕ} (e : p ≡ pos_at w o.index.types t) where
    pub type_params : {r : ℕ} → r ≡ length (sig_of (value_of coroutine (type_def ws p))).params → r ≡ length (sig_params (module_in ws) t)
    unfolding sig_params
    type_params k = k ∙ ap (λ d. length (sig_of d).params) (type_value ws w o x t h e)

    pub type_results : {r : ℕ} → r ≡ length (sig_of (value_of coroutine (type_def ws p))).results → r ≡ length (sig_results (module_in ws) t)
    unfolding sig_results
    type_results k = k ∙ ap (λ d. length (sig_of d).results) (type_value ws w o x t h e)

-- what is in range is below the count
pub range_inside : (what : What) (n i : ℕ) {u : Verdict} → u ≡ Ok tt → u ≡ verdict_of (in_range what n i) → i < n
range_inside what n i {u} e k = go (dec_lt i n)
  where
    go : Dec (i < n) → i < n
    go (yes l) = l
    go (no l) =
        let h : Err (OutOfRange what i) ≡ verdict_of (in_range what n i) = range_broken what n i (omega arith) in
        let z : ◌≡◌ {A = ℕ} 0 1 = cc in absurd (omega arith)

-- a type that is there is judged by what it is
module _ (ws w : List ℕ) (o : Opened) (x : Ready ws w o) (t : ℕ) {u : Verdict} (l : u ≡ verdict_of (in_range Types o.counts.types t)) where
  ranged : u ≡ verdict_of (in_range Types (length (module_in ws).types) t)
  ranged = l ∙ ap (λ c. verdict_of (in_range Types c t)) (count_types ws o x.opens)

  pub type_missing : {k : LoadErrorKind} → u ≡ Err k → Err k ≡ verdict_of (signature_faults (module_in ws) t)
  unfolding signature_faults
  type_missing {k} e =
      verdict_stop (in_range Types (length (module_in ws).types) t)
      (unless (is_signature (type_at (module_in ws).types t)) BadSignature) k e ranged

  module _ (e : u ≡ Ok tt) where
    pub type_there : t < o.counts.types
    type_there = range_inside Types o.counts.types t e l

    module _ {p : ℕ} (f : p ≡ pos_at w o.index.types t) {r : Bool} (k : r ≡ is_signature (value_of coroutine (type_def ws p))) where
      told : {v : Verdict} → v ≡ verdict_of (unless r BadSignature) → v ≡ verdict_of (signature_faults (module_in ws) t)
      unfolding signature_faults
      told {v} z =
          verdict_then (in_range Types (length (module_in ws).types) t)
          (unless (is_signature (type_at (module_in ws).types t)) BadSignature) e ranged
          (z ∙ ap (λ i. verdict_of (unless i BadSignature)) (k ∙ ap is_signature (type_value ws w o x t type_there f)))

      pub signature_holds : r ≡ true → Ok tt ≡ verdict_of (signature_faults (module_in ws) t)
      unfolding verdict_of
      signature_holds z = told (ap (λ i. verdict_of (unless i BadSignature)) (sym z))

      pub signature_broken : r ≡ false → Err BadSignature ≡ verdict_of (signature_faults (module_in ws) t)
      unfolding verdict_of
      signature_broken z = told (ap (λ i. verdict_of (unless i BadSignature)) (sym z))

module _ (ws w : List ℕ) (o : Opened) (x : Ready ws w o) (t : ℕ) (h : o.counts.types ≤ t) where
  missing : length (module_in ws).types ≤ t
  missing = omega (arith, count_types ws o x.opens)

  pub missing_params : 0 ≡ length (sig_params (module_in ws) t)
  unfolding sig_params no_sig
  missing_params = sym (ap (λ (s : Sig). length s.params) (no_type (module_in ws).types t missing))

  pub missing_results : 0 ≡ length (sig_results (module_in ws) t)
  unfolding sig_results no_sig
  missing_results = sym (ap (λ (s : Sig). length s.results) (no_type (module_in ws).types t missing))

-- ── func type t ──

module _ (b w : List ℕ) (o : Opened) (x : Ready (first_words b o.layout.words) w o) (t : ℕ) (s : HasSig (module_in (first_words b o.layout.words)) t) where
  pub sig_in : t < o.counts.types
  sig_in = omega (arith, s.inside, count_types (first_words b o.layout.words) o x.opens)

  pub sig_room : o.index.types + t < length w
  sig_room = type_room (first_words b o.layout.words) w o x t sig_in

  module _ {p : ℕ} (e : p ≡ pos_at w o.index.types t) where
    sig_whole : Whole (type_def (first_words b o.layout.words) p)
    sig_whole = type_whole (first_words b o.layout.words) w o x t sig_in e

    zero_word : get_or (words b) p 0 ≡ 0
    zero_word =
        eqb-true (get_or (words b) p 0) 0
        (sym (is_func_lem b o.layout.words p sig_whole refl) ∙ ap is_func (type_value (first_words b o.layout.words) w o x t sig_in e) ∙ s.func)

    pub sig_params_within : p + 1 < o.layout.words
    sig_params_within = params_within b o.layout.words p sig_whole refl zero_word

    pub sig_params_whole : Whole (list_of value_type (first_words b o.layout.words) (p + 1))
    sig_params_whole = params_whole b o.layout.words p sig_whole refl zero_word

    pub sig_params_lem : value_of [] (list_of value_type (first_words b o.layout.words) (p + 1)) ≡ sig_params (module_in (first_words b o.layout.words)) t
    unfolding sig_params
    sig_params_lem =
        params_value b o.layout.words p sig_whole refl zero_word ∙ ap (λ d. (sig_of d).params) (type_value (first_words b o.layout.words) w o x t sig_in e)

    module _ {c : ℕ} (k : c ≡ get_or (words b) (p + 1) 0) where
      pub sig_results_within : p + 2 + c < o.layout.words
      sig_results_within = results_within b o.layout.words p sig_whole refl zero_word k

      pub sig_results_whole : Whole (list_of value_type (first_words b o.layout.words) (p + 2 + c))
      sig_results_whole = results_whole b o.layout.words p sig_whole refl zero_word k

      pub sig_results_lem : value_of [] (list_of value_type (first_words b o.layout.words) (p + 2 + c)) ≡ sig_results (module_in (first_words b o.layout.words)) t
      unfolding sig_results
      sig_results_lem =
          results_value b o.layout.words p sig_whole refl zero_word k
          ∙ ap (λ d. (sig_of d).results) (type_value (first_words b o.layout.words) w o x t sig_in e)
