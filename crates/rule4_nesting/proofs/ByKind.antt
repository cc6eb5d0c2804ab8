-- A constant by its kind: plain, a string, an array, a map.
use Prim.Native.Nat.{ℕ, zero, suc, ◌+◌, ◌*◌, ◌≤◌}
use mathlib.Core.Path.{◌≡◌, refl, sym, ap, ◌∙◌}
use mathlib.Core.List.{List, [], ◌∷◌, append-nil}
use native.Mathlib.Omega.{arith}
use lib.ListN.{length, get_or}
use borrow.Author.Tests.{le-leb}
use Rattle.lists.specs.Lists.{concat_map}
use Rattle.blocks.specs.Blocks.{words}
use Rattle.blocks.specs.Frame.{first_words}
use Rattle.blocks.proofs.FirstWords.{length_first_words}
use Rattle.error.specs.declared.What.TheVariants.{Strings}
use Rattle.error.specs.declared.LoadErrorKind.{LoadErrorKind}
use Rattle.error.specs.Verdict.{Verdict, verdict_of}
use Rattle.std.specs.Prelude.{Err, Ok, Result}
use Rattle.error.specs.Answer.{in_range}
use Rattle.error.specs.VerdictLaws.{none_broken}
use Rattle.reader.specs.Reader.{got, and_then, fail, word, many, list_of}
use Rattle.reader.specs.ReaderLaws.{then_inv, stands_in, Found, free}
use Rattle.reader.specs.StepLaws.{word_read}
use Rattle.reader.specs.Value.{Whole, value_of}
use Rattle.reader.specs.ValueLaws.{whole_inv, got_whole, not_whole, value_got}
use Rattle.sheet.specs.Module.{Const, plain, Module}
use Rattle.sheet.specs.Decode.{plain_const, string_const, array_const, pair_of, map_const, const_bodies, const_of}
use Rattle.sheet.specs.Encode.{encode_const}
use Rattle.sheet.proofs.TypeCodes.{const_codes}
use Rattle.open_layout.specs.Opened.{module_in}
use Rattle.consts.specs.Consts.{children_of, depth_of, string_const_faults}
use Rattle.open_sheet.specs.declared.Opened.{Opened}
use Rattle.open_sheet.specs.Ready.{Opens}
use Rattle.open_sheet.specs.ReadyLaws.{count_strings}
use Rattle.rule4_nesting.specs.Nesting.{nested_of, nest_faults, nesting, const_nesting}

-- ── pairs as words ──

-- n pairs are 2 × n words
pub pairs_words : (ws : List ℕ) (n p : ℕ) (es : List (ℕ × ℕ)) (q : ℕ) → many n pair_of ws p ≡ got es q
    → many (2 * n) word ws p ≡ got (concat_map (λ e. e.0 ∷ e.1 ∷ []) es) q
unfolding many pair_of
pairs_words ws zero p es q e =
    let h : [] ≡ es = cc in
    let k : p ≡ q = cc in
    let z : 2 * 0 ≡ 0 = omega arith in
    ap (λ n. many n word ws p) z ∙ ap (got []) k ∙ ap (λ l. got (concat_map (λ e. e.0 ∷ e.1 ∷ []) l) q) h
pairs_words ws (suc n) p es q e =
    then_inv (pair_of ws p) _ e λ a p₁ e₁ e₂.
    then_inv (many n pair_of ws p₁) _ e₂ λ ys p₂ e₃ e₄.
    then_inv (word ws p) _ e₁ λ k r e₅ e₆.
    then_inv (word ws r) _ e₆ λ v s e₇ e₈.
    let h : a ∷ ys ≡ es = cc in
    let z : 2 * suc n ≡ suc (suc (2 * n)) = omega arith in
    let y : p₂ ≡ q = cc in
    let u : (k, v) ≡ a = cc in
    let t : s ≡ p₁ = cc in
    let m : many (2 * n) word ws s ≡ got (concat_map (λ e. e.0 ∷ e.1 ∷ []) ys) p₂ = ap (many (2 * n) word ws) t
    ∙ pairs_words ws n p₁ ys p₂ e₃ in
    ap (λ n. many n word ws p) z
    ∙ rw (e₅, e₇, m)
    (ap (got (k ∷ v ∷ concat_map (λ e. e.0 ∷ e.1 ∷ []) ys)) y
    ∙ ap (λ (e : ℕ × ℕ). got (e.0 ∷ e.1 ∷ concat_map (λ e. e.0 ∷ e.1 ∷ []) ys) q) u
    ∙ ap (λ l. got (concat_map (λ e. e.0 ∷ e.1 ∷ []) l) q) h)

-- ── a constant that was read ──

const_within : (ws : List ℕ) (at : ℕ) (k : Const) (q : ℕ) → const_of ws at ≡ got k q → at + 2 ≤ length ws
unfolding encode_const
const_within ws at k q e = go k ((const_codes ws).found at k q e)
  where
    go : (k : Const) → Found ws encode_const free at k q → at + 2 ≤ length ws
    go (plain l h) f = omega (arith, stands_in ws f.stands, f.stands.end)
    go (Const.string s) f = omega (arith, stands_in ws f.stands, f.stands.end)
    go (Const.array items) f = omega (arith, stands_in ws f.stands, f.stands.end)
    go (Const.map entries) f = omega (arith, stands_in ws f.stands, f.stands.end)

-- a constant has two words or more
pub const_fits : (b : List ℕ) (n at : ℕ) → Whole (const_of (first_words b n) at) → at + 2 ≤ n
const_fits b n at h = whole_inv (const_of (first_words b n) at) h λ k q e. omega
    (arith, const_within (first_words b n) at k q e, length_first_words b n)

module _ (b : List ℕ) (n at : ℕ) (h : Whole (const_of (first_words b n) at)) {w : ℕ} (e : w ≡ get_or (words b) at 0) where
  body : const_of (first_words b n) at ≡ get_or const_bodies w fail (first_words b n) (at + 1)
  unfolding const_of
  body = rw (word_read b n at (omega (arith, const_fits b n at h)) e)

  body_of : (k : ℕ) → w ≡ k → const_of (first_words b n) at ≡ get_or const_bodies k fail (first_words b n) (at + 1)
  body_of k g = body ∙ ap (λ v. get_or const_bodies v fail (first_words b n) (at + 1)) g

  -- the last kind is a map
  pub kind_three : (w ≡ 0 → ⊥) → (w ≡ 1 → ⊥) → (w ≡ 2 → ⊥) → w ≡ 3
  kind_three f g k = go w refl
    where
      go : (v : ℕ) → w ≡ v → w ≡ 3
      go zero z = absurd (f z)
      go (suc zero) z = absurd (g z)
      go (suc (suc zero)) z = absurd (k z)
      go (suc (suc (suc zero))) z = z
      go (suc (suc (suc (suc v)))) z = absurd (not_whole (body_of (suc (suc (suc (suc v)))) z) h)

  plain_value : {C : Type 0} → w ≡ 0 → ((l u : ℕ) → value_of (plain 0 0) (const_of (first_words b n) at) ≡ plain l u → C) → C
  unfolding plain_const
  plain_value z f =
      whole_inv (const_of (first_words b n) at) h λ k q g.
      then_inv (word (first_words b n) (at + 1)) _ (sym (body_of 0 z) ∙ g) λ l p e₁ e₂.
      then_inv (word (first_words b n) p) _ e₂ λ u r e₃ e₄.
      let y : plain l u ≡ k = cc in
      f l u (value_got (plain 0 0) g ∙ sym y)

  -- the word after the kind
  module _ {v : ℕ} (g : v ≡ get_or (words b) (at + 1) 0) where
    second : word (first_words b n) (at + 1) ≡ got v (at + 2)
    second =
        let z : at + 1 + 1 ≡ at + 2 = omega arith in
        word_read b n (at + 1) (omega (arith, const_fits b n at h)) g ∙ ap (got v) z

    string_value : w ≡ 1 → value_of (plain 0 0) (const_of (first_words b n) at) ≡ Const.string v
    unfolding string_const
    string_value z = value_got (plain 0 0) {q = at + 2} (body_of 1 z ∙ rw second)

    array_read : w ≡ 2 → const_of (first_words b n) at ≡ and_then (many v word (first_words b n) (at + 2)) (λ xs q. got (Const.array xs) q)
    unfolding array_const list_of
    array_read z = body_of 2 z ∙ rw second

    map_read : w ≡ 3 → const_of (first_words b n) at ≡ and_then (many v pair_of (first_words b n) (at + 2)) (λ es q. got (Const.map es) q)
    unfolding map_const list_of
    map_read z = body_of 3 z ∙ rw second

    array_value : {C : Type 0} → w ≡ 2
        → ((xs : List ℕ) (q : ℕ) → many v word (first_words b n) (at + 2) ≡ got xs q
        → value_of (plain 0 0) (const_of (first_words b n) at) ≡ Const.array xs → C) → C
    array_value z f =
        whole_inv (const_of (first_words b n) at) h λ k q e₁.
        then_inv (many v word (first_words b n) (at + 2)) _ (sym (array_read z) ∙ e₁) λ xs p e₂ e₃.
        let y : Const.array xs ≡ k = cc in
        f xs p e₂ (value_got (plain 0 0) e₁ ∙ sym y)

    map_value : {C : Type 0} → w ≡ 3
        → ((es : List (ℕ × ℕ)) (q : ℕ) → many (2 * v) word (first_words b n) (at + 2) ≡ got (children_of (Const.map es)) q
        → value_of (plain 0 0) (const_of (first_words b n) at) ≡ Const.map es → C) → C
    unfolding children_of
    map_value z f =
        whole_inv (const_of (first_words b n) at) h λ k q e₁.
        then_inv (many v pair_of (first_words b n) (at + 2)) _ (sym (map_read z) ∙ e₁) λ es p e₂ e₃.
        let y : Const.map es ≡ k = cc in
        f es p (pairs_words (first_words b n) v (at + 2) es p e₂) (value_got (plain 0 0) e₁ ∙ sym y)

    pub array_whole : w ≡ 2 → Whole (many v word (first_words b n) (at + 2))
    array_whole z = array_value z λ xs q e₁ e₂. got_whole e₁

    pub map_whole : (w ≡ 0 → ⊥) → (w ≡ 1 → ⊥) → (w ≡ 2 → ⊥) → Whole (many (2 * v) word (first_words b n) (at + 2))
    map_whole x y z = map_value (kind_three x y z) λ es q e₁ e₂. got_whole e₁

-- ── how deep it is ──

-- no children: depth 0
none_nested : (most i : ℕ) → nest_faults most i [] 0 ≡ []
unfolding nest_faults
none_nested most i = rw (le-leb 0 most (omega arith))

module _ (m : Module) (most : ℕ) (done : List ℕ) (i : ℕ) where
  plain_nesting : (l u : ℕ) → const_nesting m most done i (plain l u) ≡ Ok 0
  unfolding const_nesting string_const_faults children_of depth_of nested_of
  plain_nesting l u = rw (none_nested most i)

  string_nesting : (s : ℕ) → const_nesting m most done i (Const.string s) ≡ nested_of (in_range Strings (length m.strings) s) 0
  unfolding const_nesting string_const_faults children_of depth_of
  string_nesting s = rw (none_nested most i) (ap (λ l. nested_of l 0) (append-nil (in_range Strings (length m.strings) s)))

  array_nesting : (xs : List ℕ) → const_nesting m most done i (Const.array xs) ≡ nesting most done i xs
  unfolding const_nesting string_const_faults children_of nesting
  array_nesting xs = refl

  map_nesting : (es : List (ℕ × ℕ)) → const_nesting m most done i (Const.map es) ≡ nesting most done i (children_of (Const.map es))
  unfolding const_nesting string_const_faults nesting
  map_nesting es = refl

  module _ (b : List ℕ) (n at : ℕ) (h : Whole (const_of (first_words b n) at)) {w : ℕ} (e : w ≡ get_or (words b) at 0) where
    pub const_plain : w ≡ 0 → Ok 0 ≡ const_nesting m most done i (value_of (plain 0 0) (const_of (first_words b n) at))
    const_plain z = plain_value b n at h e z λ l u g. sym (ap (const_nesting m most done i) g ∙ plain_nesting l u)

    module _ {v : ℕ} (g : v ≡ get_or (words b) (at + 1) 0) where
      pub const_array : w ≡ 2 → {x : Result ℕ LoadErrorKind}
          → x ≡ nesting most done i (value_of [] (many v word (first_words b n) (at + 2))) →
          x ≡ const_nesting m most done i (value_of (plain 0 0) (const_of (first_words b n) at))
      const_array z y = array_value b n at h e g z λ xs q e₁ e₂.
          y ∙ ap (nesting most done i) (value_got [] e₁) ∙ sym (ap (const_nesting m most done i) e₂ ∙ array_nesting xs)

      pub const_map : (w ≡ 0 → ⊥) → (w ≡ 1 → ⊥) → (w ≡ 2 → ⊥) → {x : Result ℕ LoadErrorKind}
          → x ≡ nesting most done i (value_of [] (many (2 * v) word (first_words b n) (at + 2))) →
          x ≡ const_nesting m most done i (value_of (plain 0 0) (const_of (first_words b n) at))
      const_map z₀ z₁ z₂ y = map_value b n at h e g (kind_three b n at h e z₀ z₁ z₂) λ es q e₁ e₂.
          y ∙ ap (nesting most done i) (value_got [] e₁) ∙ sym (ap (const_nesting m most done i) e₂ ∙ map_nesting es)

-- ── a string ──

nested_broken : (f : List LoadErrorKind) (depth : ℕ) (k : LoadErrorKind) {r : Verdict} → r ≡ Err k → r ≡ verdict_of f
    → Err k ≡ nested_of f depth
unfolding verdict_of nested_of
nested_broken [] depth k y l = let z : ◌≡◌ {A = ℕ} 0 1 = cc in absurd (omega arith)
nested_broken (f ∷ fs) depth k y l = let z : k ≡ f = cc in ap Err z

module _ (most : ℕ) (done : List ℕ) (i : ℕ) (b : List ℕ) (n at : ℕ) (h : Whole (const_of (first_words b n) at)) (o : Opened)
    (x : Opens (first_words b n) o)
    {w : ℕ} (e : w ≡ get_or (words b) at 0) (z : w ≡ 1) {v : ℕ} (g : v ≡ get_or (words b) (at + 1) 0) where
  string_const_lem : const_nesting (module_in (first_words b n)) most done i (value_of (plain 0 0) (const_of (first_words b n) at))
      ≡ nested_of (in_range Strings o.counts.strings v) 0
  string_const_lem =
      ap (const_nesting (module_in (first_words b n)) most done i) (string_value b n at h e g z)
      ∙ string_nesting (module_in (first_words b n)) most done i v
      ∙ ap (λ k. nested_of (in_range Strings k v) 0) (sym (count_strings (first_words b n) o x))

  pub const_string : {r : Verdict} → r ≡ Ok tt → r ≡ verdict_of (in_range Strings o.counts.strings v) →
      Ok 0 ≡ const_nesting (module_in (first_words b n)) most done i (value_of (plain 0 0) (const_of (first_words b n) at))
  unfolding nested_of
  const_string k l = sym (string_const_lem ∙ ap (λ f. nested_of f 0) (none_broken (in_range Strings o.counts.strings v) k l))

  pub const_no_string : {r : Verdict} (k : LoadErrorKind) → r ≡ Err k → r ≡ verdict_of (in_range Strings o.counts.strings v) →
      Err k ≡ const_nesting (module_in (first_words b n)) most done i (value_of (plain 0 0) (const_of (first_words b n) at))
  const_no_string k y l = nested_broken (in_range Strings o.counts.strings v) 0 k y l ∙ sym string_const_lem

pub ruleset kinds = (const_plain, const_array, const_map, const_string, const_no_string)
