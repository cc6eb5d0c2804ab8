-- A type by its kind word: what follows it, and what is written of it.
use Prim.Native.Nat.{ℕ, ◌+◌, ◌≤◌, ◌<◌}
use mathlib.Core.Path.{◌≡◌, refl, sym, ap, ap₂, subst, ◌∙◌}
use mathlib.Core.List.{List, [], ◌∷◌, ◌++◌}
use native.Mathlib.Omega.{arith}
use lib.ListN.{length, get_or}
use Rattle.blocks.specs.Blocks.{words}
use Rattle.blocks.specs.Frame.{first_words}
use Rattle.blocks.proofs.FirstWords.{length_first_words, first_words_at}
use Rattle.law_faults.specs.Empty.{append_empty}
use Rattle.reader.specs.Reader.{got, fail}
use Rattle.reader.specs.ReaderLaws.{then_inv, stands_in}
use Rattle.reader.proofs.ReadLaws.{read_at}
use Rattle.reader.specs.StepLaws.{word_read}
use Rattle.reader.specs.Value.{Whole, value_of}
use Rattle.reader.specs.ValueLaws.{whole_inv, got_whole, value_got}
use Rattle.sheet.specs.Module.{ValueType, dyn, TypeDef, func, struct, cell, iter, coroutine, kind_word, Module}
use Rattle.sheet.specs.Decode.{value_type, struct_type, of_one, of_two, type_bodies, type_def}
use Rattle.sheet.specs.Encode.{encode_value, encode_type}
use Rattle.sheet.specs.Coded.{coded_type}
use Rattle.sheet.proofs.TypeCodes.{value_codes, type_codes}
use Rattle.canon.specs.Canon.{canon_word}
use Rattle.types.specs.Types.{value_faults, type_faults}
use Rattle.open_layout.specs.Opened.{module_in}
use Rattle.rule6_registers.specs.ValueWords.{value_within}
use Rattle.table.specs.Records.{struct_record, type_body}
use Rattle.table_structs.specs.StructParts.{Sound, struct_in, struct_at}
use Rattle.table_types.specs.TypeParts.{one_at, two_at, body_at}
use Rattle.table_structs.proofs.Joins.{Put, front_room, put_is, put_none, put_room, put_then}

-- ── one value type, and two ──

pub value_in : (b : List ℕ) (n q : ℕ) → Sound value_type dyn value_faults (first_words b n) q → q < n
value_in b n q x = whole_inv (value_type (first_words b n) q) x.whole λ v r e. value_within b n q e

module _ (ws : List ℕ) (q : ℕ) (t : List ℕ) (a : ℕ) where
  pub one_room : a + length (one_at ws q) ≤ length t → a < length t
  unfolding one_at
  one_room h = omega arith

  pub one_put : {c r : ℕ} {v : List ℕ} → c ≡ canon_word (module_in ws).types (value_of dyn (value_type ws q)) → Put t a (c ∷ []) v r → Put t a (one_at ws q) v r
  unfolding one_at
  one_put {c} {r} {v} e x = put_is t a (c ∷ []) v r x (one_at ws q) (ap (λ k. k ∷ []) e)

  module _ (h : a + length (two_at ws q) ≤ length t) where
    pub key_room : a + length (one_at ws q) ≤ length t
    unfolding two_at
    key_room = front_room (length t) a (one_at ws q) (one_at ws (q + 1)) h

    module _ (u : List ℕ) (p : ℕ) (x : Put t a (one_at ws q) u p) where
      pub value_room : p + length (one_at ws (q + 1)) ≤ length u
      unfolding two_at
      value_room = put_room t a (one_at ws q) u p x (one_at ws (q + 1)) h

      pub two_put : (v : List ℕ) (r : ℕ) → Put u p (one_at ws (q + 1)) v r → Put t a (two_at ws q) v r
      unfolding two_at
      two_put v r y = put_then t a (one_at ws q) u p x (one_at ws (q + 1)) h v r y

-- ── a type ──

module _ (b : List ℕ) (n q : ℕ) (d : TypeDef) (r : ℕ) (e : type_def (first_words b n) q ≡ got d r) where
  read_in : q < n
  unfolding encode_type
  read_in =
      let s = ((type_codes (first_words b n)).found q d r e).stands in
      omega (arith, stands_in (first_words b n) s, s.end, length_first_words b n)

  read_kind : get_or (words b) q 0 ≡ kind_word d
  unfolding encode_type
  read_kind =
      let z : q ≡ q + 0 = omega arith in
      sym (first_words_at b n q read_in) ∙ ap (λ k. get_or (first_words b n) k 0) z
      ∙ read_at (first_words b n) type_def encode_type coded_type (type_codes (first_words b n)) q d r e 0 (omega arith)

value_next : (ws : List ℕ) (q : ℕ) (v : ValueType) (p : ℕ) → value_type ws q ≡ got v p → p ≡ q + 1
unfolding encode_value
value_next ws q v p e = ((value_codes ws).found q v p e).stands.end

nothing : (m : Module) (d : TypeDef) {w : ℕ} → w ≡ kind_word d → (w ≡ 1 → ⊥) → (w ≡ 2 → ⊥) → (w ≡ 3 → ⊥) → (w ≡ 4 → ⊥) → (w ≡ 5 → ⊥) → [] ≡ type_body m d
unfolding kind_word type_body
nothing m (func s) e a b c d f = refl
nothing m (struct s) e a b c d f = absurd (a e)
nothing m (TypeDef.array v) e a b c d f = absurd (b e)
nothing m (TypeDef.map k v) e a b c d f = absurd (c e)
nothing m (cell v) e a b c d f = absurd (d e)
nothing m (iter k v) e a b c d f = absurd (f e)
nothing m coroutine e a b c d f = refl

module _ (b : List ℕ) (n q : ℕ) (x : Sound type_def coroutine type_faults (first_words b n) q) where
  pub type_in : q < n
  type_in = whole_inv (type_def (first_words b n) q) x.whole λ d r e. read_in b n q d r e

  pub type_kind : {w : ℕ} → w ≡ get_or (words b) q 0 → w ≡ kind_word (value_of coroutine (type_def (first_words b n) q))
  type_kind i = whole_inv (type_def (first_words b n) q) x.whole λ d r e. i ∙ read_kind b n q d r e ∙ ap kind_word (sym (value_got coroutine e))

  module _ {w : ℕ} (i : w ≡ get_or (words b) q 0) where
    body : (k : ℕ) → w ≡ k → type_def (first_words b n) q ≡ get_or type_bodies k fail (first_words b n) (q + 1)
    unfolding type_def
    body k z = rw (word_read b n q type_in (sym z ∙ i))

    -- ── a struct ──

    pub struct_sound : w ≡ 1 → Sound struct_type coroutine type_faults (first_words b n) (q + 1)
    struct_sound z = record {
      whole = subst Whole (body 1 z) x.whole;
      holds = ap (λ g. type_faults (module_in (first_words b n)) (value_of coroutine g)) (sym (body 1 z)) ∙ x.holds;
    }

    -- the value that was read there is a struct
    struct_got : {C : Type 0} → w ≡ 1 → ((d : TypeDef) → value_of coroutine (type_def (first_words b n) q) ≡ d → value_of coroutine (struct_type (first_words b n) (q + 1)) ≡ d → 1 ≡ kind_word d → C) → C
    struct_got z k =
        k (value_of coroutine (type_def (first_words b n) q)) refl (ap (value_of coroutine) (sym (body 1 z))) (sym z ∙ type_kind i)

    pub struct_body : w ≡ 1 → struct_record (module_in (first_words b n)) (struct_at (first_words b n) (q + 1)) ≡ body_at (first_words b n) q
    unfolding struct_at body_at
    struct_body z = struct_got z λ d e f k.
        ap (λ y. struct_record (module_in (first_words b n)) (struct_in y)) f ∙ go d k ∙ ap (type_body (module_in (first_words b n))) (sym e)
      where
        go : (d : TypeDef) → 1 ≡ kind_word d → struct_record (module_in (first_words b n)) (struct_in d) ≡ type_body (module_in (first_words b n)) d
        go (func s) k = unfold kind_word in absurd (omega arith)
        go (struct s) k = unfold struct_in type_body in refl
        go (TypeDef.array v) k = unfold kind_word in absurd (omega arith)
        go (TypeDef.map v u) k = unfold kind_word in absurd (omega arith)
        go (cell v) k = unfold kind_word in absurd (omega arith)
        go (iter v u) k = unfold kind_word in absurd (omega arith)
        go coroutine k = unfold kind_word in absurd (omega arith)

    -- ── one value type ──

    one_inv : {C : Type 0} (make : ValueType → TypeDef) → type_def (first_words b n) q ≡ of_one make (first_words b n) (q + 1)
        → ((v : ValueType) (r : ℕ) → value_type (first_words b n) (q + 1) ≡ got v r → value_of coroutine (type_def (first_words b n) q) ≡ make v → C) → C
    unfolding of_one
    one_inv make g k = whole_inv (type_def (first_words b n) q) x.whole λ d p j.
        then_inv (value_type (first_words b n) (q + 1)) _ (sym g ∙ j) λ v r e₁ e₂. k v r e₁ (value_got coroutine (j ∙ sym e₂))

    module _ (make : ValueType → TypeDef) (g : type_def (first_words b n) q ≡ of_one make (first_words b n) (q + 1)) where
      made_sound : ((v : ValueType) → value_faults (module_in (first_words b n)) v ≡ type_faults (module_in (first_words b n)) (make v)) → Sound value_type dyn value_faults (first_words b n) (q + 1)
      made_sound f = one_inv make g λ v r e₁ e₂. record {
        whole = got_whole e₁;
        holds = ap (value_faults (module_in (first_words b n))) (value_got dyn e₁) ∙ f v ∙ ap (type_faults (module_in (first_words b n))) (sym e₂) ∙ x.holds;
      }

      made_body : ((v : ValueType) → canon_word (module_in (first_words b n)).types v ∷ [] ≡ type_body (module_in (first_words b n)) (make v)) → one_at (first_words b n) (q + 1) ≡ body_at (first_words b n) q
      unfolding one_at body_at
      made_body f = one_inv make g λ v r e₁ e₂.
          ap (λ y. canon_word (module_in (first_words b n)).types y ∷ []) (value_got dyn e₁) ∙ f v ∙ ap (type_body (module_in (first_words b n))) (sym e₂)

    pub array_sound : w ≡ 2 → Sound value_type dyn value_faults (first_words b n) (q + 1)
    unfolding type_faults
    array_sound z = made_sound TypeDef.array (body 2 z) (λ v. refl)

    pub array_body : w ≡ 2 → one_at (first_words b n) (q + 1) ≡ body_at (first_words b n) q
    unfolding type_body
    array_body z = made_body TypeDef.array (body 2 z) (λ v. refl)

    pub cell_sound : w ≡ 4 → Sound value_type dyn value_faults (first_words b n) (q + 1)
    unfolding type_faults
    cell_sound z = made_sound cell (body 4 z) (λ v. refl)

    pub cell_body : w ≡ 4 → one_at (first_words b n) (q + 1) ≡ body_at (first_words b n) q
    unfolding type_body
    cell_body z = made_body cell (body 4 z) (λ v. refl)

    -- ── key and value ──

    two_inv : {C : Type 0} (make : ValueType → ValueType → TypeDef) → type_def (first_words b n) q ≡ of_two make (first_words b n) (q + 1)
        → ((k v : ValueType) (r : ℕ) → value_type (first_words b n) (q + 1) ≡ got k (q + 1 + 1) → value_type (first_words b n) (q + 1 + 1) ≡ got v r
        → value_of coroutine (type_def (first_words b n) q) ≡ make k v → C) → C
    unfolding of_two
    two_inv make g c = whole_inv (type_def (first_words b n) q) x.whole λ d p j.
        then_inv (value_type (first_words b n) (q + 1)) _ (sym g ∙ j) λ k r₁ e₁ g₁. then_inv (value_type (first_words b n) r₁) _ g₁ λ v r₂ e₂ g₂.
        let z : r₁ ≡ q + 1 + 1 = value_next (first_words b n) (q + 1) k r₁ e₁ in
        c k v r₂ (e₁ ∙ ap (got k) z) (ap (value_type (first_words b n)) (sym z) ∙ e₂) (value_got coroutine (j ∙ sym g₂))

    module _ (make : ValueType → ValueType → TypeDef) (g : type_def (first_words b n) q ≡ of_two make (first_words b n) (q + 1)) where
      module _ (f : (k v : ValueType) → value_faults (module_in (first_words b n)) k ++ value_faults (module_in (first_words b n)) v ≡ type_faults (module_in (first_words b n)) (make k v)) where
        clear : (k v : ValueType) → value_of coroutine (type_def (first_words b n) q) ≡ make k v
            → (value_faults (module_in (first_words b n)) k ≡ []) × (value_faults (module_in (first_words b n)) v ≡ [])
        clear k v e =
            (append_empty (value_faults (module_in (first_words b n)) k) (value_faults (module_in (first_words b n)) v)).0
            (f k v ∙ ap (type_faults (module_in (first_words b n))) (sym e) ∙ x.holds)

        key_sound : Sound value_type dyn value_faults (first_words b n) (q + 1)
        key_sound = two_inv make g λ k v r e₁ e₂ e₃. record {
          whole = got_whole e₁;
          holds = ap (value_faults (module_in (first_words b n))) (value_got dyn e₁) ∙ (clear k v e₃).0;
        }

        value_sound : Sound value_type dyn value_faults (first_words b n) (q + 1 + 1)
        value_sound = two_inv make g λ k v r e₁ e₂ e₃. record {
          whole = got_whole e₂;
          holds = ap (value_faults (module_in (first_words b n))) (value_got dyn e₂) ∙ (clear k v e₃).1;
        }

      pair_body : ((k v : ValueType) → canon_word (module_in (first_words b n)).types k ∷ canon_word (module_in (first_words b n)).types v ∷ [] ≡ type_body (module_in (first_words b n)) (make k v))
          → two_at (first_words b n) (q + 1) ≡ body_at (first_words b n) q
      unfolding two_at one_at body_at
      pair_body f = two_inv make g λ k v r e₁ e₂ e₃.
          ap₂ (λ y z. canon_word (module_in (first_words b n)).types y ∷ canon_word (module_in (first_words b n)).types z ∷ []) (value_got dyn e₁) (value_got dyn e₂)
          ∙ f k v ∙ ap (type_body (module_in (first_words b n))) (sym e₃)

    pub map_key : w ≡ 3 → Sound value_type dyn value_faults (first_words b n) (q + 1)
    unfolding type_faults
    map_key z = key_sound TypeDef.map (body 3 z) (λ k v. refl)

    pub map_value : w ≡ 3 → Sound value_type dyn value_faults (first_words b n) (q + 1 + 1)
    unfolding type_faults
    map_value z = value_sound TypeDef.map (body 3 z) (λ k v. refl)

    pub map_body : w ≡ 3 → two_at (first_words b n) (q + 1) ≡ body_at (first_words b n) q
    unfolding type_body
    map_body z = pair_body TypeDef.map (body 3 z) (λ k v. refl)

    pub iter_key : w ≡ 5 → Sound value_type dyn value_faults (first_words b n) (q + 1)
    unfolding type_faults
    iter_key z = key_sound iter (body 5 z) (λ k v. refl)

    pub iter_value : w ≡ 5 → Sound value_type dyn value_faults (first_words b n) (q + 1 + 1)
    unfolding type_faults
    iter_value z = value_sound iter (body 5 z) (λ k v. refl)

    pub iter_body : w ≡ 5 → two_at (first_words b n) (q + 1) ≡ body_at (first_words b n) q
    unfolding type_body
    iter_body z = pair_body iter (body 5 z) (λ k v. refl)

    -- ── func and coroutine ──

    pub rest_body : (w ≡ 1 → ⊥) → (w ≡ 2 → ⊥) → (w ≡ 3 → ⊥) → (w ≡ 4 → ⊥) → (w ≡ 5 → ⊥) → [] ≡ body_at (first_words b n) q
    unfolding body_at
    rest_body c₁ c₂ c₃ c₄ c₅ = nothing (module_in (first_words b n)) (value_of coroutine (type_def (first_words b n) q)) (type_kind i) c₁ c₂ c₃ c₄ c₅

-- ── what is written is what follows the kind word ──

module _ (xs ys : List ℕ) (e : xs ≡ ys) (t : List ℕ) (a : ℕ) where
  pub body_room : a + length ys ≤ length t → a + length xs ≤ length t
  body_room h = omega (arith, ap length e)

  pub body_put : {v : List ℕ} {r : ℕ} → Put t a xs v r → Put t a ys v r
  body_put {v} {r} x = put_is t a xs v r x ys e

pub nothing_put : (ys : List ℕ) → [] ≡ ys → (t : List ℕ) (a : ℕ) → Put t a ys t a
nothing_put ys e t a = put_is t a [] t a (put_none t a) ys e
