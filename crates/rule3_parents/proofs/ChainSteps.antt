-- The parents' words; the loop along a chain by them; whether a parent may be extended.
use Prim.Native.Nat.{ℕ, suc, ◌+◌, ◌-◌, ◌≤◌, ◌<◌}
use mathlib.Core.Path.{◌≡◌, refl, sym, ap, fun_ext, ◌∙◌}
use mathlib.Core.List.{List}
use mathlib.Core.Bool.{Bool, true, false}
use Rattle.std.specs.Prelude.{Option, None, Some}
use native.Mathlib.Omega.{arith}
use native.Mathlib.Numerals.{add-one}
use lib.Dec.{leb}
use lib.ListN.{length, get_or, length-map, get_or-map, get_or-eq_default}
use borrow.Author.Tests.{le-leb, lt-leb}
use Rattle.sheet.specs.Module.{Struct, TypeDef, coroutine, type_at, struct_of, is_struct}
use Rattle.parents.specs.Forest.{other, root, sub, struct_entry, entry_of, entry, entry_at, parents, walk, chain}
use Rattle.parents.specs.Parents.{field_words, short_chain}
use Rattle.parents.specs.WalkLaws.{walk_stop, walk_up}
use Rattle.rule3_parents.specs.Child.{parent_of, parent_word, extends}
use Rattle.rule3_parents.specs.ParentWords.{parent_words, parents_in, chain_in}

-- ── the declared parent ──

-- no parent: no struct, or a root
pub entry_none : {C : Type 0} (d : TypeDef) {p : ℕ} → p ≡ parent_word d → p ≡ 0 → (entry d ≡ other → C) → (entry d ≡ root → C) → C
unfolding parent_word entry
entry_none {C} d {p} k e f g = go (struct_of d) refl k
  where
    go : (s : Option Struct) → struct_of d ≡ s → p ≡ parent_of s → C
    go None z k = f (unfold entry_of in ap entry_of z)
    go (Some s) z k = g (unfold entry_of struct_entry parent_of in ap entry_of z ∙ ap struct_entry (sym k ∙ e))

-- a parent
pub entry_sub : (d : TypeDef) {p : ℕ} → p ≡ parent_word d → (p ≡ 0 → ⊥) → entry d ≡ sub (p - 1)
unfolding parent_word entry
entry_sub d {p} k e = go (struct_of d) k
  where
    go : (s : Option Struct) → p ≡ parent_of s → entry_of s ≡ sub (p - 1)
    go None k = absurd (e (unfold parent_of in k))
    go (Some s) k = unfold entry_of struct_entry parent_of in let z : s.parent+ ≡ suc (p - 1) = omega arith in ap struct_entry z

-- ── the parents' words ──

-- the word of any number: that of its type
pub word_parent : (types : List TypeDef) (x : ℕ) → get_or (parent_words types) x 0 ≡ parent_word (type_at types x)
unfolding parent_words type_at parent_word parent_of struct_of
word_parent types x = get_or-map parent_word types x coroutine

pub words_length : (types : List TypeDef) → length (parent_words types) ≡ length types
unfolding parent_words
words_length types = length-map types parent_word

-- a word tells whether there is a parent, and which
word_tells : (d : TypeDef) → parents (struct_entry (parent_word d)) ≡ parents (entry d)
unfolding parent_word entry
word_tells d = go (struct_of d)
  where
    go : (s : Option Struct) → parents (struct_entry (parent_of s)) ≡ parents (entry_of s)
    go None = unfold parent_of entry_of struct_entry parents in refl
    go (Some s) = unfold parent_of entry_of in refl

-- the chain by the words is that by the declarations
pub words_chain : (types : List TypeDef) (f t : ℕ) → chain_in (parent_words types) f t ≡ chain types f t
unfolding chain_in chain parents_in entry_at
words_chain types f t =
    ap (λ next. walk next f t) (fun_ext λ x.
    ap (λ p. parents (struct_entry p)) (word_parent types x) ∙ word_tells (type_at types x))

-- ── the loop along a chain ──

module _ (ps : List ℕ) where
  in_spent : (x : ℕ) → length (chain_in ps 0 x) ≡ 0
  unfolding chain_in walk
  in_spent x = refl

  in_none : (f x : ℕ) → get_or ps x 0 ≡ 0 → length (chain_in ps (suc f) x) ≡ 1
  unfolding chain_in parents_in struct_entry parents
  in_none f x e = ap length (walk_stop (parents_in ps) f x (ap (λ p. parents (struct_entry p)) e))

  in_more : (f x p : ℕ) → get_or ps x 0 ≡ suc p → length (chain_in ps (suc f) x) ≡ suc (length (chain_in ps f p))
  unfolding chain_in parents_in struct_entry parents
  in_more f x p e = ap length (walk_up (parents_in ps) f x p (ap (λ q. parents (struct_entry q)) e))

-- of the numbers from s - 1 up, `met` are met, and p - 1 is the next
pub record Meets (ps : List ℕ) (left s p met : ℕ) : Type 0 where
  pub number : 1 ≤ p
  pub within : met ≤ left
  pub rest : length (chain_in ps left (s - 1)) ≡ met + length (chain_in ps (left - met) (p - 1))

pub meets_start : (ps : List ℕ) (left t : ℕ) → Meets ps left (t + 1) (t + 1) 0
meets_start ps left t =
    let n : left ≡ left - 0 = omega arith in
    record { number = omega arith; within = omega arith; rest = omega (arith, ap (λ f. length (chain_in ps f (t + 1 - 1))) n) }

module _ (ps : List ℕ) (left t p met : ℕ) (c : Meets ps left (t + 1) p met) where
  pub meets_number : 1 ≤ p
  meets_number = c.number

  from_t : length (chain_in ps left t) ≡ met + length (chain_in ps (left - met) (p - 1))
  from_t = let e : t ≡ t + 1 - 1 = omega arith in ap (λ x. length (chain_in ps left x)) e ∙ c.rest

  pub meets_end : left ≤ met → met ≡ length (chain_in ps left t)
  meets_end h =
      let e : left - met ≡ 0 = omega (arith, c.within) in
      omega (arith, c.within, from_t, ap (λ f. length (chain_in ps f (p - 1))) e, in_spent ps (p - 1))

  module _ (h : met < left) where
    one_left : left - met ≡ suc (left - (met + 1))
    one_left = omega arith

    -- the last number: it has no parent
    last : get_or ps (p - 1) 0 ≡ 0 → met + 1 ≡ length (chain_in ps left t)
    last e = omega (arith, from_t, ap (λ f. length (chain_in ps f (p - 1))) one_left, in_none ps (left - (met + 1)) (p - 1) e)

    pub meets_absent : length ps < p → met + 1 ≡ length (chain_in ps left t)
    meets_absent k = let h : length ps ≤ p - 1 = omega arith in last (get_or-eq_default ps 0 h)

    module _ {q : ℕ} (g : q ≡ get_or ps (p - 1) 0) where
      pub meets_root : q ≡ 0 → met + 1 ≡ length (chain_in ps left t)
      meets_root e = last (sym g ∙ e)

      pub meets_next : (q ≡ 0 → ⊥) → Meets ps left (t + 1) q (met + 1)
      meets_next e =
          let z : get_or ps (p - 1) 0 ≡ suc (q - 1) = omega (arith, g) in
          let m = in_more ps (left - (met + 1)) (p - 1) (q - 1) z in
          record {
            number = omega arith;
            within = omega arith;
            rest = omega (arith, c.rest, ap (λ f. length (chain_in ps f (p - 1))) one_left, m);
          }

-- ── the limit ──

module _ (ps : List ℕ) (types : List TypeDef) (l : ps ≡ parent_words types) (most t : ℕ) {r : ℕ}
    (g : r ≡ length (chain_in ps (most + 1) t)) where
  chain_met : r ≡ length (chain types (suc most) t)
  chain_met =
      g ∙ ap (λ w. length (chain_in w (most + 1) t)) l
      ∙ ap length (words_chain types (most + 1) t)
      ∙ ap (λ f. length (chain types f t)) (add-one most)

  pub chain_short : r ≤ most → short_chain most types t ≡ true
  unfolding short_chain
  chain_short h = ap (λ n. leb n most) (sym chain_met) ∙ le-leb r most h

  pub chain_deep : most < r → short_chain most types t ≡ false
  unfolding short_chain
  chain_deep h = ap (λ n. leb n most) (sym chain_met) ∙ lt-leb r most h

-- ── a parent that may be extended ──

module _ (types : List TypeDef) (p t : ℕ) {r : Bool} where
  pub extends_fit : {a b : ℕ} → r ≡ true → r ≡ is_struct (type_at types p) → a ≡ length (field_words (struct_of (type_at types p))) → b ≡ length (field_words (struct_of (type_at types t))) →
      leb a b ≡ extends types p t
  unfolding extends
  extends_fit e k f g = rw (← f, ← g, ← k, e) refl

  pub extends_none : r ≡ false → r ≡ is_struct (type_at types p) → false ≡ extends types p t
  unfolding extends
  extends_none e k = rw (← k, e) refl

-- ── one over the limit ──

pub met_over : (ps : List ℕ) (t most : ℕ) {left r : ℕ} → left ≡ most + 1 → r ≡ length (chain_in ps left t) →
    r ≡ length (chain_in ps (most + 1) t)
met_over ps t most e h = h ∙ ap (λ f. length (chain_in ps f t)) e
