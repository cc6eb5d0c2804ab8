-- Bindings of hooks written, step by step: what is ahead gives each hook's word from the one that stands now.
use Prim.Native.Nat.{ℕ, ◌+◌, ◌-◌, ◌*◌, ◌≤◌, ◌<◌}
use mathlib.Core.Path.{◌≡◌, refl, sym, ap, ap₂, subst, ◌∙◌}
use mathlib.Core.List.{List, [], ◌∷◌, map}
use mathlib.Core.Bool.{Bool, true, false, cond}
use native.Mathlib.Omega.{arith}
use native.Mathlib.Nat.{zero-add}
use lib.Dec.{eqb}
use lib.ListN.{length, get_or, set}
use lib.Seq.{get_or-set_same, get_or-set_other}
use borrow.Author.Tests.{ltb-true, eqb-true, eqb-false}
use Rattle.lists.specs.Lists.{all_of, from}
use Rattle.lists.specs.ListLaws.{and_first, and_second, get_d_map_from}
use Rattle.blocks.specs.Blocks.{words}
use Rattle.blocks.specs.Frame.{first_words}
use Rattle.reader.specs.Reader.{got, many, list_of}
use Rattle.reader.specs.Value.{Whole, value_of}
use Rattle.reader.specs.ValueLaws.{got_whole, value_got, list_within, list_whole, list_value, many_first}
use Rattle.sheet.specs.Module.{Hook, Module}
use Rattle.sheet.specs.Decode.{hook_of}
use Rattle.open_layout.specs.Opened.{module_in}
use Rattle.region.specs.Region.{Off, Frame}
use Rattle.region.specs.RegionLaws.{frame_refl, frame_then, frame_set}
use Rattle.open_sheet.specs.declared.Opened.{Opened}
use Rattle.open_sheet.specs.Ready.{Opens}
use Rattle.writing.specs.Writing.{written}
use Rattle.writing.specs.WritingLaws.{written_length, written_by}
use Rattle.table.specs.Records.{binding_word, hook_word}
use Rattle.table.specs.Table.{hook_section}
use Rattle.table_imports.specs.Sections.{binding_fits, BindingsFit}
use Rattle.hooks.specs.HookLaws.{hook_end, hook_in, hook_number, hook_kind, hook_index, hook_known}
use Rattle.table_hooks.specs.Bound.{bound_word, BindingAt}
use Rattle.table_imports.proofs.RowSteps.{counted_all}

-- ── a binding that was read ──

module _ (b : List ℕ) (n at : ℕ) {a : Hook} {q : ℕ} (e : hook_of (first_words b n) at ≡ got a q) where
  hook_bound : bound_word b at ≡ binding_word a
  unfolding bound_word binding_word
  hook_bound = omega (arith, hook_kind b n at e, hook_index b n at e)

-- ── the loop ──

-- left bindings are ahead, from q on; v is w but for the hooks' places, and what stands there with those ahead gives each hook's word
pub record Binds (b : List ℕ) (n : ℕ) (hooks : List Hook) (w : List ℕ) (first left q : ℕ) (v : List ℕ) : Type 0 where
  pub whole : Whole (many left hook_of (first_words b n) q)
  pub fits : all_of binding_fits (value_of [] (many left hook_of (first_words b n) q)) ≡ true
  pub frame : Frame (Off first (first + 31)) w v
  pub ahead : (h : ℕ) → h < 31 → hook_word h (get_or v (first + h) 0) (value_of [] (many left hook_of (first_words b n) q)) ≡ hook_word h 0 hooks

module _ (b : List ℕ) (o : Opened) (x : Opens (first_words b o.layout.words) o) where
  abbrev ws : List ℕ
  ws = first_words b o.layout.words

  listed : Whole (list_of hook_of ws o.layout.hooks)
  listed = got_whole x.located.hooks

  pub hooks_within : o.layout.hooks < o.layout.words
  hooks_within = list_within hook_of b o.layout.words o.layout.hooks listed

  pub binds_start : (w : List ℕ) (first : ℕ) {c : ℕ} → BindingsFit (module_in ws) → ((h : ℕ) → h < 31 → get_or w (first + h) 0 ≡ 0) → c ≡ get_or (words b) o.layout.hooks 0
      → Binds b o.layout.words (module_in ws).hooks w first (c - 0) (o.layout.hooks + 1) w
  binds_start w first {c} f z e =
      let l : value_of [] (many c hook_of ws (o.layout.hooks + 1)) ≡ (module_in ws).hooks = sym (list_value hook_of b o.layout.words o.layout.hooks [] listed e) ∙ value_got [] x.located.hooks in
      let i : c ≡ c - 0 = omega arith in
      subst (λ k. Binds b o.layout.words (module_in ws).hooks w first k (o.layout.hooks + 1) w) i (record {
        whole = list_whole hook_of b o.layout.words o.layout.hooks listed e;
        fits = ap (all_of binding_fits) l ∙ f.fits;
        frame = frame_refl (Off first (first + 31)) w;
        ahead = λ h k. ap₂ (λ y bs. hook_word h y bs) (z h k) l;
      })

module _ (b : List ℕ) (n : ℕ) (hooks : List Hook) (w : List ℕ) (first left q : ℕ) (v : List ℕ) (s : Binds b n hooks w first left q v) where
  pub binds_length : length v ≡ length w
  binds_length = s.frame.len

  pub binds_room : first + 31 ≤ length w → first + 31 ≤ length v
  binds_room h = omega (arith, binds_length)

  pub binds_frame : Frame (Off first (first + 31)) w v
  binds_frame = s.frame

  pub binds_end : left ≤ 0 → (h : ℕ) → h < 31 → get_or v (first + h) 0 ≡ hook_word h 0 hooks
  binds_end l h k = go left (omega arith) (s.ahead h k)
    where
      go : (m : ℕ) → m ≡ 0 → hook_word h (get_or v (first + h) 0) (value_of [] (many m hook_of (first_words b n) q)) ≡ hook_word h 0 hooks → get_or v (first + h) 0 ≡ hook_word h 0 hooks
      go m z e = unfold many value_of hook_word in (sym (ap (λ m. hook_word h (get_or v (first + h) 0) (value_of [] (many m hook_of (first_words b n) q))) z) ∙ e)

  module _ (h : 0 < left) where
    abbrev next : {C : Type 0} → ((a : Hook) (p : ℕ) (xs : List Hook) (r : ℕ) → hook_of (first_words b n) q ≡ got a p → many (left - 1) hook_of (first_words b n) p ≡ got xs r
        → many left hook_of (first_words b n) q ≡ got (a ∷ xs) r → C) → C
    next f = many_first hook_of (first_words b n) left q s.whole h f

    fits_first : (a : Hook) (xs : List Hook) {r : ℕ} → many left hook_of (first_words b n) q ≡ got (a ∷ xs) r → binding_fits a ≡ true
    fits_first a xs e = and_first (binding_fits a) (all_of binding_fits xs) (ap (all_of binding_fits) (sym (value_got [] e)) ∙ s.fits)

    fits_rest : (a : Hook) (xs : List Hook) {r : ℕ} → many left hook_of (first_words b n) q ≡ got (a ∷ xs) r → all_of binding_fits xs ≡ true
    fits_rest a xs e = and_second (binding_fits a) (all_of binding_fits xs) (ap (all_of binding_fits) (sym (value_got [] e)) ∙ s.fits)

    small : (a : Hook) → binding_fits a ≡ true → binding_word a < 4294967296
    unfolding binding_fits
    small a e = ltb-true (binding_word a) 4294967296 e

    pub binds_at : BindingAt b n q
    binds_at = next λ a p xs r e₁ e₂ e₃. record {
      within = hook_in b n q e₁;
      hook = omega (arith, hook_number b n q e₁, hook_known b n q e₁);
      fits = omega (arith, hook_bound b n q e₁, small a (fits_first a xs e₃));
    }

    pub binds_next : (v' : List ℕ) → first + 31 ≤ length w → v' ≡ set v (first + get_or (words b) q 0) (bound_word b q) → Binds b n hooks w first (left - 1) (q + 3) v'
    binds_next v' room e = next λ a p xs r e₁ e₂ e₃.
        let m : many (left - 1) hook_of (first_words b n) (q + 3) ≡ got xs r = ap (many (left - 1) hook_of (first_words b n)) (sym (hook_end b n q e₁)) ∙ e₂ in
        let t : v' ≡ set v (first + a.hook) (binding_word a) = e ∙ ap₂ (λ i y. set v (first + i) y) (hook_number b n q e₁) (hook_bound b n q e₁) in
        let known : a.hook < 31 = hook_known b n q e₁ in
        record {
          whole = got_whole m;
          fits = ap (all_of binding_fits) (value_got [] m) ∙ fits_rest a xs e₃;
          frame = frame_then (Off first (first + 31)) (Off first (first + 31)) (Off first (first + 31)) w v v' (λ k o. o) (λ k o. o) s.frame
              (subst (Frame (Off first (first + 31)) v) (sym t) (frame_set (Off first (first + 31)) v (first + a.hook) (binding_word a) (λ f. f (omega arith) (omega arith))));
          ahead = λ k l.
              ap₂ (λ y bs. hook_word k y bs) (ap (λ u. get_or u (first + k) 0) t ∙ word k a l known (eqb a.hook k) refl) (value_got [] m)
              ∙ later k a xs
              ∙ ap (λ bs. hook_word k (get_or v (first + k) 0) bs) (sym (value_got [] e₃))
              ∙ s.ahead k l;
        }
      where
        word : (k : ℕ) (a : Hook) → k < 31 → a.hook < 31 → (c : Bool) → eqb a.hook k ≡ c → get_or (set v (first + a.hook) (binding_word a)) (first + k) 0 ≡ cond c (binding_word a) (get_or v (first + k) 0)
        word k a l g true z =
            let y : first + k ≡ first + a.hook = omega (arith, eqb-true a.hook k z) in
            ap (λ j. get_or (set v (first + a.hook) (binding_word a)) j 0) y ∙ get_or-set_same v (first + a.hook) (binding_word a) 0 (omega (arith, binds_length))
        word k a l g false z =
            let y : (first + k ≡ first + a.hook) → ⊥ = λ f. eqb-false a.hook k z (omega arith) in
            get_or-set_other v (first + a.hook) (first + k) (binding_word a) 0 y

        later : (k : ℕ) (a : Hook) (xs : List Hook) → hook_word k (cond (eqb a.hook k) (binding_word a) (get_or v (first + k) 0)) xs ≡ hook_word k (get_or v (first + k) 0) (a ∷ xs)
        later k a xs = unfold hook_word in refl

-- of count bindings one more is put
pub binds_turn : (b : List ℕ) (n : ℕ) (hooks : List Hook) (w : List ℕ) (first count i q : ℕ) (v : List ℕ) → Binds b n hooks w first (count - i) q v → i < count → (v' : List ℕ)
    → first + 31 ≤ length w → v' ≡ set v (first + get_or (words b) q 0) (bound_word b q) → Binds b n hooks w first (count - (i + 1)) (q + 3) v'
binds_turn b n hooks w first count i q v s h v' room e =
    let z : count - i - 1 ≡ count - (i + 1) = omega arith in
    subst (λ m. Binds b n hooks w first m (q + 3) v') z (binds_next b n hooks w first (count - i) q v s (omega arith) v' room e)

-- ── one binding ──

module _ (b : List ℕ) (at : ℕ) {k i : ℕ} (e : k ≡ get_or (words b) (at + 1) 0) (f : i ≡ get_or (words b) (at + 2) 0) where
  bound_is : 1 + k + 2 * i ≡ bound_word b at
  unfolding bound_word
  bound_is = omega (arith, e, f)

  pub bound_small : (n : ℕ) → BindingAt b n at → 1 + k + 2 * i < 4294967296
  bound_small n x = omega (arith, bound_is, x.fits)

  pub bound_put : (u v : List ℕ) (first : ℕ) {h : ℕ} → h ≡ get_or (words b) at 0 → v ≡ set u (first + h) (1 + k + 2 * i) → v ≡ set u (first + get_or (words b) at 0) (bound_word b at)
  bound_put u v first g x = x ∙ ap₂ (λ j y. set u (first + j) y) g bound_is

-- ── the section ──

module _ (u : List ℕ) (at : ℕ) (room : at + 32 ≤ length u) (v : List ℕ) (first : ℕ) (e : v ≡ written u at (31 ∷ [])) (k : first ≡ at + 1) where
  pub slots_room : first + 31 ≤ length v
  slots_room = omega (arith, ap length e, written_length u at (31 ∷ []) (omega arith))

  module _ (z : List ℕ) (f : Frame (Off first (first + 31)) v z) where
    pub zeros_room : first + 31 ≤ length z
    zeros_room = omega (arith, f.len, slots_room)

    pub hooks_written : (m : Module) (y : List ℕ) → Frame (Off first (first + 31)) z y → ((h : ℕ) → h < 31 → get_or y (first + h) 0 ≡ hook_word h 0 m.hooks) → y ≡ written u at (hook_section m)
    unfolding hook_section
    hooks_written m y g l =
        let hook_words = map (λ h. hook_word h 0 m.hooks) (from 0 31) in
        let width : length hook_words ≡ 31 = refl in
        counted_all u at 31 hook_words (omega (arith, room, width)) v first e k y
        (written_by v y first hook_words
        (frame_then (Off first (first + 31)) (Off first (first + 31)) (Off first (first + 31)) v z y (λ i o. o) (λ i o. o) f g)
        (λ i h. l i h ∙ sym (get_d_map_from (λ h. hook_word h 0 m.hooks) 0 0 31 i h ∙ ap (λ h. hook_word h 0 m.hooks) (zero-add i)))
        slots_room)
