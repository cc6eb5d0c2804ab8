-- Captures counted, function by function.
use Prim.Native.Nat.{ℕ, ◌+◌, ◌*◌, ◌≤◌, ◌<◌}
use mathlib.Core.Path.{◌≡◌, refl, ap, ◌∙◌}
use mathlib.Core.List.{List}
use native.Mathlib.Omega.{arith}
use lib.ListN.{length, get_or, set}
use Rattle.blocks.specs.Blocks.{words}
use Rattle.blocks.specs.Frame.{first_words}
use Rattle.reader.specs.Reader.{word, list_of}
use Rattle.reader.specs.Step.{step_of}
use Rattle.reader.specs.Value.{Whole, value_of}
use Rattle.reader.proofs.SizeLaws.{list_count}
use Rattle.sheet.specs.Module.{Func}
use Rattle.sheet.specs.Decode.{value_type, handler_of, switch_of, function_of}
use Rattle.open_layout.specs.Opened.{module_in}
use Rattle.std.specs.Option.{unwrap_or}
use Rattle.region.specs.Region.{Off, Frame, word_at}
use Rattle.region.specs.RegionLaws.{frame_refl, fill_more}
use Rattle.open_sheet.specs.declared.Opened.{Opened}
use Rattle.open_sheet.specs.Ready.{Entries, pos_at}
use Rattle.open_sheet.specs.ReadyLaws.{count_funcs, entry_room, entry_whole, entry_value, entries_kept}
use Rattle.code.specs.Callee.{no_func, func_at}
use Rattle.rule_bodies.specs.declared.Front.{Front}
use Rattle.rule_bodies.specs.declared.Back.{Back}
use Rattle.rule_bodies.specs.Bodies.{Fronts, Backs, Countable}
use Rattle.rule_bodies.proofs.BodySteps.{placed_body}

-- ── one function ──

-- the parts after the names, wherever they stand
back_at : (ws : List ℕ) (names : ℕ) {C : Type 0} → ((y : Back) → Backs ws names y → C) → C
back_at ws names k =
    let p₁ = unwrap_or (step_of (list_of word ws names)) 0 in
    let p₂ = unwrap_or (step_of (list_of word ws p₁)) 0 in
    let p₃ = unwrap_or (step_of (list_of handler_of ws p₂)) 0 in
    let p₄ = unwrap_or (step_of (list_of switch_of ws p₃)) 0 in
    k (record { type_refs = p₁; handlers = p₂; tables = p₃; code = p₄ }) (record { type_refs = refl; handlers = refl; tables = refl; code = refl })

pub captures_counted : (b : List ℕ) (n at : ℕ) {x : Front} {r : ℕ} → Whole (function_of (first_words b n) at) → Fronts (first_words b n) at x → r ≡ get_or (words b) x.captures 0 →
    r ≡ length (value_of no_func (function_of (first_words b n) at)).captures
captures_counted b n at {x} h u e =
    back_at (first_words b n) x.names λ y v.
    list_count value_type b n x.captures (value_of no_func (function_of (first_words b n) at)).captures x.names (placed_body b n at {y = y} h u v refl).captures e

-- ── the loop ──

-- those before function f are written
pub record Counted (ws w₀ w : List ℕ) (o : Opened) (f : ℕ) : Type 0 where
  pub frame : Frame (Off (4 * o.layout.words) (4 * o.layout.words + o.counts.funcs)) w₀ w
  pub done : (p : ℕ) → p < f → word_at w (4 * o.layout.words) p ≡ length (func_at (module_in ws) p).captures

module _ (ws w₀ : List ℕ) (o : Opened) where
  pub counted_start : Counted ws w₀ w₀ o 0
  counted_start = record { frame = frame_refl (Off (4 * o.layout.words) (4 * o.layout.words + o.counts.funcs)) w₀; done = λ p h. absurd (omega arith) }

  module _ (x : Countable ws w₀ o) (w : List ℕ) (f : ℕ) (s : Counted ws w₀ w o f) where
    entries : Entries function_of ws (module_in ws).funcs w o.index.funcs
    entries = entries_kept function_of ws (module_in ws).funcs w₀ o.index.funcs x.funcs (Off (4 * o.layout.words) (4 * o.layout.words + o.counts.funcs)) w s.frame
        λ i h a b. let z : i ≤ length (module_in ws).funcs = h in omega (arith, x.edges)

    module _ (h : f < o.counts.funcs) where
      below : f < length (module_in ws).funcs
      below = omega (arith, count_funcs ws o x.opens)

      pub counted_room : o.index.funcs + f < length w
      counted_room = entry_room function_of ws (module_in ws).funcs w o.index.funcs entries f below

      pub counted_place : 4 * o.layout.words + f < length w
      counted_place = omega (arith, below, x.edges, x.room, s.frame.len)

      module _ {at : ℕ} (e : at ≡ pos_at w o.index.funcs f) where
        pub counted_whole : Whole (function_of ws at)
        counted_whole = rw e (entry_whole function_of ws (module_in ws).funcs w o.index.funcs entries no_func f below)

        pub counted_next : {c : ℕ} → c ≡ length (value_of no_func (function_of ws at)).captures → Counted ws w₀ (set w (4 * o.layout.words + f) c) o (f + 1)
        unfolding func_at
        counted_next {c} k =
            let v : value_of no_func (function_of ws at) ≡ func_at (module_in ws) f = ap (λ p. value_of no_func (function_of ws p)) e ∙ entry_value function_of ws (module_in ws).funcs w o.index.funcs entries no_func f below in
            let z : c ≡ length (func_at (module_in ws) f).captures = k ∙ ap (λ (g : Func). length g.captures) v in
            let t = fill_more (λ p. length (func_at (module_in ws) p).captures) w₀ w (set w (4 * o.layout.words + f) c) (4 * o.layout.words) o.counts.funcs f
            (omega (arith, count_funcs ws o x.opens, x.edges, x.room)) h s.frame s.done (ap (set w (4 * o.layout.words + f)) z) in
            record { frame = t.0; done = t.1 }

  pub counted_end : (w : List ℕ) (f : ℕ) → Counted ws w₀ w o f → o.counts.funcs ≤ f →
      (p : ℕ) → p < o.counts.funcs → word_at w (4 * o.layout.words) p ≡ length (func_at (module_in ws) p).captures
  counted_end w f s h p k = s.done p (omega arith)
