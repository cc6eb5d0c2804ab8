-- A function's parts, located and counted.
use Prim.Native.Nat.{ℕ, ◌+◌, ◌<◌}
use mathlib.Core.Path.{◌≡◌, ap, subst, ◌∙◌}
use mathlib.Core.List.{List}
use lib.ListN.{length, get_or}
use Rattle.blocks.specs.Blocks.{words}
use Rattle.blocks.specs.Frame.{first_words}
use Rattle.reader.specs.Value.{Whole, value_of}
use Rattle.reader.proofs.SizeLaws.{list_count}
use Rattle.error.specs.declared.FuncId.{FuncId}
use Rattle.sheet.specs.Module.{Func}
use Rattle.sheet.specs.Decode.{function_of}
use Rattle.open_layout.specs.Opened.{module_in}
use Rattle.open_sheet.specs.declared.Opened.{Opened}
use Rattle.open_sheet.specs.Ready.{Ready, pos_at}
use Rattle.open_sheet.specs.ReadyLaws.{funcs_in, entry_room, entry_whole, entry_value}
use Rattle.code.specs.Callee.{no_func, func_at}
use Rattle.rule_bodies.specs.declared.Body.{Body}
use Rattle.rule_bodies.specs.Bodies.{Placed}
use Rattle.rule_frames.specs.Frames.{func_of, Framed}

-- ── function f by its number ──

module _ (b w : List ℕ) (o : Opened) (x : Ready (first_words b o.layout.words) w o) (f : FuncId) (h : f.0 < o.counts.funcs) where
  abbrev ws : List ℕ
  ws = first_words b o.layout.words

  inside : f.0 < length (module_in ws).funcs
  inside = funcs_in ws w o x f.0 h

  pub frame_room : o.index.funcs + f.0 < length w
  frame_room = entry_room function_of ws (module_in ws).funcs w o.index.funcs x.funcs f.0 inside

  module _ {at : ℕ} (e : at ≡ pos_at w o.index.funcs f.0) where
    pub frame_whole : Whole (function_of ws at)
    frame_whole = rw e (entry_whole function_of ws (module_in ws).funcs w o.index.funcs x.funcs no_func f.0 inside)

    value : value_of no_func (function_of ws at) ≡ func_at (module_in ws) f.0
    unfolding func_at
    value = ap (λ p. value_of no_func (function_of ws p)) e ∙ entry_value function_of ws (module_in ws).funcs w o.index.funcs x.funcs no_func f.0 inside

    module _ {y : Body} (p : Placed ws (value_of no_func (function_of ws at)) y) where
      abbrev word_at : ℕ → ℕ
      word_at k = get_or (words b) k 0

      pub framed : {rs ss cs ns ts hs us is : ℕ} → rs ≡ word_at y.regs → ss ≡ word_at y.shapes → cs ≡ word_at y.captures → ns ≡ word_at y.names
          → ts ≡ word_at y.type_refs → hs ≡ word_at y.handlers → us ≡ word_at y.tables → is ≡ word_at y.code
          → Framed ws (record { func = f; body = y; regs = rs; shapes = ss; captures = cs; names = ns; type_refs = ts; handlers = hs; tables = us; code = is })
      unfolding func_of
      framed er es ec en et eh eu ei =
          let n = o.layout.words in
          let z : Placed ws (func_at (module_in ws) f.0) y = subst (λ (g : Func). Placed ws g y) value p in
          record {
            here = inside;
            placed = z;
            regs = list_count _ b n y.regs _ _ z.regs er;
            shapes = list_count _ b n y.shapes _ _ z.shapes es;
            captures = list_count _ b n y.captures _ _ z.captures ec;
            names = list_count _ b n y.names _ _ z.names en;
            type_refs = list_count _ b n y.type_refs _ _ z.type_refs et;
            handlers = list_count _ b n y.handlers _ _ z.handlers eh;
            tables = list_count _ b n y.tables _ _ z.tables eu;
            code = list_count _ b n y.code _ _ z.code ei;
          }
