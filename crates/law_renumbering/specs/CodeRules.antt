-- Rule 7 under a renumbering. A rule that looks at a function, an import or a type ref looks at one that is known, since the fields come first.
use Rattle.std.specs.Prelude.{◌≡◌, Bool, cond, ◌&&◌, ◌||◌, List, [], ◌++◌, ◌∷◌, ℕ, ◌+◌, ◌-◌, ◌<◌, zero, suc, get_or}
use Rattle.std.proofs.Math.Path.{refl, sym, ap, ap₂}
use Rattle.std.proofs.Common.{◌∙◌}
use Rattle.std.proofs.Math.Bool.{not}
use Rattle.std.proofs.Math.Dec.{eqb, leb, ltb}
use Rattle.std.proofs.Math.ListN.{length, length-map, get_or-map}
use Rattle.lists.specs.Lists.{any_of}
use Rattle.lists.specs.ListLaws.{map_at}
use Rattle.law_faults.specs.Empty.{append_empty, range_empty}
use Rattle.law_faults.specs.Together.{Together, ◌⊕◌, same_together, both_empty, together_then, together_map, together_unless, together_range, together_each_from, together_all, together_all_from}
use Rattle.error.specs.declared.What.{What}
use Rattle.error.specs.declared.What.TheVariants.{Functions, Registers, Imports, Globals, TypeRefs, Captures}
use Rattle.error.specs.declared.LoadErrorKind.TheVariants.{CalleeHasCaptures, PromoteNotDynamic, WrongTypeKind, InvalidHandler, CatchNotDyn, OutOfRange}
use Rattle.error.specs.Answer.{in_function, at_position, in_range, type_kind_word}
use Rattle.sheet.specs.Module.{basic, is_dyn, kind_word, Import, Handler, Switch, Inst, Func, Module, type_at, opcode, slot_a, slot_b, slot_c, slot_d, slot_w}
use Rattle.sheet.specs.Editions.{may_leave_out}
use Rattle.imports.specs.Params.{sig_params}
use Rattle.code.specs.declared.FieldKind.{FieldKind}
use Rattle.code.specs.Callee.{no_func, no_import, func_at, import_at, no_captures}
use Rattle.code.specs.Opcodes.{Rule, free, no_promote, promote_to_dyn, tail_call, tail_call_indirect, call, call_indirect, call_import, call_shape, make_closure, of_kind, concatenate, not_to_ref, catchable, wide_bits, Row, rows, row, step}
use Rattle.code.specs.Code.{is_dyn_register, good_handler, handler_faults, table_faults, covers, field_faults, fields_faults}
use Rattle.code.specs.Code.{window_faults, arity_faults, direct_faults, mandatory, fewest_arguments, import_call_faults}
use Rattle.code.specs.Code.{promote, has_kind, rule_faults, inst_faults, placed_faults, last_position, last_faults, code_faults, codes_faults}
use Rattle.renumber.specs.Renumber.{image, value_image, func_image, import_image, types_image, renumber}
use Rattle.law_renumbering.specs.Bijection.{Listed}
use Rattle.law_renumbering.specs.Images.{dyn_image, kind_image}
use Rattle.law_renumbering.specs.Setting.{moved, params_count}
use Rattle.law_renumbering.specs.TypeRules.{function_range}

-- ── the rows: which slot holds what a rule looks at ──

Tied : Rule → FieldKind → FieldKind → Type 0
Tied free b w = Unit {0}
Tied no_promote b w = Unit {0}
Tied promote_to_dyn b w = Unit {0}
Tied tail_call b w = w ≡ FieldKind.Func
Tied tail_call_indirect b w = Unit {0}
Tied call b w = w ≡ FieldKind.Func
Tied call_indirect b w = Unit {0}
Tied call_import b w = w ≡ FieldKind.Import
Tied call_shape b w = Unit {0}
Tied make_closure b w = w ≡ FieldKind.Func
Tied (of_kind k) b w = b ≡ FieldKind.TypeRef
Tied concatenate b w = Unit {0}
Tied Rule.slice b w = Unit {0}
Tied not_to_ref b w = Unit {0}
Tied catchable b w = Unit {0}
Tied wide_bits b w = Unit {0}

TiedRow : Row → Type 0
TiedRow r = Tied r.rule r.B r.W

infixr 20 ◌⊗◌
◌⊗◌ : {A B : Type 0} → A → B → A × B
a ⊗ b = (a, b)

-- P holds of every member
Every : {A : Type 0} → (A → Type 0) → List A → Type 0
Every P [] = Unit {0}
Every P (x ∷ xs) = P x × Every P xs

every_at : {A : Type 0} (P : A → Type 0) (d : A) → P d → (xs : List A) → Every P xs → (i : ℕ) → P (get_or xs i d)
unfolding Every
every_at P d h [] e i = h
every_at P d h (x ∷ xs) e zero = e.0
every_at P d h (x ∷ xs) e (suc i) = every_at P d h xs e.1 i

all_tied : Every TiedRow rows
unfolding TiedRow Tied Every
all_tied = tt ⊗ tt ⊗ tt ⊗ tt ⊗ tt ⊗ tt ⊗ tt ⊗ refl ⊗ tt ⊗ tt ⊗ tt ⊗ tt ⊗ tt ⊗ tt ⊗ tt ⊗ refl ⊗ tt ⊗ tt ⊗ tt ⊗ tt ⊗ refl ⊗ refl ⊗ refl ⊗ tt ⊗ refl ⊗ refl ⊗ refl ⊗ refl ⊗ tt ⊗ tt ⊗ tt ⊗ tt ⊗ tt ⊗ tt ⊗ tt ⊗ tt

row_tied : (code : ℕ) → TiedRow (row code)
unfolding TiedRow Tied row
row_tied code = every_at TiedRow (step FieldKind.Unused FieldKind.Unused FieldKind.Unused FieldKind.Unused free) tt rows all_tied code

-- ── registers ──

module _ (π : ℕ → ℕ) (f : Func) where
  regs_count : length (func_image π f).regs ≡ length f.regs
  unfolding func_image
  regs_count = length-map f.regs (value_image π)

  dyn_register : (i : ℕ) → is_dyn_register f i ≡ is_dyn_register (func_image π f) i
  unfolding is_dyn_register func_image value_image
  dyn_register i = sym (ap is_dyn (get_or-map (value_image π) f.regs i (basic 0)) ∙ dyn_image π (get_or f.regs i (basic 0)))

  good_handler_lem : (h : Handler) → good_handler f h ≡ good_handler (func_image π f) h
  unfolding good_handler func_image
  good_handler_lem h =
      ap (λ (k : ℕ). ltb h.start h.end && leb h.end (length f.code) && ltb h.target (length f.code) && ltb h.catch k) (sym regs_count)

  handler_together : (h : Handler) → Together (handler_faults f h) (handler_faults (func_image π f) h)
  unfolding handler_faults
  handler_together h = together_unless InvalidHandler InvalidHandler (good_handler_lem h) ⊕ together_unless CatchNotDyn CatchNotDyn (dyn_register h.catch)

  table_together : (s : Switch) → Together (table_faults f s) (table_faults (func_image π f) s)
  unfolding table_faults func_image
  table_together s = same_together refl

  window_together : (i n k : ℕ) → n ≡ k → Together (window_faults f i n) (window_faults (func_image π f) i k)
  unfolding window_faults
  window_together i n k e = together_unless (OutOfRange Registers (i + n - 1)) (OutOfRange Registers (i + k - 1))
      (ap₂ (λ (a b : ℕ). leb (i + a) b) e (sym regs_count))

  last_together : (n : ℕ) → Together (last_faults n f) (last_faults n (func_image π f))
  unfolding last_faults last_position func_image
  last_together n = same_together refl

arity_together : (a b c d n : ℕ) → a ≡ c → b ≡ d → Together (arity_faults a b n) (arity_faults c d n)
arity_together a b c d n e f = same_together (ap₂ (λ (i k : ℕ). arity_faults i k n) e f)

module _ (r : List ℕ) (m : Module) (l : Listed (length m.types) r) where
  -- ── callees ──

  pub func_known : (g : ℕ) → g < length m.funcs → func_at (renumber r m) g ≡ func_image (image r) (func_at m g)
  unfolding func_at renumber
  func_known g h = map_at (func_image (image r)) no_func no_func m.funcs g h

  pub import_known : (g : ℕ) → g < length m.imports → import_at (renumber r m) g ≡ import_image (image r) (import_at m g)
  unfolding import_at renumber
  import_known g h = map_at (import_image (image r)) no_import no_import m.imports g h

  pub func_params : (g : ℕ) → g < length m.funcs → length (sig_params m (func_at m g).sig) ≡ length (sig_params (renumber r m) (func_at (renumber r m) g).sig)
  unfolding func_image
  func_params g h = sym (ap (λ (f : Func). length (sig_params (renumber r m) f.sig)) (func_known g h) ∙ params_count r m l (func_at m g).sig)

  pub import_params : (g : ℕ) → g < length m.imports → length (sig_params m (import_at m g).sig) ≡ length (sig_params (renumber r m) (import_at (renumber r m) g).sig)
  unfolding import_image
  import_params g h = sym (ap (λ (i : Import). length (sig_params (renumber r m) i.sig)) (import_known g h) ∙ params_count r m l (import_at m g).sig)

  -- lists are as they were
  import_fewest : (g : ℕ) → g < length m.imports →
      fewest_arguments m (import_at m g) ≡ fewest_arguments (renumber r m) (import_at (renumber r m) g)
  unfolding fewest_arguments import_image renumber
  import_fewest g h =
      let lists : (import_at m g).params ≡ (import_at (renumber r m) g).params = sym (ap (λ (i : Import). i.params) (import_known g h)) in
      let both = ap₂ mandatory lists (import_params g h) in
      ap₂ (cond (may_leave_out m.edition)) both (import_params g h)

  captures_count : (g : ℕ) → g < length m.funcs → length (func_at m g).captures ≡ length (func_at (renumber r m) g).captures
  unfolding func_image
  captures_count g h = sym (ap (λ (f : Func). length f.captures) (func_known g h) ∙ length-map (func_at m g).captures (value_image (image r)))

  pub no_captures_lem : (g : ℕ) → g < length m.funcs → no_captures (func_at m g) ≡ no_captures (func_at (renumber r m) g)
  unfolding no_captures
  no_captures_lem g h = ap (λ (k : ℕ). eqb k 0) (captures_count g h)

  -- ── fields ──

  module _ (f : Func) where
    count_range : (w : What) (n k i : ℕ) → n ≡ k → Together (in_range w n i) (in_range w k i)
    count_range w n k i e = together_range w n i k i (ap (ltb i) e)

    field_together : (k : FieldKind) (i : ℕ) → Together (field_faults m f k i) (field_faults (renumber r m) (func_image (image r) f) k i)
    unfolding field_faults func_image renumber
    field_together FieldKind.Unused i = both_empty refl refl
    field_together FieldKind.Reg i = count_range Registers _ _ i (sym (length-map f.regs (value_image (image r))))
    field_together FieldKind.Target i = same_together refl
    field_together FieldKind.Const i = same_together refl
    field_together FieldKind.Func i = function_range r m l i
    field_together FieldKind.Import i = count_range Imports _ _ i (sym (length-map m.imports (import_image (image r))))
    field_together FieldKind.Global i = count_range Globals _ _ i (sym (length-map m.globals _))
    field_together FieldKind.Table i = same_together refl
    field_together FieldKind.Name i = same_together refl
    field_together FieldKind.TypeRef i = count_range TypeRefs _ _ i (sym (length-map f.type_refs (image r)))
    field_together FieldKind.Upval i = count_range Captures _ _ i (sym (length-map f.captures (value_image (image r))))
    field_together FieldKind.Shape i = same_together refl

    fields_together : (w : Row) (i : Inst) → Together (fields_faults m f w i) (fields_faults (renumber r m) (func_image (image r) f) w i)
    unfolding fields_faults
    fields_together w i = field_together w.A (slot_a i) ⊕ field_together w.B (slot_b i) ⊕ field_together w.W (slot_w i) ⊕ field_together w.C (slot_c i)

    -- what slots B and W name is in range
    fields_kept : (w : Row) (i : Inst) → fields_faults m f w i ≡ [] → (field_faults m f w.B (slot_b i) ≡ []) × (field_faults m f w.W (slot_w i) ≡ [])
    unfolding fields_faults
    fields_kept w i e =
        let a = field_faults m f w.A (slot_a i) in
        let b = field_faults m f w.B (slot_b i) in
        let c = field_faults m f w.W (slot_w i) in
        let h = (append_empty (a ++ b ++ c) (field_faults m f w.C (slot_c i))).0 e in
        let k = (append_empty (a ++ b) c).0 h.0 in
        (((append_empty a b).0 k.0).1, k.1)

    func_range : (w : FieldKind) (g : ℕ) → w ≡ FieldKind.Func → field_faults m f w g ≡ [] → g < length m.funcs
    unfolding field_faults
    func_range w g q e = (range_empty Functions (length m.funcs) g).0 (sym (ap (λ (k : FieldKind). field_faults m f k g) q) ∙ e)

    import_range : (w : FieldKind) (g : ℕ) → w ≡ FieldKind.Import → field_faults m f w g ≡ [] → g < length m.imports
    unfolding field_faults
    import_range w g q e = (range_empty Imports (length m.imports) g).0 (sym (ap (λ (k : FieldKind). field_faults m f k g) q) ∙ e)

    ref_range : (w : FieldKind) (g : ℕ) → w ≡ FieldKind.TypeRef → field_faults m f w g ≡ [] → g < length f.type_refs
    unfolding field_faults
    ref_range w g q e = (range_empty TypeRefs (length f.type_refs) g).0 (sym (ap (λ (k : FieldKind). field_faults m f k g) q) ∙ e)

    -- ── each instruction ──

    direct_together : (g first n : ℕ) → g < length m.funcs → Together (direct_faults m f g first n) (direct_faults (renumber r m) (func_image (image r) f) g first n)
    unfolding direct_faults
    direct_together g first n h =
        window_together (image r) f first n n refl
        ⊕ arity_together _ _ _ _ n (func_params g h) (func_params g h)
        ⊕ together_unless CalleeHasCaptures CalleeHasCaptures (no_captures_lem g h)

    import_together : (j first n : ℕ) → j < length m.imports →
        Together (import_call_faults m f j first n) (import_call_faults (renumber r m) (func_image (image r) f) j first n)
    unfolding import_call_faults
    import_together j first n h =
        window_together (image r) f first n n refl ⊕ arity_together _ _ _ _ n (import_fewest j h) (import_params j h)

    kind_ref : (i : ℕ) → i < length f.type_refs →
        kind_word (type_at m.types (get_or f.type_refs i 0)) ≡ kind_word (type_at (renumber r m).types (get_or (func_image (image r) f).type_refs i 0))
    unfolding func_image renumber
    kind_ref i h = sym (
        ap (λ (t : ℕ). kind_word (type_at (types_image r m.types) t)) (map_at (image r) 0 0 f.type_refs i h)
        ∙ ap kind_word ((moved r m l).at (get_or f.type_refs i 0))
        ∙ kind_image (image r) (type_at m.types (get_or f.type_refs i 0)))

    shape_window : (i : Inst) → Together (window_faults f (slot_a i + 1) (length (get_or f.shapes (slot_b i) [])))
        (window_faults (func_image (image r) f) (slot_a i + 1) (length (get_or (func_image (image r) f).shapes (slot_b i) [])))
    unfolding func_image
    shape_window i = window_together (image r) f (slot_a i + 1) (length (get_or f.shapes (slot_b i) [])) (length (get_or f.shapes (slot_b i) [])) refl

    rule_together : (c : Bool) (i : Inst) (u : Rule) (b w : FieldKind) → Tied u b w →
        field_faults m f b (slot_b i) ≡ [] → field_faults m f w (slot_w i) ≡ [] →
        Together (rule_faults m f c i u) (rule_faults (renumber r m) (func_image (image r) f) c i u)
    unfolding rule_faults Tied has_kind
    rule_together c i free b w q x y = both_empty refl refl
    rule_together c i no_promote b w q x y = same_together refl
    rule_together c i promote_to_dyn b w q x y =
        together_unless PromoteNotDynamic PromoteNotDynamic (ap (λ (d : Bool). not (eqb (slot_d i) promote) || d) (dyn_register (image r) f (slot_a i)))
    rule_together c i tail_call b w q x y = direct_together (slot_w i) (slot_a i) (slot_d i) (func_range w (slot_w i) q y) ⊕ same_together refl
    rule_together c i tail_call_indirect b w q x y = window_together (image r) f (slot_a i) (slot_d i) (slot_d i) refl ⊕ same_together refl
    rule_together c i call b w q x y = direct_together (slot_w i) (slot_a i + 1) (slot_d i) (func_range w (slot_w i) q y)
    rule_together c i call_indirect b w q x y = window_together (image r) f (slot_a i + 1) (slot_d i) (slot_d i) refl
    rule_together c i call_import b w q x y = import_together (slot_w i) (slot_a i + 1) (slot_d i) (import_range w (slot_w i) q y)
    rule_together c i call_shape b w q x y = shape_window i
    rule_together c i make_closure b w q x y =
        window_together (image r) f (slot_a i + 1) (length (func_at m (slot_w i)).captures) (length (func_at (renumber r m) (slot_w i)).captures)
        (captures_count (slot_w i) (func_range w (slot_w i) q y))
    rule_together c i (of_kind k) b w q x y =
        together_unless (WrongTypeKind k) (WrongTypeKind k) (ap (λ (n : ℕ). eqb n (type_kind_word k)) (kind_ref (slot_b i) (ref_range b (slot_b i) q x)))
    rule_together c i concatenate b w q x y = window_together (image r) f (slot_b i) (slot_d i) (slot_d i) refl
    rule_together c i Rule.slice b w q x y = window_together (image r) f (slot_c i) 2 2 refl
    rule_together c i not_to_ref b w q x y = same_together refl
    rule_together c i catchable b w q x y = same_together refl
    rule_together c i wide_bits b w q x y = same_together refl

    inst_together : (pc : ℕ) (i : Inst) → Together (inst_faults m f pc i) (inst_faults (renumber r m) (func_image (image r) f) pc i)
    unfolding inst_faults TiedRow func_image
    inst_together pc i = together_then (fields_together (row (opcode i)) i) (λ e.
        let k = fields_kept (row (opcode i)) i e in
        rule_together (any_of (covers pc) f.handlers) i (row (opcode i)).rule (row (opcode i)).B (row (opcode i)).W (row_tied (opcode i)) k.0 k.1)

    code_together : (n : ℕ) → Together (code_faults m n f) (code_faults (renumber r m) n (func_image (image r) f))
    unfolding code_faults placed_faults func_image
    code_together n =
        last_together (image r) f n
        ⊕ together_map (in_function n) (in_function n) (together_all (handler_faults f) (handler_faults (func_image (image r) f)) (handler_together (image r) f) f.handlers)
        ⊕ together_map (in_function n) (in_function n) (together_all (table_faults f) (table_faults (func_image (image r) f)) (table_together (image r) f) f.tables)
        ⊕ together_all_from (placed_faults m n f) (placed_faults (renumber r m) n (func_image (image r) f))
        (λ pc i. together_map (at_position n pc) (at_position n pc) (inst_together pc i)) 0 f.code

  pub codes_together : Together (codes_faults m) (codes_faults (renumber r m))
  unfolding codes_faults renumber
  codes_together = together_each_from (func_image (image r)) (code_faults m) (code_faults (renumber r m)) (λ n f. code_together f n) 0 m.funcs
