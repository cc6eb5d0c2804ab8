-- Where the ten parts of a function stand.
use Rattle.std.specs.Prelude.{ℕ, ◌+◌, ◌*◌, ◌≤◌, ◌<◌, ◌≡◌, List, length}
use Rattle.std.specs.Option.{unwrap_or}
use Rattle.reader.specs.Reader.{got, word, list_of}
use Rattle.reader.specs.Step.{step_of}
use Rattle.sheet.specs.Module.{Func}
use Rattle.sheet.specs.Decode.{value_type, param_list, arg_of, handler_of, switch_of, inst_of, function_of}
use Rattle.open_layout.specs.Opened.{module_in}
use Rattle.open_sheet.specs.declared.Opened.{Opened}
use Rattle.open_sheet.specs.Ready.{Opens, Entries}
use Rattle.rule_bodies.specs.declared.Body.{Body}
use Rattle.rule_bodies.specs.declared.Front.{Front}
use Rattle.rule_bodies.specs.declared.Back.{Back}

-- each part of f stands between its position and the next part's; the code ends at `end`
pub record Placed (ws : List ℕ) (f : Func) (r : Body) : Type 0 where
  pub sig : r.sig.0 ≡ f.sig
  pub regs : list_of value_type ws r.regs ≡ got f.regs r.params
  pub params : param_list ws r.params ≡ got f.params r.shapes
  pub shapes : list_of (list_of arg_of) ws r.shapes ≡ got f.shapes r.captures
  pub captures : list_of value_type ws r.captures ≡ got f.captures r.names
  pub names : list_of word ws r.names ≡ got f.names r.type_refs
  pub type_refs : list_of word ws r.type_refs ≡ got f.type_refs r.handlers
  pub handlers : list_of handler_of ws r.handlers ≡ got f.handlers r.tables
  pub tables : list_of switch_of ws r.tables ≡ got f.tables r.code
  pub end : ℕ
  pub code : list_of inst_of ws r.code ≡ got f.code end

-- ── as code finds them, four at a time ──

-- each part of a function at `at` begins where the one before it ends
pub record Fronts (ws : List ℕ) (at : ℕ) (r : Front) : Type 0 where
  pub params : r.params ≡ unwrap_or (step_of (list_of value_type ws (at + 1))) 0
  pub shapes : r.shapes ≡ unwrap_or (step_of (param_list ws r.params)) 0
  pub captures : r.captures ≡ unwrap_or (step_of (list_of (list_of arg_of) ws r.shapes)) 0
  pub names : r.names ≡ unwrap_or (step_of (list_of value_type ws r.captures)) 0

pub record Backs (ws : List ℕ) (names : ℕ) (r : Back) : Type 0 where
  pub type_refs : r.type_refs ≡ unwrap_or (step_of (list_of word ws names)) 0
  pub handlers : r.handlers ≡ unwrap_or (step_of (list_of word ws r.type_refs)) 0
  pub tables : r.tables ≡ unwrap_or (step_of (list_of handler_of ws r.handlers)) 0
  pub code : r.code ≡ unwrap_or (step_of (list_of switch_of ws r.tables)) 0

-- ── functions by number ──

-- there is room for the captures' counts, and the functions' edges stand below them
pub record Countable (ws w : List ℕ) (o : Opened) : Type 0 where
  pub opens : Opens ws o
  pub room : 64 + 8 * o.layout.words ≤ length w
  pub funcs : Entries function_of ws (module_in ws).funcs w o.index.funcs
  pub edges : o.index.funcs + length (module_in ws).funcs < 4 * o.layout.words
