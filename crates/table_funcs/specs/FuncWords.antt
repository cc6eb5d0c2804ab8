-- A function's record in the parts that code writes, and what the rules say of a function before it is written.
use Rattle.std.specs.Prelude.{ℕ, ◌≤◌, ◌≡◌, List, [], ◌∷◌, ◌++◌, map, length}
use Rattle.reader.specs.Reader.{encode_words}
use Rattle.sheet.specs.Module.{Func, Module}
use Rattle.canon.specs.Canon.{canon_string, canon_type}
use Rattle.types.specs.Types.{types_faults}
use Rattle.imports.specs.Params.{sig_params, sig_results}
use Rattle.funcs.specs.Funcs.{func_faults}
use Rattle.open_layout.specs.Opened.{module_in}
use Rattle.table.specs.Records.{canon_words, references, result_word, catch_table}
use Rattle.rule_frames.specs.declared.Frame.{Frame}
use Rattle.rule_frames.specs.Frames.{func_of, Framed}

-- signature, numbers of registers and parameters
unfoldable pub count_words : Module → Func → List ℕ
count_words m f = canon_type m.types f.sig ∷ length f.regs ∷ length (sig_params m f.sig) ∷ []

-- those, registers
unfoldable pub head_words : Module → Func → List ℕ
head_words m f = count_words m f ++ canon_words m f.regs

-- result + 1, reference registers, captures
unfoldable pub middle_words : Module → Func → List ℕ
middle_words m f = (result_word m (sig_results m f.sig) ∷ []) ++ encode_words (references f.regs) ++ canon_words m f.captures

-- names, type refs, catch table
unfoldable pub tail_words : Module → Func → List ℕ
tail_words m f = encode_words (map (canon_string m.strings) f.names) ++ encode_words (map (canon_type m.types) f.type_refs) ++ catch_table f

-- the function of a frame breaks no rule, nor does a type; a result's word + 1 is a word
pub record Sound (ws : List ℕ) (c : Frame) : Type 0 where
  pub framed : Framed ws c
  pub types : types_faults (module_in ws) ≡ []
  pub func : func_faults (module_in ws) (func_of ws c) ≡ []
  pub few : length (module_in ws).types ≤ 520192
