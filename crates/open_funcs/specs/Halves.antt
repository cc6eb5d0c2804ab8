-- A function's record in two halves, as code skips it: its frame, and its code.
use Rattle.std.specs.Prelude.{List, ℕ}
use Rattle.reader.specs.Reader.{Reader, ◌>>=◌, pure, word, list_of}
use Rattle.sheet.specs.Module.{Inst}
use Rattle.sheet.specs.Decode.{value_type, param_list, arg_of, handler_of, switch_of, inst_of}

-- signature, registers, parameter list, call shapes, captures
unfoldable pub frame_half : Reader ℕ
frame_half = do
  s ← word
  rs ← list_of value_type
  ps ← param_list
  ss ← list_of (list_of arg_of)
  cs ← list_of value_type
  pure s

-- jump tables, code
unfoldable pub body_of : Reader (List Inst)
body_of = do
  ws ← list_of switch_of
  is ← list_of inst_of
  pure is

-- names, type refs, handlers, jump tables, code
unfoldable pub code_half : Reader (List Inst)
code_half = do
  ns ← list_of word
  ts ← list_of word
  hs ← list_of handler_of
  body_of
