-- Where the nine parts of a sheet stand: a list's position is that of its count.
use Rattle.std.specs.Prelude.{ℕ, List, length}
use Rattle.std.specs.Prelude.{Option}
use Rattle.blocks.specs.Blocks.{framed}
use Rattle.reader.specs.Reader.{got, Reader, and_then, ◌>>=◌, pure, word, list_of, content}
use Rattle.reader.specs.Text.{string}
use Rattle.sheet.specs.Editions.{newest_edition}
use Rattle.sheet.specs.Decode.{type_def, const_of, import_of, global_of, function_of, hook_of, export_of}
use Rattle.open_layout.specs.declared.Layout.{Layout}

-- how many words there are
unfoldable pub size : Reader ℕ
size ws p = got (length ws) p

-- where a value stands
unfoldable pub pos_of : {A : Type 0} → Reader A → Reader ℕ
pos_of f ws p = and_then (f ws p) (λ a q. got p q)

unfoldable pub layout_of : Reader Layout
layout_of = do
  n ← size
  ss ← pos_of (list_of string)
  ts ← pos_of (list_of type_def)
  cs ← pos_of (list_of const_of)
  is ← pos_of (list_of import_of)
  gs ← pos_of (list_of global_of)
  fs ← pos_of (list_of function_of)
  hs ← pos_of (list_of hook_of)
  st ← pos_of word
  es ← pos_of (list_of export_of)
  pure
      (record { words = n; strings = ss; types = ts; consts = cs; imports = is; globals = gs; funcs = fs; hooks = hs; start = st; exports = es })

-- none where the layout is broken
unfoldable pub layout : List ℕ → Option Layout
layout bytes = content layout_of (framed newest_edition bytes)
