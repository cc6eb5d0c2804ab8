-- Parts of the records of types by position.
use Rattle.std.specs.Prelude.{ℕ, ◌+◌, List, [], ◌∷◌, ◌++◌}
use Rattle.reader.specs.Value.{value_of}
use Rattle.sheet.specs.Module.{dyn, coroutine}
use Rattle.sheet.specs.Decode.{value_type, type_def}
use Rattle.canon.specs.Canon.{canon_word}
use Rattle.open_layout.specs.Opened.{module_in}
use Rattle.table.specs.Records.{type_body}

-- the canonical word of the value type at a position
unfoldable pub one_at : List ℕ → ℕ → List ℕ
one_at ws at = canon_word (module_in ws).types (value_of dyn (value_type ws at)) ∷ []

-- and of two in a row
unfoldable pub two_at : List ℕ → ℕ → List ℕ
two_at ws at = one_at ws at ++ one_at ws (at + 1)

-- what follows the kind word of the type at a position
unfoldable pub body_at : List ℕ → ℕ → List ℕ
body_at ws at = type_body (module_in ws) (value_of coroutine (type_def ws at))
