-- The layout as code finds it, three parts at a time.
use Rattle.std.specs.Prelude.{ℕ, List, Option, None, Some, cond, eqb}
use Rattle.reader.specs.Reader.{word, list_of}
use Rattle.reader.specs.Text.{string}
use Rattle.reader.specs.Step.{step_of}
use Rattle.sheet.specs.Decode.{type_def, const_of, import_of, global_of, function_of, hook_of, export_of}
use Rattle.open_layout.specs.declared.Layout.{Layout}

-- what comes of a step: broken, or what is made of where it ends
unfoldable pub on : Option ℕ → (ℕ → Option Layout) → Option Layout
on (Some q) k = k q
on None k = None

-- the parts end at n
unfoldable pub ended : ℕ → Layout → ℕ → Option Layout
ended n l q = cond (eqb q n) (Some l) None

abbrev pub laid : ℕ → ℕ → ℕ → ℕ → ℕ → ℕ → ℕ → ℕ → ℕ → Layout
laid n p₁ p₂ p₃ p₄ p₅ p₆ p₇ p₈ =
    record { words = n; strings = 2; types = p₁; consts = p₂; imports = p₃; globals = p₄; funcs = p₅; hooks = p₆; start = p₇; exports = p₈ }

-- hooks, start and exports, after the six parts before them
unfoldable pub last_parts : ℕ → List ℕ → ℕ → ℕ → ℕ → ℕ → ℕ → ℕ → Option Layout
last_parts n ws p₁ p₂ p₃ p₄ p₅ p₆ =
    on (step_of (list_of hook_of ws p₆)) λ p₇. on (step_of (word ws p₇)) λ p₈. on (step_of (list_of export_of ws p₈)) (ended n (laid n p₁ p₂ p₃ p₄ p₅ p₆ p₇ p₈))

-- imports, globals and functions, after the three parts before them
unfoldable pub middle_parts : ℕ → List ℕ → ℕ → ℕ → ℕ → Option Layout
middle_parts n ws p₁ p₂ p₃ =
    on (step_of (list_of import_of ws p₃)) λ p₄. on (step_of (list_of global_of ws p₄)) λ p₅. on (step_of (list_of function_of ws p₅)) (last_parts n ws p₁ p₂ p₃ p₄ p₅)

-- strings, types and constants, after the edition and N
unfoldable pub first_parts : ℕ → List ℕ → Option Layout
first_parts n ws = on (step_of (list_of string ws 2)) λ p₁. on (step_of (list_of type_def ws p₁)) λ p₂. on (step_of (list_of const_of ws p₂)) (middle_parts n ws p₁ p₂)
