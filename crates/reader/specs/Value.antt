-- What was read, for code that runs once the layout is known whole.
use Rattle.reader.specs.Reader.{Got, broken, got}

-- something was read
unfoldable pub Whole : {A : Type 0} → Got A → Type 0
Whole broken = ⊥
Whole (got a q) = Unit {0}

-- the value that was read, or d
unfoldable pub value_of : {A : Type 0} → A → Got A → A
value_of d broken = d
value_of d (got a q) = a
