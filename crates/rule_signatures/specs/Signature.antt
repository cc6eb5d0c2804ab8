-- A type that has parameters and results.
use Rattle.std.specs.Prelude.{ℕ, ◌<◌, ◌≡◌, true, length}
use Rattle.sheet.specs.Module.{Module, type_at, is_func}

-- there is a type t, and it is a func type
pub record HasSig (m : Module) (t : ℕ) : Type 0 where
  pub inside : t < length m.types
  pub func : is_func (type_at m.types t) ≡ true
