-- The six numbers of an answer, as code holds them.
use Rattle.std.specs.Prelude.{ℕ, List, [], ◌∷◌}
use Rattle.error.specs.declared.numbers.SixNumbers.{SixNumbers}

unfoldable pub six_of : SixNumbers → List ℕ
six_of n = n.kind ∷ n.word ∷ n.number ∷ n.second ∷ n.func ∷ n.pc ∷ []
