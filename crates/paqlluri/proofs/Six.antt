-- The six words that are stored are those of the answer.
use mathlib.Core.Path.{◌≡◌, ◌∙◌, ap}
use mathlib.Core.List.{[], ◌∷◌}
use Rattle.error.specs.Answer.{Loaded}
use Rattle.error.specs.declared.numbers.SixNumbers.{SixNumbers}
use Rattle.error.specs.Answer.{numbers}
use Rattle.error.specs.Numbers.{six_of}

pub six : {n : SixNumbers} {a b : Loaded} → six_of n ≡ numbers a → a ≡ b → n.kind ∷ n.word ∷ n.number ∷ n.second ∷ n.func ∷ n.pc ∷ [] ≡ numbers b
unfolding six_of
six e h = e ∙ ap numbers h
