-- What code keeps of a place between octets, and the octets of a word.
use Rattle.std.specs.Prelude.{ℕ, ◌/◌, ◌%◌, List, [], ◌∷◌, Bool, ltb}
use Rattle.lists.specs.Lists.{all_of}
use Rattle.utf8.specs.declared.State.{State}
use Rattle.utf8.specs.declared.State.TheVariants.{Done, Tail1, Tail2, Tail3, AfterE0, AfterED, AfterF0, AfterF4, Wrong}
use Rattle.utf8.specs.Utf8.{◌to◌, tail, Place, wrong, due}

unfoldable pub meaning : State → Place
meaning Done = due []
meaning Tail1 = due (tail ∷ [])
meaning Tail2 = due (tail ∷ tail ∷ [])
meaning Tail3 = due (tail ∷ tail ∷ tail ∷ [])
meaning AfterE0 = due ((0xA0 to 0xBF) ∷ tail ∷ [])
meaning AfterED = due ((0x80 to 0x9F) ∷ tail ∷ [])
meaning AfterF0 = due ((0x90 to 0xBF) ∷ tail ∷ tail ∷ [])
meaning AfterF4 = due ((0x80 to 0x8F) ∷ tail ∷ tail ∷ [])
meaning Wrong = wrong

-- the four octets of a word, low octet first
unfoldable pub octets : ℕ → List ℕ
octets w = w % 256 ∷ w / 256 % 256 ∷ w / 256 / 256 % 256 ∷ w / 256 / 256 / 256 % 256 ∷ []

-- all four octets of a word are ASCII
unfoldable pub ascii : ℕ → Bool
ascii w = all_of (λ b. ltb b 0x80) (octets w)
