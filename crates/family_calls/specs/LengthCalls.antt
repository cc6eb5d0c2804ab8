-- Chain lengths, said of what calls answer.
use Rattle.std.specs.Prelude.{◌≡◌, false, List, ℕ, suc, ◌<◌, length, Some, Ok}
use Rattle.sheet.specs.Module.{Module, type_at, is_struct}
use Rattle.sheet.specs.Decode.{decode}
use Rattle.parents.specs.Forest.{root, sub, entry_at}
use Rattle.sheet.specs.Editions.{most_of}
use Rattle.descends.specs.Descends.{length_in}
use Rattle.descends.specs.Lengths.{ChainLength, length_numbers}
use Rattle.families.specs.Families.{family_depth}
use Rattle.calls.specs.Calls.{Loads, Asks, AsksLength, Begins}

-- the same call for C and Rust, which gives two numbers: what `paqlluri_chain_length` ensures
pub record AsksLengthNumbers (table : List ℕ) (t : ℕ) (two : List ℕ) : Type 0 where
  pub answered : ChainLength
  pub asks : AsksLength table t answered
  pub numbered : two ≡ length_numbers answered

-- what the query for chain lengths answers on a table of the module's types
pub record LengthsAsked (m : Module) (table : List ℕ) : Type 0 where
  -- how many numbers the chain of a struct type has by declared parents, itself included
  pub declared : (t : ℕ) (x : ChainLength) → AsksLength table t x → x ≡ Ok (family_depth (most_of m) m.types t)
  -- 0 for any other number
  pub others : (t : ℕ) (x : ChainLength) → AsksLength table t x → is_struct (type_at m.types t) ≡ false → x ≡ Ok 0
  -- the third word of a type's span
  pub spans : (t : ℕ) (x : ChainLength) → AsksLength table t x → t < length m.types → x ≡ Ok (length_in table t)
  -- 1 at a root
  pub at_roots : (t : ℕ) (x : ChainLength) → AsksLength table t x → entry_at m.types t ≡ root → x ≡ Ok 1
  -- 1 more than the parent's elsewhere
  pub at_children : (t p n : ℕ) (x : ChainLength) → entry_at m.types t ≡ sub p → AsksLength table p (Ok n) → AsksLength table t x →
      x ≡ Ok (suc n)
  -- who descends from another has a longer chain, so that ancestors come first where families are sorted by it
  pub rising : (t a n k : ℕ) → Asks table t a 1 → (t ≡ a → ⊥) → AsksLength table a (Ok n) → AsksLength table t (Ok k) → n < k

-- of every call that accepts an intact sheet with l words, on what it left and on any words that begin so
unfoldable pub LengthsRight : Type 0
LengthsRight =
    (sheet hosts table work : List ℕ) (l : ℕ) (left work_left : List ℕ) (m : Module) → decode sheet ≡ Some m →
    Loads sheet hosts table work (Ok l) left work_left → (words : List ℕ) → Begins l left words → LengthsAsked m words
