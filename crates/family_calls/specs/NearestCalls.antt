-- Nearest families, said of what calls answer.
use Rattle.std.specs.Prelude.{◌≡◌, ◌↔◌, false, List, ℕ, T, None, Some, Ok, Err}
use Rattle.error.specs.Answer.{type_number}
use Rattle.sheet.specs.Module.{Module, type_at, is_struct}
use Rattle.sheet.specs.Decode.{decode}
use Rattle.sheet.specs.Editions.{most_of}
use Rattle.descends.specs.declared.QueryError.TheVariants.{NotLinked}
use Rattle.descends.specs.Nearest.{NearestFamily, family_of, nearest_in, nearest_numbers}
use Rattle.families.specs.Families.{nearest, have_one_root}
use Rattle.renumber.specs.Renumber.{image, RenumberedSheet}
use Rattle.calls.specs.Calls.{Loads, Asks, Begins}

-- ── calls ──

-- x is answered: what `nearest` of crate query_nearest ensures, so each call of it gives one
pub record AsksNearest (table : List ℕ) (t u : ℕ) (x : NearestFamily) : Type 0 where
  pub answers : x ≡ nearest_in table t u

-- the same call for C and Rust, which gives two numbers: what `paqlluri_nearest` ensures
pub record AsksNearestNumbers (table : List ℕ) (t u : ℕ) (two : List ℕ) : Type 0 where
  pub answered : NearestFamily
  pub asks : AsksNearest table t u answered
  pub numbered : two ≡ nearest_numbers answered

-- ── the laws ──

-- what is asked next of a family that was found; none and 25 swallow all
unfoldable pub then_ask : NearestFamily → (ℕ → NearestFamily) → NearestFamily
then_ask (Ok (Some f)) next = next f.0
then_ask (Ok None) next = Ok None
then_ask (Err NotLinked) next = Err NotLinked

-- what the query for the nearest family answers on a table of the module's types
pub record NearestAsked (m : Module) (table : List ℕ) : Type 0 where
  -- the common ancestor with the longest chain by declared parents, or none
  pub declared : (t u : ℕ) (x : NearestFamily) → AsksNearest table t u x → x ≡ family_of (nearest (most_of m) m.types t u)
  -- none exactly where the roots differ or a number is no struct type
  pub none : (t u : ℕ) (x : NearestFamily) → AsksNearest table t u x →
      (x ≡ Ok None) ↔ (have_one_root (most_of m) m.types t u ≡ false)
  -- the pair's order does not matter
  pub turned : (t u : ℕ) (x y : NearestFamily) → AsksNearest table t u x → AsksNearest table u t y → x ≡ y
  -- a struct type with itself gives itself
  pub itself : (t : ℕ) (x : NearestFamily) → AsksNearest table t t x → T (is_struct (type_at m.types t)) → x ≡ Ok (Some (type_number t))
  -- three give the same family however they are grouped, none swallowing all
  pub grouped : (near : ℕ → ℕ → NearestFamily) → ((t u : ℕ) → AsksNearest table t u (near t u)) →
      (t u v : ℕ) → then_ask (near t u) (λ f. near f v) ≡ then_ask (near u v) (λ f. near t f)
  -- both descend from a given family exactly where their nearest family exists and descends from it
  pub both : (t u a x y : ℕ) (z : NearestFamily) → Asks table t a x → Asks table u a y → AsksNearest table t u z →
      ((x ≡ 1) × (y ≡ 1)) ↔ ((f : ℕ) × (z ≡ Ok (Some (type_number f))) × Asks table f a 1)

-- of every call that accepts an intact sheet with l words, on what it left and on any words that begin so
unfoldable pub NearestRight : Type 0
NearestRight =
    (sheet hosts table work : List ℕ) (l : ℕ) (left work_left : List ℕ) (m : Module) → decode sheet ≡ Some m →
    Loads sheet hosts table work (Ok l) left work_left → (words : List ℕ) → Begins l left words → NearestAsked m words

-- ── numbering does not matter ──

-- a family that was found, by its number in the second sheet
unfoldable pub family_image : List ℕ → NearestFamily → NearestFamily
family_image r (Ok (Some f)) = Ok (Some (type_number (image r f.0)))
family_image r (Ok None) = Ok None
family_image r (Err NotLinked) = Err NotLinked

-- r takes each type of the first sheet to its number in the second: of all numbers, unknown ones too,
-- the nearest family of the images is the image of the nearest family
unfoldable pub NearestMoves : List ℕ → List ℕ → List ℕ → Type 0
NearestMoves r words words_also =
    (t u : ℕ) (x y : NearestFamily) → AsksNearest words t u x → AsksNearest words_also (image r t) (image r u) y → y ≡ family_image r x

-- of every two calls that accept, with l and k words, sheets that differ by one renumbering, under one host list
unfoldable pub NearestNumberingFree : Type 0
NearestNumberingFree =
    (r hosts first second : List ℕ) → RenumberedSheet r first second →
    (table work : List ℕ) (l : ℕ) (left work_left : List ℕ) → Loads first hosts table work (Ok l) left work_left →
    (table_also work_also : List ℕ) (k : ℕ) (left_also work_left_also : List ℕ) →
    Loads second hosts table_also work_also (Ok k) left_also work_left_also →
    (words words_also : List ℕ) → Begins l left words → Begins k left_also words_also → NearestMoves r words words_also
