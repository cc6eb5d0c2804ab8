-- Types by number: past the last there is a type with no parts, and it is no struct.
use Rattle.std.specs.Prelude.{◌≡◌, refl, true, false, List, ℕ, ◌≤◌, ◌<◌, length}
use Rattle.std.proofs.Common.{sym, ◌∙◌, arith}
use Rattle.std.proofs.Math.Path.{ap}
use Rattle.std.proofs.Math.Decide.{dec_lt}
use Rattle.std.proofs.Math.ListN.{get_or-eq_default}
use Rattle.lists.specs.Lists.{all_of}
use Rattle.lists.specs.ListLaws.{all_at}
use Rattle.sheet.specs.Module.{TypeDef, coroutine, kind_word, is_struct, type_at}
use Rattle.sheet.specs.Coded.{coded_type}

pub type_out : (types : List TypeDef) (t : ℕ) → length types ≤ t → type_at types t ≡ coroutine
unfolding type_at
type_out types t h = get_or-eq_default types coroutine h

pub struct_known : (types : List TypeDef) (t : ℕ) → is_struct (type_at types t) ≡ true → t < length types
unfolding is_struct kind_word
struct_known types t e = go (dec_lt t (length types))
  where
    go : Dec (t < length types) → t < length types
    go (yes h) = h
    go (no h) = let z : false ≡ true = sym (ap is_struct (type_out types t (omega arith))) ∙ e in let y : ◌≡◌ {A = ℕ} 0 1 = cc in omega arith

-- where all types have codes, every number's type has
pub good_at : (types : List TypeDef) → all_of coded_type types ≡ true → (t : ℕ) → coded_type (type_at types t) ≡ true
good_at types good t = go (dec_lt t (length types))
  where
    go : Dec (t < length types) → coded_type (type_at types t) ≡ true
    go (yes h) = unfold type_at in all_at coded_type types t coroutine good h
    go (no h) = ap coded_type (type_out types t (omega arith)) ∙ (unfold coded_type in refl)
