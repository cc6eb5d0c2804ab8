-- The parent rules under a limit, `most`: what holds for every one from 1 up, and so for the limits of both editions.
use Rattle.std.specs.Prelude.{ℕ, suc, ◌≤◌, ◌<◌, ◌≡◌, ◌↔◌, Bool, true, false, cond, ◌&&◌, List, [], ◌∷◌, map, T, eqb, length, take}
use Rattle.lists.specs.Lists.{from, keep}
use Rattle.error.specs.declared.LoadErrorKind.TheVariants.{BadParent, InheritanceTooDeep}
use Rattle.sheet.specs.Module.{TypeDef, struct, Module, type_at, is_struct}
use Rattle.parents.specs.Forest.{root, entry_at, chain}
use Rattle.parents.specs.Parents.{fields_first, child_faults, parents_faults}
use Rattle.spans.specs.Spans.{order, Reaches, Descendant, descends_by_span}

-- ── a type t with the parent p ──

-- p is a struct, and its fields are the first of t
unfoldable pub is_fit : List TypeDef → ℕ → ℕ → Bool
is_fit types t p = is_struct (type_at types p) && fields_first types p t

pub record ChildRight (most : ℕ) (types : List TypeDef) (t p : ℕ) : Type 0 where
  -- 16 before 17
  pub unfit : is_fit types t p ≡ false → take 1 (child_faults most types t p) ≡ BadParent ∷ []
  -- 17 exactly where more numbers are met than the limit, the last of them counted whatever it is
  pub long : is_fit types t p ≡ true → (child_faults most types t p ≡ InheritanceTooDeep ∷ []) ↔ (most < length (chain types (suc most) t))
  pub short : is_fit types t p ≡ true → (child_faults most types t p ≡ []) ↔ (length (chain types (suc most) t) ≤ most)

-- ── types that keep the rules ──

pub record KeptRight (most : ℕ) (types : List TypeDef) : Type 0 where
  -- the chain of every struct is short, and it ends at a root
  pub short : (t : ℕ) → T (is_struct (type_at types t)) → length (chain types (suc most) t) ≤ most
  pub rooted : (t : ℕ) → T (is_struct (type_at types t)) → (r : ℕ) × ((entry_at types r ≡ root) × Reaches types t r)
  -- the numbering walk enters every struct once, and nothing else
  pub entered : (t : ℕ) → length (keep (eqb t) (order most types)) ≡ cond (is_struct (type_at types t)) 1 0
  -- the spans say yes just where declared parents lead from t to a
  pub families : (t a : ℕ) → T (descends_by_span most types t a) ↔ Descendant types t a

-- ── both sides of the limit ──

-- n structs on one chain: the first has no parent, each later one has the one before it
unfoldable pub one_chain : ℕ → List TypeDef
one_chain n = map (λ k. struct (record { name = 0; parent+ = k; fields = []; methods = [] })) (from 0 n)

-- ── the claim ──

pub record ParentsRight (most : ℕ) : Type 0 where
  pub children : (types : List TypeDef) (t p : ℕ) → ChildRight most types t p
  pub kept : (m : Module) → parents_faults most m ≡ [] → KeptRight most m.types
  pub sides : (m : Module) (n : ℕ) → m.types ≡ one_chain n → (parents_faults most m ≡ []) ↔ (n ≤ most)

-- of every limit from 1 up
unfoldable pub RightUnderAll : Type 0
RightUnderAll = (most : ℕ) → 1 ≤ most → ParentsRight most
