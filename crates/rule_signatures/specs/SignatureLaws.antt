-- When a type has parameters and results.
use Rattle.std.specs.Prelude.{ℕ, ◌+◌, ◌≤◌, ◌<◌, Bool, ◌&&◌, eqb, leb, length}
use Rattle.std.proofs.Math.Path.{◌≡◌, refl}
use Rattle.std.proofs.Common.{ap, ◌∙◌, arith}
use mathlib.Core.List.{List, [], ◌++◌}
use Rattle.std.proofs.Math.Bool.{true, false}
use Rattle.std.proofs.Math.Decide.{dec_lt}
use Rattle.std.proofs.Math.Dec.{ltb}
use Rattle.std.proofs.Math.ListN.{get_or-eq_default}
use borrow.Author.Tests.{eqb-true, ltb-true}
use Rattle.error.specs.declared.What.TheVariants.{Types}
use Rattle.error.specs.declared.LoadErrorKind.TheVariants.{BadSignature, OutOfRange}
use Rattle.error.specs.Verdict.{Verdict}
use Rattle.std.specs.Prelude.{Ok}
use Rattle.error.specs.Answer.{unless}
use Rattle.error.specs.Verdict.{verdict_of}
use Rattle.error.specs.VerdictLaws.{none_broken}
use Rattle.sheet.specs.Module.{ValueType, basic, ref, value_word, is_dyn, Sig, TypeDef, func, struct, cell, iter, coroutine, Module, type_at, kind_word, is_func, no_sig, sig_of}
use Rattle.imports.specs.Params.{is_signature, signature_faults, sig_params, sig_results}
use Rattle.rule_signatures.specs.Signature.{HasSig}

-- of what is no func type there are none
pub no_sig_lem : (d : TypeDef) → is_func d ≡ false → sig_of d ≡ no_sig
unfolding is_func kind_word sig_of
no_sig_lem (func s) e = let z : ◌≡◌ {A = ℕ} 0 1 = cc in absurd (omega arith)
no_sig_lem (struct s) e = refl
no_sig_lem (TypeDef.array v) e = refl
no_sig_lem (TypeDef.map k v) e = refl
no_sig_lem (cell v) e = refl
no_sig_lem (iter k v) e = refl
no_sig_lem coroutine e = refl

-- of a type that is not there too
pub no_type : (ds : List TypeDef) (t : ℕ) → length ds ≤ t → sig_of (type_at ds t) ≡ no_sig
unfolding type_at sig_of
no_type ds t h = ap sig_of (get_or-eq_default ds coroutine h)

module _ (m : Module) (t : ℕ) where
  -- what passed the test
  pub checked_sig : {r : Verdict} → r ≡ Ok tt → r ≡ verdict_of (signature_faults m t) → HasSig m t
  unfolding signature_faults is_signature
  checked_sig e k =
      let d = type_at m.types t in
      go (ltb t (length m.types)) (is_func d) (leb (length (sig_of d).results) 1) refl refl (none_broken (signature_faults m t) e k)
    where
      go : (x y z : Bool) → ltb t (length m.types) ≡ x → is_func (type_at m.types t) ≡ y
          → unless x (OutOfRange Types t) ++ unless (y && z) BadSignature ≡ [] → HasSig m t
      go true true z a b e = record { inside = ltb-true t (length m.types) a; func = b }
      go true false z a b e = let w : ◌≡◌ {A = ℕ} 0 1 = cc in absurd (omega arith)
      go false y z a b e = let w : ◌≡◌ {A = ℕ} 0 1 = cc in absurd (omega arith)

  -- what has a part that others have not
  part_sig : (f : Sig → List ValueType) → f no_sig ≡ [] → 0 < length (f (sig_of (type_at m.types t))) → HasSig m t
  part_sig f e h = inside (dec_lt t (length m.types))
    where
      none : sig_of (type_at m.types t) ≡ no_sig → ⊥
      none k = let z : length (f (sig_of (type_at m.types t))) ≡ 0 = ap (λ s. length (f s)) k ∙ ap length e in omega arith

      func : (b : Bool) → is_func (type_at m.types t) ≡ b → t < length m.types → HasSig m t
      func true k l = record { inside = l; func = k }
      func false k l = absurd (none (no_sig_lem (type_at m.types t) k))

      inside : Dec (t < length m.types) → HasSig m t
      inside (yes l) = func (is_func (type_at m.types t)) refl l
      inside (no l) = absurd (none (no_type m.types t (omega arith)))

  pub params_sig : 0 < length (sig_params m t) → HasSig m t
  unfolding sig_params no_sig
  params_sig h = part_sig (λ s. s.params) refl h

  pub results_sig : 0 < length (sig_results m t) → HasSig m t
  unfolding sig_results no_sig
  results_sig h = part_sig (λ s. s.results) refl h

-- dyn has a word of its own
pub dyn_word : (v : ValueType) → eqb (value_word v) 12 ≡ is_dyn v
unfolding value_word is_dyn
dyn_word (basic k) = refl
dyn_word (ref t) = go (eqb (16 + t) 12) refl
  where
    go : (b : Bool) → eqb (16 + t) 12 ≡ b → eqb (16 + t) 12 ≡ false
    go true e = absurd (let z : 16 + t ≡ 12 = eqb-true (16 + t) 12 e in omega arith)
    go false e = e
