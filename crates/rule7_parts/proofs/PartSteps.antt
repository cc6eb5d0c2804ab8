-- The last instruction, then handlers, then tables.
use Prim.Native.Nat.{ℕ}
use mathlib.Core.Path.{◌≡◌, refl}
use mathlib.Core.List.{◌++◌, map}
use Rattle.error.specs.declared.LoadError.{LoadError}
use Rattle.error.specs.Verdict.{Verdict}
use Rattle.error.specs.Verdict.{Judged}
use Rattle.std.specs.Prelude.{Err, Ok}
use Rattle.error.specs.Answer.{in_function}
use Rattle.error.specs.Verdict.{verdict_of, judged_of, placed}
use Rattle.error.specs.VerdictLaws.{judged_then, judged_stop, placed_faults_lem}
use Rattle.sheet.specs.Module.{Func}
use Rattle.code.specs.Code.{last_faults}
use Rattle.rule7_parts.specs.CodeParts.{handlers_faults, tables_faults, parts_faults}

module _ (n : ℕ) (f : Func) where
  pub parts_stop : {r : Judged} {d : LoadError} → r ≡ Err d → r ≡ judged_of (last_faults n f) → Err d ≡ judged_of (parts_faults n f)
  unfolding parts_faults
  parts_stop {r} {d} e k =
      judged_stop (last_faults n f ++ map (in_function n) (handlers_faults f)) (map (in_function n) (tables_faults f)) d refl
      (judged_stop (last_faults n f) (map (in_function n) (handlers_faults f)) d e k)

  module _ {r : Judged} (e : r ≡ Ok tt) (k : r ≡ judged_of (last_faults n f)) {v : Verdict} {s : Judged} (u : v ≡ verdict_of (handlers_faults f)) (z : s ≡ placed (in_function n) v) where
    both : s ≡ judged_of (last_faults n f ++ map (in_function n) (handlers_faults f))
    both = judged_then (last_faults n f) (map (in_function n) (handlers_faults f)) e k (placed_faults_lem (in_function n) (handlers_faults f) u z)

    pub parts_second : {d : LoadError} → s ≡ Err d → Err d ≡ judged_of (parts_faults n f)
    unfolding parts_faults
    parts_second {d} y = judged_stop (last_faults n f ++ map (in_function n) (handlers_faults f)) (map (in_function n) (tables_faults f)) d y both

    pub parts_third : {x : Verdict} {t : Judged} → s ≡ Ok tt → x ≡ verdict_of (tables_faults f) → t ≡ placed (in_function n) x → t ≡ judged_of (parts_faults n f)
    unfolding parts_faults
    parts_third y p q =
        judged_then (last_faults n f ++ map (in_function n) (handlers_faults f)) (map (in_function n) (tables_faults f)) y both (placed_faults_lem (in_function n) (tables_faults f) p q)

pub ruleset parting = (parts_stop, parts_second, parts_third)
