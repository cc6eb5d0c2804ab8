-- What an instruction's own rule asks of its numbers.
use Rattle.std.specs.Prelude.{ℕ, ◌+◌, ◌-◌, List, Bool, true, false, not, ◌||◌, eqb, leb, ltb}
use Rattle.lists.specs.Lists.{contains}
use Rattle.error.specs.declared.What.TheVariants.{Registers}
use Rattle.error.specs.declared.LoadErrorKind.{LoadErrorKind}
use Rattle.error.specs.declared.LoadErrorKind.TheVariants.{CalleeHasCaptures, PromoteNotDynamic, BadModifier, TailCallInTry, OutOfRange}
use Rattle.error.specs.Verdict.{Verdict}
use Rattle.std.specs.Prelude.{Err, Ok}
use Rattle.error.specs.Answer.{unless}
use Rattle.code.specs.Code.{promote, to_ref, catchable_kinds, wide_types}

-- n registers from the first on, of so many
unfoldable pub window_in : ℕ → ℕ → ℕ → List LoadErrorKind
window_in regs first n = unless (leb (first + n) regs) (OutOfRange Registers (first + n - 1))

unfoldable pub capture_faults : ℕ → List LoadErrorKind
capture_faults captures = unless (eqb captures 0) CalleeHasCaptures

unfoldable pub promote_faults : ℕ → List LoadErrorKind
promote_faults d = unless (not (eqb d promote)) PromoteNotDynamic

unfoldable pub dyn_faults : Bool → ℕ → List LoadErrorKind
dyn_faults is_dyn d = unless (not (eqb d promote) || is_dyn) PromoteNotDynamic

unfoldable pub ref_faults : ℕ → List LoadErrorKind
ref_faults d = unless (not (eqb d to_ref)) BadModifier

unfoldable pub raise_faults : ℕ → List LoadErrorKind
raise_faults d = unless (ltb d catchable_kinds) BadModifier

unfoldable pub wide_faults : ℕ → List LoadErrorKind
wide_faults d = unless (contains wide_types d) BadModifier

-- a verdict, and then that no handler covers the instruction
unfoldable pub outside_try : Verdict → Bool → Verdict
outside_try (Err k) covered = Err k
outside_try (Ok tt) true = Err TailCallInTry
outside_try (Ok tt) false = (Ok tt)
