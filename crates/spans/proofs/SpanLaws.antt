-- The span of a type that is no struct puts it under nothing and nothing under it.
use Rattle.std.specs.Prelude.{◌≡◌, refl, Bool, true, false, ◌&&◌, ℕ, ◌≤◌, leb, ltb}
use Rattle.std.proofs.Common.{arith, le-ltb}
use Rattle.spans.specs.Spans.{no_pre, no_post}

and_none : (a b : Bool) → b ≡ false → (a && b) ≡ false
and_none true b e = e
and_none false b e = refl

-- no span ends above the number of types, which is below 520,192
pub other_under_none : (pre post : ℕ) → post ≤ 520192 → (leb pre no_pre && ltb no_pre post) ≡ false
other_under_none pre post h = and_none (leb pre no_pre) (ltb no_pre post) (le-ltb no_pre post (omega arith))

pub none_under_other : (pre : ℕ) → (leb no_pre pre && ltb pre no_post) ≡ false
none_under_other pre = and_none (leb no_pre pre) (ltb pre no_post) (le-ltb pre no_post (omega arith))
