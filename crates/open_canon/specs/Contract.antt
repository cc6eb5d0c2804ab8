-- What the function asks and gives.
use Rattle.std.specs.Prelude.{◌≡◌, Bool, List, ℕ, ◌+◌, ◌≤◌, length, get_or}
use Rattle.region.specs.Region.{Off, Apart, part}
use Rattle.sorting.specs.Items.{Rising}
use Rattle.open_canon.specs.Numbers.{items, canonical, own_by}

-- the four regions of the whole
pub record Regions (ws w : List ℕ) (n s a b c : ℕ) : Type 0 where
  pub good : Rising ws (part s (n + 1) w) n
  pub small : n ≤ 4294967296
  pub s_in : s + (n + 1) ≤ length w
  pub a_in : a + n ≤ length w
  pub b_in : b + n ≤ length w
  pub c_in : c + n ≤ length w
  pub s_a : Apart s (s + (n + 1)) a (a + n)
  pub s_b : Apart s (s + (n + 1)) b (b + n)
  pub s_c : Apart s (s + (n + 1)) c (c + n)
  pub a_b : Apart a (a + n) b (b + n)
  pub a_c : Apart a (a + n) c (c + n)
  pub b_c : Apart b (b + n) c (c + n)

-- the canonical numbers lie at c, and every word outside a, b and c is as it was
pub record Numbered (ws w v : List ℕ) (n s a b c : ℕ) (marked : Bool) : Type 0 where
  pub len : length v ≡ length w
  pub numbers : part c n v ≡ canonical (own_by marked) (items ws (part s (n + 1) w) n)
  pub same : (k : ℕ) → Off a (a + n) k → Off b (b + n) k → Off c (c + n) k → get_or v k 0 ≡ get_or w k 0
