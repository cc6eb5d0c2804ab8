-- What callers know of an index.
use Rattle.std.specs.Prelude.{◌≡◌, List, ℕ, ◌+◌, ◌*◌, ◌≤◌, get_or}
use Rattle.std.proofs.Common.{arith}
use Rattle.blocks.specs.Blocks.{words}
use Rattle.blocks.specs.Frame.{first_words}
use Rattle.reader.specs.Reader.{list_of}
use Rattle.reader.specs.Value.{Whole}
use Rattle.host.specs.Host.{host_fn}
use Rattle.std.specs.Prelude.{Option}
use Rattle.std.specs.Prelude.{Some}
use Rattle.open_hosts.specs.Sorted.{Roomy, SortedHosts, SortedIf}

pub list_whole : {ws v : List ℕ} → SortedHosts ws v → Whole (list_of host_fn ws 2)
list_whole s = s.arranged.edges.whole

pub sorted_now : {r : Option ℕ} (b v : List ℕ) (n : ℕ) → r ≡ Some n → SortedIf r b v → SortedHosts (first_words b n) v
unfolding SortedIf
sorted_now b v n k s = s n k

-- words enough for any list
pub roomy : (b : List ℕ) (k : ℕ) → 390142 ≤ k → Roomy b k
unfolding Roomy
roomy b k h = omega arith

-- words enough for a list of at most m entries
pub roomy_few : (b : List ℕ) (m k : ℕ) {c : ℕ} → c ≡ get_or (words b) 2 0 → c ≤ m → 3 * m + 1 ≤ k → Roomy b k
unfolding Roomy
roomy_few b m k e h l = omega arith
