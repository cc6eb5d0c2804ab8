-- What load answers and leaves once the inputs are intact.
use Rattle.std.specs.Prelude.{ℕ, ◌≤◌, ◌<◌, List, length}
use Rattle.error.specs.Answer.{Loaded}
use Rattle.error.specs.Answer.{first}
use Rattle.sheet.specs.Module.{Module}
use Rattle.host.specs.Host.{HostFn}
use Rattle.table.specs.Table.{table_of}
use Rattle.load.specs.Load.{faults_of, linked_over}

-- the linked table has room, and its length is a word
pub record Fits (hosts : List HostFn) (m : Module) (table : List ℕ) : Type 0 where
  pub room : length (table_of hosts m) ≤ length table
  pub small : length (table_of hosts m) < 4294967296

unfoldable pub answered : List HostFn → Module → Loaded
answered hosts m = first (length (table_of hosts m)) (faults_of hosts m)

unfoldable pub table_left : List HostFn → Module → List ℕ → List ℕ
table_left hosts m table = linked_over (faults_of hosts m) (table_of hosts m) table
