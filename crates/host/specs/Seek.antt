-- The host list as code walks it.
use Rattle.std.specs.Prelude.{ℕ, List, Option}
use Rattle.reader.specs.Reader.{list_of, whole}
use Rattle.reader.specs.Value.{value_of}
use Rattle.host.specs.Host.{HostFn, host_fn, if_distinct, nobody}
use Rattle.host.specs.Listed.{listed_for}

-- the entry that stands at p
abbrev pub entry_at : List ℕ → ℕ → HostFn
entry_at ws p = value_of nobody (host_fn ws p)

-- the host list that n words hold
unfoldable pub listed_in : ℕ → List ℕ → Option ℕ
listed_in n ws = listed_for n (if_distinct (whole n (list_of host_fn ws 2)))
