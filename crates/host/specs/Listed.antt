-- What code says of the host list: broken or its N words, and what a lookup finds.
use Rattle.std.specs.Prelude.{ℕ, Bool, List, [], cond, Option, None, Some}
use Rattle.blocks.specs.Blocks.{words, length_word}
use Rattle.reader.specs.Reader.{list_of}
use Rattle.reader.specs.Text.{string}
use Rattle.reader.specs.Value.{value_of}
use Rattle.host.specs.Host.{HostFn, host_fn, decode_hosts, lookup, resolved, is_scheduler}

unfoldable pub listed_for : ℕ → Option (List HostFn) → Option ℕ
listed_for n None = None
listed_for n (Some hs) = Some n

unfoldable pub listed_of : List ℕ → Option ℕ
listed_of bytes = listed_for (length_word (words bytes)) (decode_hosts bytes)

-- the function at this place
unfoldable pub found_at : List HostFn → ℕ → Option (ℕ × Bool)
found_at hosts at = cond (resolved hosts at) (Some (at, is_scheduler hosts at)) None

-- the function with this module and name
unfoldable pub found : List HostFn → List ℕ → List ℕ → Option (ℕ × Bool)
found hosts m n = found_at hosts (lookup hosts m n)

-- the list that stands at word 2
abbrev pub hosts_in : List ℕ → List HostFn
hosts_in ws = value_of [] (list_of host_fn ws 2)

-- the string that stands at p
abbrev pub text_at : List ℕ → ℕ → List ℕ
text_at ws p = value_of [] (string ws p)
