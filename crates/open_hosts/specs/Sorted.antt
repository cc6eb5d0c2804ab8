-- A sorted index of the host list: what the calls ask and give.
use Rattle.std.specs.Prelude.{ℕ, ◌+◌, ◌*◌, ◌≤◌, ◌<◌, min, ◌≡◌, List, true, length, get_or}
use Rattle.lists.specs.Lists.{all_of}
use Rattle.blocks.specs.Blocks.{words}
use Rattle.blocks.specs.ByteLaws.{is_word}
use Rattle.blocks.specs.Frame.{first_words}
use Rattle.reader.specs.Reader.{got, list_of}
use Rattle.reader.specs.Value.{Whole}
use Rattle.region.specs.Region.{part, word_at}
use Rattle.sorting.specs.Contract.{Ordered}
use Rattle.std.specs.Prelude.{Option}
use Rattle.std.specs.Prelude.{Some}
use Rattle.host.specs.Host.{host_fn, pairs_distinct, nobody}
use Rattle.host.specs.Listed.{hosts_in}

-- room for an index of the list: three words for each entry and one more; no intact list has more than 130,047 entries
unfoldable pub Roomy : List ℕ → ℕ → Type 0
Roomy b k = 3 * min (get_or (words b) 2 0) 130047 + 1 ≤ k

-- of an intact list the word that counts its entries is word 2
abbrev pub entry_count : List ℕ → ℕ
entry_count ws = get_or ws 2 0

-- v begins with the edges: entry i stands from edge i to edge i + 1
pub record Edged (ws v : List ℕ) : Type 0 where
  pub whole : Whole (list_of host_fn ws 2)
  pub small : all_of is_word ws ≡ true
  pub room : 3 * entry_count ws + 1 ≤ length v
  pub begins : get_or v 0 0 ≡ 3
  pub entry : (i : ℕ) → i < entry_count ws → host_fn ws (get_or v i 0) ≡ got (get_or (hosts_in ws) i nobody) (get_or v (i + 1) 0)

-- and after them stands the order of the entries, by content
pub record Arranged (ws v : List ℕ) : Type 0 where
  pub edges : Edged ws v
  pub ordered : Ordered ws (part 0 (entry_count ws + 1) v) (entry_count ws) (word_at v (entry_count ws + 1))

-- and no pair stands twice
pub record SortedHosts (ws v : List ℕ) : Type 0 where
  pub arranged : Arranged ws v
  pub distinct : pairs_distinct (hosts_in ws) ≡ true

-- where the list is intact, v is its index
unfoldable pub SortedIf : Option ℕ → List ℕ → List ℕ → Type 0
SortedIf r b v = (n : ℕ) → r ≡ Some n → SortedHosts (first_words b n) v
