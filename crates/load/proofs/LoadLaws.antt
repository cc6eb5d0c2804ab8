-- Load of a sheet that was written, and the room for its table.
use Rattle.std.specs.Prelude.{ℕ, ◌≤◌, ◌≡◌, refl, List, Bool, true, false, leb, length, Option, None, Some}
use Rattle.std.proofs.Common.{ap, ◌∙◌, arith, leb-true}
use Rattle.lists.specs.Lists.{all_of}
use Rattle.lists.specs.ListLaws.{and_first, and_second}
use Rattle.blocks.specs.Blocks.{words, length_word}
use Rattle.blocks.specs.ByteLaws.{is_byte}
use Rattle.sheet.specs.Module.{Module}
use Rattle.sheet.specs.Decode.{decode}
use Rattle.sheet.specs.Encode.{sheet_of}
use Rattle.sheet.proofs.SheetLaws.{well_coded, decode_sheet, decode_length, sheet_length, sheet_words}
use Rattle.host.specs.Host.{HostFn, decode_hosts}
use Rattle.table.specs.Table.{table_words}
use Rattle.table.proofs.TableLaws.{table_fits}
use Rattle.load.specs.Load.{needed, fits, enough, long_enough, opened, with_hosts, with_module, opening, answer, load}

-- ── a sheet that was written ──

pub opening_decoded : (sheet hosts : List ℕ) (table work : ℕ) (m : Module) → decode sheet ≡ Some m
    → opening sheet hosts table work ≡ with_hosts (long_enough sheet table work) m (decode_hosts hosts)
unfolding opening with_module
opening_decoded sheet hosts table work m e = ap (λ o. with_module (long_enough sheet table work) o (decode_hosts hosts)) e

pub opening_sheet : (m : Module) (hosts : List ℕ) (table work : ℕ) → well_coded m ≡ true
    → opening (sheet_of m) hosts table work ≡ with_hosts (enough (sheet_words m) table work) m (decode_hosts hosts)
unfolding long_enough
opening_sheet m hosts table work h = opening_decoded (sheet_of m) hosts table work m (decode_sheet m h) ∙ rw (sheet_length m h)

pub load_sheet : (m : Module) (hosts : List ℕ) (table work : ℕ) → well_coded m ≡ true
    → load (sheet_of m) hosts table work ≡ answer (with_hosts (enough (sheet_words m) table work) m (decode_hosts hosts))
unfolding load
load_sheet m hosts table work h = ap answer (opening_sheet m hosts table work h)

-- ── what was opened ──

hosts_opened : {C : Type 0} (b : Bool) (m₀ m : Module) (o : Option (List HostFn)) (hs : List HostFn) → with_hosts b m₀ o ≡ opened m hs
    → (b ≡ true → m₀ ≡ m → o ≡ Some hs → C) → C
unfolding with_hosts
hosts_opened b m₀ m None hs e f = let z : ◌≡◌ {A = ℕ} 0 1 = cc in absurd (omega arith)
hosts_opened true m₀ m (Some x) hs e f = let a : m₀ ≡ m = cc in let b : x ≡ hs = cc in f refl a (ap Some b)
hosts_opened false m₀ m (Some x) hs e f = let z : ◌≡◌ {A = ℕ} 0 1 = cc in absurd (omega arith)

pub module_opened : {C : Type 0} (b : Bool) (d : Option Module) (m : Module) (o : Option (List HostFn)) (hs : List HostFn) → with_module b d o ≡ opened m hs
    → (b ≡ true → d ≡ Some m → o ≡ Some hs → C) → C
unfolding with_module
module_opened b None m o hs e f = let z : ◌≡◌ {A = ℕ} 0 1 = cc in absurd (omega arith)
module_opened b (Some m₀) m o hs e f = hosts_opened b m₀ m o hs e λ t a s. f t (ap Some a) s

pub record Opens (sheet hosts : List ℕ) (table work : ℕ) (m : Module) (hs : List HostFn) : Type 0 where
  pub holds : decode sheet ≡ Some m
  pub lists : decode_hosts hosts ≡ Some hs
  pub table_long : needed (length_word (words sheet)) ≤ table
  pub work_long : needed (length_word (words sheet)) ≤ work

pub opening_inv : (sheet hosts : List ℕ) (table work : ℕ) (m : Module) (hs : List HostFn) → opening sheet hosts table work ≡ opened m hs → Opens sheet hosts table work m hs
unfolding opening long_enough enough fits
opening_inv sheet hosts table work m hs e =
    module_opened (long_enough sheet table work) (decode sheet) m (decode_hosts hosts) hs e λ t d o.
    let n = needed (length_word (words sheet)) in
    record {
      holds = d;
      lists = o;
      table_long = leb-true n table (and_first (leb n table) (leb n work) t);
      work_long = leb-true n work (and_second (leb n table) (leb n work) t);
    }

-- the linked table fits the slice
pub linked_fits : (most : ℕ) (sheet hosts : List ℕ) (table work : ℕ) (m : Module) (hs : List HostFn) → all_of is_byte sheet ≡ true
    → opening sheet hosts table work ≡ opened m hs → length (table_words most hs m) ≤ table
unfolding needed
linked_fits most sheet hosts table work m hs h e =
    let o = opening_inv sheet hosts table work m hs e in
    omega (arith, o.table_long, decode_length sheet m h o.holds, table_fits most hs m)
