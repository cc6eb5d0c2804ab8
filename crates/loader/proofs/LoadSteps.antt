-- The answer to any bytes, and the slices after it.
use Prim.Native.Nat.{ℕ, ◌+◌, ◌*◌, ◌≤◌}
use mathlib.Core.Path.{◌≡◌, sym, ap, ◌∙◌}
use mathlib.Core.List.{List}
use mathlib.Core.Bool.{true}
use native.Mathlib.Omega.{arith}
use lib.ListN.{length}
use Rattle.lists.specs.Lists.{all_of}
use Rattle.blocks.specs.ByteLaws.{is_byte}
use Rattle.blocks.specs.Frame.{first_words}
use Rattle.error.specs.declared.LoadErrorKind.{LoadErrorKind}
use Rattle.error.specs.Answer.{Loaded}
use Rattle.std.specs.Prelude.{Result, Err, Ok}
use Rattle.error.specs.Answer.{in_module}
use Rattle.sheet.proofs.SheetLaws.{decode_length}
use Rattle.host.specs.Listed.{listed_of, hosts_in}
use Rattle.open_hosts.specs.Sorted.{SortedHosts}
use Rattle.open_layout.specs.declared.Layout.{Layout}
use Rattle.open_layout.specs.Layout.{layout}
use Rattle.open_layout.specs.LayoutLaws.{Located}
use Rattle.open_layout.specs.Opened.{module_in}
use Rattle.sheet.specs.Editions.{most_of}
use Rattle.table.proofs.TableLaws.{table_few}
use Rattle.load.specs.Load as load
use Rattle.load.specs.Load.{refused, opened, opening, answer, load, table_then, table_after, work_then, work_after}
use Rattle.load.proofs.LoadLaws.{opening_inv, linked_fits}
use Rattle.open_inputs.specs.Inputs.{inputs_of}
use Rattle.open_inputs.specs.Indexed.{IndexedIf}
use Rattle.open_inputs.specs.InputsLaws.{Admitted, inputs_refused, inputs_intact}
use Rattle.rules.specs.OpenedLaws.{Zeroed}
use Rattle.load_intact.specs.Linking.{Fits, answered, table_left}

-- ── what is asked where the inputs are not refused ──

-- room for the linked table, of a sheet in bytes
fits : (sheet hosts : List ℕ) (work : ℕ) (l : Layout) (n : ℕ) (table : List ℕ) → all_of is_byte sheet ≡ true → Admitted sheet hosts (length table) work l n
    → Fits (hosts_in (first_words hosts n)) (module_in (first_words sheet l.words)) table
fits sheet hosts work l n table h a =
    let m = module_in (first_words sheet l.words) in
    let hs = hosts_in (first_words hosts n) in
    record {
      room = linked_fits (most_of m) sheet hosts (length table) work m hs h a.opens;
      small =
          omega (
            arith,
            a.few,
            a.stated,
            decode_length sheet m h (opening_inv sheet hosts (length table) work m hs a.opens).holds,
            table_few (most_of m) hs m,
          );
    }

pub load_asked : (sheet hosts table v : List ℕ) (work : ℕ) (l : Layout) (n : ℕ) {i : Result (Layout × ℕ) LoadErrorKind} → i ≡ Ok (l, n) → i ≡ inputs_of (layout sheet) (listed_of hosts) (length table) work → IndexedIf i hosts v →
    all_of is_byte sheet ≡ true →
    Located (first_words sheet l.words) (module_in (first_words sheet l.words)) l × ((l.words ≤ 520192) × ((64 + 8 * l.words ≤ work) × (SortedHosts (first_words hosts n) v × Fits (hosts_in (first_words hosts n)) (module_in (first_words sheet l.words)) table)))
load_asked sheet hosts table v work l n h e x b =
    let a = inputs_intact sheet hosts (length table) work e l n h in
    (a.located, (a.few, (a.room, (x.indexed l n h, fits sheet hosts work l n table b a))))

-- ── the three equations ──

module _ (sheet hosts table work : List ℕ) {i : Result (Layout × ℕ) LoadErrorKind} (e : i ≡ inputs_of (layout sheet) (listed_of hosts) (length table) (length work)) where
  module _ (k : LoadErrorKind) (h : i ≡ Err k) where
    closed : opening sheet hosts (length table) (length work) ≡ refused k
    closed = inputs_refused sheet hosts (length table) (length work) e k h

    pub refused_answer : {r : Loaded} → r ≡ Err (in_module k) → r ≡ load sheet hosts (length table) (length work)
    unfolding load answer
    refused_answer q = q ∙ sym (ap (λ (x : load.Opened). answer x) closed)

    pub refused_table : table ≡ table_after sheet hosts table work
    unfolding table_after table_then
    refused_table = sym (ap (λ (x : load.Opened). table_then x table) closed)

    pub refused_work : work ≡ work_after sheet hosts table work
    unfolding work_after work_then
    refused_work = sym (ap (λ (x : load.Opened). work_then x work) closed)

  module _ (l : Layout) (n : ℕ) (h : i ≡ Ok (l, n)) where
    opens : opening sheet hosts (length table) (length work) ≡ opened (module_in (first_words sheet l.words)) (hosts_in (first_words hosts n))
    opens = (inputs_intact sheet hosts (length table) (length work) e l n h).opens

    pub intact_answer : {r : Loaded} → r ≡ answered (hosts_in (first_words hosts n)) (module_in (first_words sheet l.words)) → r ≡ load sheet hosts (length table) (length work)
    unfolding load answer answered
    intact_answer q = q ∙ sym (ap (λ (x : load.Opened). answer x) opens)

    pub intact_table : {t : List ℕ} → t ≡ table_left (hosts_in (first_words hosts n)) (module_in (first_words sheet l.words)) table → t ≡ table_after sheet hosts table work
    unfolding table_after table_then table_left
    intact_table q = q ∙ sym (ap (λ (x : load.Opened). table_then x table) opens)

    pub intact_work : {v : List ℕ} → Zeroed work v → v ≡ work_after sheet hosts table work
    unfolding work_after work_then Zeroed
    intact_work q = q ∙ sym (ap (λ (x : load.Opened). work_then x work) opens)
