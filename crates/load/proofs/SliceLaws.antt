-- What table and work hold after load.
use Rattle.std.specs.Prelude.{ℕ, ◌≤◌, Bool, take, drop, Some, Err, Ok}
use Rattle.std.proofs.Math.Path.{◌≡◌, refl, ap}
use Rattle.std.proofs.Common.{sym, ◌∙◌, subst, arith, length-append, length-drop, take_at, drop_at}
use mathlib.Core.List.{List, [], ◌∷◌, ◌++◌}
use Rattle.std.proofs.Math.Bool.{true, false}
use Rattle.std.proofs.Math.ListN.{length, replicate}
use Rattle.lists.specs.Lists.{all_of}
use Rattle.blocks.specs.ByteLaws.{is_byte}
use Rattle.error.specs.declared.LoadError.{LoadError}
use Rattle.error.specs.Answer.{Loaded}
use Rattle.error.specs.Answer.{first}
use Rattle.sheet.specs.Module.{Module}
use Rattle.sheet.specs.Decode.{decode}
use Rattle.host.specs.Host.{HostFn, decode_hosts}
use Rattle.sheet.specs.Editions.{most_of}
use Rattle.table.specs.Table.{table_of}
use Rattle.load.specs.Load.{faults_of, long_enough, Opened, refused, opened, opening, answer, load, linked_over, table_then, work_then}
use Rattle.load.specs.Load.{table_after, work_after}
use Rattle.load.proofs.LoadLaws.{linked_fits}
use Rattle.load.proofs.KindLaws.{early, early_apart, opened_refused, refused_early, Links, opens, accepted}

-- ── table ──

-- what a refusal leaves of the table: all of it
table_kept : (o : Opened) (table : List ℕ) (e : LoadError) → answer o ≡ Err e → table_then o table ≡ table
unfolding answer table_then
table_kept (refused k) table e q = refl
table_kept (opened m hs) table e q = go (faults_of hs m) q
  where
    go : (es : List LoadError) → first (length (table_of hs m)) es ≡ Err e → linked_over es (table_of hs m) table ≡ table
    go [] q = unfold first in let z : ◌≡◌ {A = ℕ} 0 1 = cc in absurd (omega arith)
    go (x ∷ es) q = unfold linked_over in refl

-- the linked table comes first, what stood after it stays
pub record Written (linked before after : List ℕ) (l : ℕ) : Type 0 where
  pub front : take l after ≡ linked
  pub rest : drop l after ≡ drop l before

-- the words of the table after acceptance
written_over : (linked table : List ℕ) (l : ℕ) → l ≡ length linked → Written linked table (linked ++ drop (length linked) table) l
written_over linked table l e = record {
  front = take_at linked (drop (length linked) table) l (sym e);
  rest = drop_at linked (drop (length linked) table) l (sym e) ∙ ap (λ n. drop n table) (sym e);
}

-- a linked table that fits keeps the length
over_length : (es : List LoadError) (linked table : List ℕ) → length linked ≤ length table → length (linked_over es linked table) ≡ length table
unfolding linked_over
over_length [] linked table f = simp (length-append, length-drop) (omega arith)
over_length (e ∷ es) linked table f = refl

module _ (sheet hosts table work : List ℕ) where
  -- a refusal changes no table word
  pub untouched_table : (e : LoadError) → load sheet hosts (length table) (length work) ≡ Err e → table_after sheet hosts table work ≡ table
  unfolding load table_after
  untouched_table e q = table_kept (opening sheet hosts (length table) (length work)) table e q

  -- after acceptance: the linked table, and the rest of what was there
  over : (l : ℕ) (k : Links sheet hosts (length table) (length work) l)
      → table_after sheet hosts table work ≡ table_of k.host_list k.source ++ drop (length (table_of k.host_list k.source)) table
  unfolding table_after table_then linked_over
  over l k =
      ap (λ (o : Opened). table_then o table) (opens sheet hosts (length table) (length work) k.source k.host_list k.decodes k.lists k.long)
      ∙ ap (λ (es : List LoadError). linked_over es (table_of k.host_list k.source) table) k.kept

  -- acceptance with l words changes the first l only, to the linked table
  pub table_written : (l : ℕ) (m : Module) (hs : List HostFn) → load sheet hosts (length table) (length work) ≡ Ok l
      → decode sheet ≡ Some m → decode_hosts hosts ≡ Some hs → Written (table_of hs m) table (table_after sheet hosts table work) l
  table_written l m hs q d o =
      let k = (accepted sheet hosts (length table) (length work) l).0 q in
      let a : k.source ≡ m = let e : Some k.source ≡ Some m = sym k.decodes ∙ d in cc in
      let b : k.host_list ≡ hs = let e : Some k.host_list ≡ Some hs = sym k.lists ∙ o in cc in
      subst (λ (m : Module). Written (table_of hs m) table (table_after sheet hosts table work) l) a
      (subst (λ (hs : List HostFn). Written (table_of hs k.source) table (table_after sheet hosts table work) l) b
      (rw (over l k) (written_over (table_of k.host_list k.source) table l k.words)))

  -- the table keeps its length: of a sheet in bytes, the linked table fits
  pub table_length_lem : all_of is_byte sheet ≡ true → length (table_after sheet hosts table work) ≡ length table
  unfolding table_after
  table_length_lem h = go (opening sheet hosts (length table) (length work)) refl
    where
      go : (o : Opened) → opening sheet hosts (length table) (length work) ≡ o → length (table_then o table) ≡ length table
      go (refused k) p = unfold table_then in refl
      go (opened m hs) p =
          unfold table_then in over_length (faults_of hs m) (table_of hs m) table
          (linked_fits (most_of m) sheet hosts (length table) (length work) m hs h p)

-- ── work ──

-- the answers 1, 23 and 24
unfoldable pub before_rules : Loaded → Bool
before_rules (Ok l) = false
before_rules (Err e) = early e.kind

-- what was opened is not answered by 1, 23 or 24
opened_late : (m : Module) (hs : List HostFn) (a : Loaded) → answer (opened m hs) ≡ a → before_rules a ≡ true → ⊥
unfolding before_rules
opened_late m hs (Ok l) q b = let z : ◌≡◌ {A = ℕ} 0 1 = cc in omega arith
opened_late m hs (Err e) q b = let t = opened_refused m hs e q in let f = early_apart e.kind b in let z : ◌≡◌ {A = ℕ} 0 1 = cc in omega arith

module _ (sheet hosts table work : List ℕ) where
  -- 1, 23 and 24 touch nothing
  pub work_untouched : before_rules (load sheet hosts (length table) (length work)) ≡ true → work_after sheet hosts table work ≡ work
  unfolding load work_after
  work_untouched h = go (opening sheet hosts (length table) (length work)) h
    where
      go : (o : Opened) → before_rules (answer o) ≡ true → work_then o work ≡ work
      go (refused k) h = unfold work_then in refl
      go (opened m hs) h = absurd (opened_late m hs (answer (opened m hs)) refl h)

  -- after any other answer work is zero
  pub work_zero_lem : before_rules (load sheet hosts (length table) (length work)) ≡ false → work_after sheet hosts table work ≡ replicate (length work) 0
  unfolding load work_after opening
  work_zero_lem h = go (opening sheet hosts (length table) (length work)) refl h
    where
      go : (o : Opened) → opening sheet hosts (length table) (length work) ≡ o → before_rules (answer o) ≡ false → work_then o work ≡ replicate (length work) 0
      go (refused k) p h =
          let t = refused_early (long_enough sheet (length table) (length work)) (decode sheet) (decode_hosts hosts) k p in
          let f : early k ≡ false = unfold answer before_rules in h in
          let z : ◌≡◌ {A = ℕ} 0 1 = cc in absurd (omega arith)
      go (opened m hs) p h = unfold work_then in refl
