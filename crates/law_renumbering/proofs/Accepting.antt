-- What an accepted sheet's table holds.
use Rattle.std.specs.Prelude.{◌≡◌, ◌↔◌, Bool, true, false, cond, List, [], ◌∷◌, ◌++◌, ℕ, ◌≤◌, ◌<◌, length, drop, Option, None, Some, Ok}
use Rattle.std.proofs.Math.Path.{refl, ap₂, subst}
use Rattle.std.proofs.Common.{sym, ap, ◌∙◌, arith}
use Rattle.std.proofs.Math.Dec.{T}
use Rattle.error.specs.declared.LoadError.{LoadError}
use Rattle.error.specs.Answer.{Loaded}
use Rattle.error.specs.Answer.{is_accepted, first}
use Rattle.lists.specs.ListLaws.{T_true}
use Rattle.sheet.specs.Module.{Module}
use Rattle.sheet.specs.Decode.{decode}
use Rattle.host.specs.Host.{HostFn, decode_hosts}
use Rattle.sheet.specs.Editions.{most_of}
use Rattle.sheet.proofs.EditionLaws.{most_from_one}
use Rattle.spans.specs.Spans.{no_pre, descends_by_span}
use Rattle.table.specs.Table.{hook_section, table_of}
use Rattle.descends.specs.Descends.{descends}
use Rattle.descends.specs.Lengths.{chain_length_in}
use Rattle.families.specs.Families.{family_depth}
use Rattle.load.specs.Load.{faults_of, long_enough, Opened, with_hosts, opening, answer, load, linked_over, table_then, table_after}
use Rattle.law_forest.proofs.AcceptedLaws.{families}
use Rattle.sheet.proofs.DecodedTheorems.{decoded_few}
use Rattle.canon.specs.Canon.{canon_type}
use Rattle.code.specs.Callee.{func_at}
use Rattle.table.specs.Records.{catch_table}
use Rattle.law_linked.specs.Answers.{answered}
use Rattle.law_linked.specs.Lengths.{length_answered}
use Rattle.law_linked.specs.Find.{hooks_in, canon_in, catch_in}
use Rattle.law_linked.proofs.Found.{hooks_found, canon_found, catch_found}
use Rattle.law_renumbering.specs.AllRules.{parents_kept}
use Rattle.law_renumbering.specs.Statement.{Family, Call, has_room, LongEnough, answers, accepts, leaves}
use Rattle.load.proofs.LoadLaws.{opening_decoded}
use Rattle.load.proofs.KindLaws.{short_slice_lem}

-- ── accepted just where nothing is broken ──

first_accepted : (l : ℕ) (es : List LoadError) → T (is_accepted (first l es)) ↔ (es ≡ [])
unfolding is_accepted first
first_accepted l [] = (λ h. refl, λ e. tt)
first_accepted l (e ∷ es) = (λ h. absurd h, λ q. let z : ◌≡◌ {A = ℕ} 0 1 = cc in absurd (omega arith))

-- the host list of an accepted call, and what it left
pub record Opening (hosts : List ℕ) (table : List ℕ) (m : Module) (after : List ℕ) : Type 0 where
  pub host_list : List HostFn
  pub decodes : decode_hosts hosts ≡ Some host_list
  pub kept : faults_of host_list m ≡ []
  pub left : after ≡ table_of host_list m ++ drop (length (table_of host_list m)) table

over_table : (es : List LoadError) (linked table : List ℕ) → es ≡ [] → linked_over es linked table ≡ linked ++ drop (length linked) table
unfolding linked_over
over_table es linked table e = ap (λ (x : List LoadError). linked_over x linked table) e

opened_hosts : (hosts table : List ℕ) (m : Module) (enough : Bool) (o : Option (List HostFn)) → decode_hosts hosts ≡ o →
    T (is_accepted (answer (with_hosts enough m o))) → Opening hosts table m (table_then (with_hosts enough m o) table)
unfolding with_hosts answer table_then is_accepted
opened_hosts hosts table m enough None q h = absurd h
opened_hosts hosts table m false (Some hs) q h = absurd h
opened_hosts hosts table m true (Some hs) q h =
    let k = (first_accepted (length (table_of hs m)) (faults_of hs m)).0 h in
    record { host_list = hs; decodes = q; kept = k; left = over_table (faults_of hs m) (table_of hs m) table k }

module _ (hosts : List ℕ) (c : Call) (m : Module) (intact : decode c.sheet ≡ Some m) where
  pub accepted_opening : T (accepts hosts c) → Opening hosts c.table m (leaves hosts c)
  unfolding accepts answers leaves load table_after
  accepted_opening h =
      let e = opening_decoded c.sheet hosts (length c.table) (length c.work) m intact in
      subst (λ (o : Opened). Opening hosts c.table m (table_then o c.table)) (sym e)
      (opened_hosts hosts c.table m (long_enough c.sheet (length c.table) (length c.work)) (decode_hosts hosts) refl
      (subst (λ (o : Opened). T (is_accepted (answer o))) e h))

  pub opening_accepted : LongEnough hosts c → (hs : List HostFn) → decode_hosts hosts ≡ Some hs → faults_of hs m ≡ [] → T (accepts hosts c)
  unfolding LongEnough accepts answers load with_hosts answer
  opening_accepted room hs q k = go (long_enough c.sheet (length c.table) (length c.work)) refl
    where
      opens : (b : Bool) → long_enough c.sheet (length c.table) (length c.work) ≡ b →
          opening c.sheet hosts (length c.table) (length c.work) ≡ with_hosts b m (Some hs)
      opens b e =
          opening_decoded c.sheet hosts (length c.table) (length c.work) m intact
          ∙ ap₂ (λ (b : Bool) (o : Option (List HostFn)). with_hosts b m o) e q

      go : (b : Bool) → long_enough c.sheet (length c.table) (length c.work) ≡ b → T (accepts hosts c)
      go true e =
          subst (λ (o : Opened). T (is_accepted (answer o))) (sym (opens true e))
          ((first_accepted (length (table_of hs m)) (faults_of hs m)).1 k)
      go false e = absurd (room (ap answer (opens false e)))

-- what is accepted had room
pub accepted_long : (hosts : List ℕ) (c : Call) → T (accepts hosts c) → LongEnough hosts c
unfolding LongEnough accepts is_accepted
accepted_long hosts c h e = subst (λ (a : Loaded). T (is_accepted a)) e h

-- with room 24 is not given
pub room_long : (hosts : List ℕ) (c : Call) → T (has_room c) → LongEnough hosts c
unfolding has_room LongEnough answers
room_long hosts c h e = subst T ((short_slice_lem c.sheet hosts (length c.table) (length c.work)).0 e).2 h

-- ── the family query on what load left ──

pub cond_one : (b : Bool) → ◌≡◌ {A = ℕ} (cond b 1 0) 1 → T b
cond_one true e = tt
cond_one false e = omega arith

cond_zero : (b : Bool) → (T b → ⊥) → ◌≡◌ {A = ℕ} (cond b 1 0) 0
cond_zero true n = absurd (n tt)
cond_zero false n = refl

-- on the linked table of an accepted module, whatever follows it
pub family_front : (hs : List HostFn) (m : Module) → faults_of hs m ≡ [] → length m.types ≤ no_pre → (rest : List ℕ) →
    Family m (table_of hs m ++ rest)
family_front hs m faultless few rest =
    let left = table_of hs m ++ rest in
    let one = most_from_one m.edition in
    let kept = parents_kept (most_of m) hs m faultless in
    let spans : ℕ → ℕ → Bool = descends_by_span (most_of m) m.types in
    let at : (t a : ℕ) → descends left t a ≡ cond (spans t a) 1 0 = answered (most_of m) hs m rest kept one few in
    let f = families (most_of m) one m kept in
    record {
      yes = λ t a. (
        λ e. let k = (f t a).0 (cond_one (spans t a) (sym (at t a) ∙ e)) in record { below = k.0; above = k.1; reaches = k.2 },
        λ d. at t a ∙ ap (λ (b : Bool). cond b 1 0) (T_true (spans t a) ((f t a).1 (d.below, d.above, d.reaches))),
      );
      no = λ t a n. at t a ∙ cond_zero (spans t a) (λ b. let k = (f t a).0 b in n (record { below = k.0; above = k.1; reaches = k.2 }));
    }

-- an intact sheet has fewer types than a span can number
pub types_few : (sheet : List ℕ) (m : Module) → decode sheet ≡ Some m → length m.types ≤ no_pre
types_few sheet m intact = omega (arith, decoded_few sheet m intact)

pub family_left : (hosts : List ℕ) (c : Call) (m : Module) → decode c.sheet ≡ Some m → T (accepts hosts c) → Family m (leaves hosts c)
family_left hosts c m intact h =
    let o = accepted_opening hosts c m intact h in
    let rest = drop (length (table_of o.host_list m)) c.table in
    subst (Family m) (sym o.left) (family_front o.host_list m o.kept (types_few c.sheet m intact) rest)

-- ── what is found in what load left ──

-- the words that are read as chain lengths, hooks, canonical numbers and catch tables are those
pub record Holds (m : Module) (table : List ℕ) : Type 0 where
  pub lengths : (t : ℕ) → chain_length_in table t ≡ Ok (family_depth (most_of m) m.types t)
  pub hooks : hooks_in table ≡ hook_section m
  pub canonical : (t : ℕ) → t < length m.types → canon_in table t ≡ canon_type m.types t
  pub catches : (f : ℕ) → f < length m.funcs → catch_in table f ≡ catch_table (func_at m f)

pub holds_front : (hs : List HostFn) (m : Module) (rest : List ℕ) → Holds m (table_of hs m ++ rest)
holds_front hs m rest = record {
  lengths = length_answered (most_of m) hs m rest;
  hooks = hooks_found (most_of m) hs m rest;
  canonical = canon_found (most_of m) hs m rest;
  catches = catch_found (most_of m) hs m rest;
}

pub holds_left : (hosts : List ℕ) (c : Call) (m : Module) → decode c.sheet ≡ Some m → T (accepts hosts c) → Holds m (leaves hosts c)
holds_left hosts c m intact h =
    let o = accepted_opening hosts c m intact h in
    subst (Holds m) (sym o.left) (holds_front o.host_list m (drop (length (table_of o.host_list m)) c.table))
