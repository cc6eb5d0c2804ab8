-- The groups one after the other, and what each asks of the one before.
use Prim.Native.Nat.{ℕ, ◌+◌, ◌*◌, ◌<◌}
use mathlib.Core.Path.{◌≡◌, refl, sym, ap, subst, ◌∙◌}
use mathlib.Core.List.{List, ◌++◌}
use native.Mathlib.Omega.{arith}
use lib.ListN.{length}
use Rattle.lists.specs.ListLaws.{get_d_other}
use Rattle.error.specs.declared.LoadError.{LoadError}
use Rattle.error.specs.Verdict.{Judged}
use Rattle.std.specs.Prelude.{Err, Ok}
use Rattle.error.specs.Verdict.{judged_of}
use Rattle.error.specs.VerdictLaws.{judged_then, judged_stop}
use Rattle.sheet.specs.Module.{Func, Module}
use Rattle.host.specs.Host.{HostFn}
use Rattle.open_layout.specs.Opened.{module_in}
use Rattle.types.specs.Types.{types_faults}
use Rattle.sheet.specs.Editions.{most_on_chain, most_of}
use Rattle.parents.specs.Parents.{parents_faults}
use Rattle.consts.specs.Consts.{consts_faults}
use Rattle.imports.specs.Imports.{imports_faults, globals_faults}
use Rattle.funcs.specs.Funcs.{funcs_faults}
use Rattle.code.specs.Callee.{no_func, func_at}
use Rattle.code.specs.Code.{codes_faults}
use Rattle.hooks.specs.Hooks.{hooks_faults, start_faults, exports_faults}
use Rattle.load.specs.Load.{faults_of}
use Rattle.region.specs.Region.{word_at, Off, Frame}
use Rattle.region.specs.RegionLaws.{frame_then}
use Rattle.open_sheet.specs.declared.Opened.{Opened}
use Rattle.open_sheet.specs.Ready.{Ready, Kept, Above, Captured}
use Rattle.open_sheet.specs.ReadyLaws.{count_funcs, funcs_inside, callees_inside, ready_below, ready_most, kept_same}
use Rattle.open_sheet.specs.ReadyLaws.{above_refl, above_then, ready_above, captured_above}
use Rattle.rule_bodies.specs.Bodies.{Countable}
use Rattle.rule7_arguments.specs.Arguments.{fewest_at, Fewest, Tallied}
use Rattle.rule7_arguments.specs.ArgumentLaws.{captured_fewest}
use Rattle.rule5_imports.specs.Links.{HostEntries, LinkedIf}
use Rattle.rules.specs.Groups.{front_faults, record_faults, end_faults, body_faults, LinksKept}
use Rattle.rules.specs.GroupLaws.{in_groups, front_types, links_ready, links_linked, linked_refused}

-- ── three lists of faults in a row ──

module _ (a b c : List LoadError) where
  first_stop : {r : Judged} (e : LoadError) → r ≡ Err e → r ≡ judged_of a → Err e ≡ judged_of (a ++ b ++ c)
  first_stop e h k = judged_stop (a ++ b) c e refl (judged_stop a b e h k)

  second_stop : {r s : Judged} (e : LoadError) → r ≡ Ok tt → r ≡ judged_of a → s ≡ Err e → s ≡ judged_of b →
      Err e ≡ judged_of (a ++ b ++ c)
  second_stop e h k i j = judged_stop (a ++ b) c e refl (sym i ∙ judged_then a b h k j)

  third_last : {r s x : Judged} → r ≡ Ok tt → r ≡ judged_of a → s ≡ Ok tt → s ≡ judged_of b → x ≡ judged_of c → x ≡ judged_of (a ++ b ++ c)
  third_last h k i j l = judged_then (a ++ b) c i (judged_then a b h k j) l

-- ── rules 2 to 4 ──

-- under the limit of the edition
pub chains_judged : (ws w : List ℕ) (o : Opened) → Ready ws w o → {most : ℕ} {r : Judged} → most ≡ most_on_chain o.edition
    → r ≡ judged_of (parents_faults most (module_in ws)) → r ≡ judged_of (parents_faults (most_of (module_in ws)) (module_in ws))
chains_judged ws w o x e j = j ∙ ap (λ n. judged_of (parents_faults n (module_in ws))) (ready_most ws w o x e)

module _ (m : Module) where
  pub types_stop : {r : Judged} (e : LoadError) → r ≡ Err e → r ≡ judged_of (types_faults m) → Err e ≡ judged_of (front_faults m)
  unfolding front_faults
  types_stop = first_stop (types_faults m) (parents_faults (most_of m) m) (consts_faults 64 m)

  pub parents_stop : {r s : Judged} (e : LoadError) → r ≡ Ok tt → r ≡ judged_of (types_faults m) → s ≡ Err e →
      s ≡ judged_of (parents_faults (most_of m) m) → Err e ≡ judged_of (front_faults m)
  unfolding front_faults
  parents_stop = second_stop (types_faults m) (parents_faults (most_of m) m) (consts_faults 64 m)

  pub consts_last : {r s x : Judged} → r ≡ Ok tt → r ≡ judged_of (types_faults m) → s ≡ Ok tt →
      s ≡ judged_of (parents_faults (most_of m) m) → x ≡ judged_of (consts_faults 64 m) → x ≡ judged_of (front_faults m)
  unfolding front_faults
  consts_last = third_last (types_faults m) (parents_faults (most_of m) m) (consts_faults 64 m)

pub ruleset front_order = (types_stop, parents_stop, consts_last, kept_same)

-- ── rules 5 and 6 ──

module _ (hosts : List HostFn) (m : Module) where
  pub imports_stop : {r : Judged} (e : LoadError) → r ≡ Err e → r ≡ judged_of (imports_faults hosts m) →
      Err e ≡ judged_of (record_faults hosts m)
  unfolding record_faults
  imports_stop = first_stop (imports_faults hosts m) (globals_faults m) (funcs_faults m)

  pub globals_stop : {r s : Judged} (e : LoadError) → r ≡ Ok tt → r ≡ judged_of (imports_faults hosts m) → s ≡ Err e →
      s ≡ judged_of (globals_faults m) → Err e ≡ judged_of (record_faults hosts m)
  unfolding record_faults
  globals_stop = second_stop (imports_faults hosts m) (globals_faults m) (funcs_faults m)

  pub funcs_last : {r s x : Judged} → r ≡ Ok tt → r ≡ judged_of (imports_faults hosts m) → s ≡ Ok tt → s ≡ judged_of (globals_faults m) →
      x ≡ judged_of (funcs_faults m) → x ≡ judged_of (record_faults hosts m)
  unfolding record_faults
  funcs_last = third_last (imports_faults hosts m) (globals_faults m) (funcs_faults m)

pub kept_equal : (o : Opened) (w v u : List ℕ) → Kept o w v → u ≡ v → Kept o w u
kept_equal o w v u k e = subst (Kept o w) (sym e) k

-- functions' records leave work as it was
pub linked_equal : (hosts : List HostFn) (ws w v : List ℕ) (o : Opened) {r s : Judged} → r ≡ Ok tt → LinkedIf r hosts ws w o → v ≡ w →
    LinkedIf s hosts ws v o
linked_equal hosts ws w v o {r} {s} e l q = record { entries = λ _. subst (λ (u : List ℕ). HostEntries hosts ws u o (length (module_in ws).imports)) (sym q) (l.entries e) }

pub ruleset record_order = (imports_stop, globals_stop, funcs_last, kept_equal, linked_equal, linked_refused)

-- ── rule 8 ──

module _ (m : Module) where
  pub hooks_stop : {r : Judged} (e : LoadError) → r ≡ Err e → r ≡ judged_of (hooks_faults m) → Err e ≡ judged_of (end_faults m)
  unfolding end_faults
  hooks_stop = first_stop (hooks_faults m) (start_faults m) (exports_faults m)

  pub start_stop : {r s : Judged} (e : LoadError) → r ≡ Ok tt → r ≡ judged_of (hooks_faults m) → s ≡ Err e →
      s ≡ judged_of (start_faults m) → Err e ≡ judged_of (end_faults m)
  unfolding end_faults
  start_stop = second_stop (hooks_faults m) (start_faults m) (exports_faults m)

  pub exports_last : {r s x : Judged} → r ≡ Ok tt → r ≡ judged_of (hooks_faults m) → s ≡ Ok tt → s ≡ judged_of (start_faults m) →
      x ≡ judged_of (exports_faults m) → x ≡ judged_of (end_faults m)
  unfolding end_faults
  exports_last = third_last (hooks_faults m) (start_faults m) (exports_faults m)

pub ruleset end_order = (hooks_stop, start_stop, exports_last, above_refl)

-- ── rules 7 and 8 ──

module _ (m : Module) where
  pub codes_stop : {r : Judged} (e : LoadError) → r ≡ Err e → r ≡ judged_of (codes_faults m) → Err e ≡ judged_of (body_faults m)
  unfolding body_faults
  codes_stop e h k = judged_stop (codes_faults m) (end_faults m) e h k

  pub ends_last : {r x : Judged} → r ≡ Ok tt → r ≡ judged_of (codes_faults m) → x ≡ judged_of (end_faults m) → x ≡ judged_of (body_faults m)
  unfolding body_faults
  ends_last h k l = judged_then (codes_faults m) (end_faults m) h k l

module _ (ws w : List ℕ) (o : Opened) (x : Ready ws w o) where
  pub countable : Countable ws w o
  countable = record {
    opens = x.opens;
    room = x.room;
    funcs = x.funcs;
    edges = omega (arith, funcs_inside ws w o x);
  }

  abbrev Counted : List ℕ → Type 0
  Counted v = (f : ℕ) → f < o.counts.funcs → word_at v (4 * o.layout.words) f ≡ length (func_at (module_in ws) f).captures

  -- captures, then the fewest arguments
  module _ (v : List ℕ) (a : Frame (Off (4 * o.layout.words) (4 * o.layout.words + o.counts.funcs)) w v) where
    pub counted_ready : Ready ws v o
    counted_ready = ready_below ws w o x v (record { len = a.len; same = λ k h. a.same k (λ i j. omega arith) })

    counted_captured : Counted v → Captured ws v o
    unfolding func_at
    counted_captured c = record {
      captures = λ f d h.
          c f (omega (arith, count_funcs ws o x.opens))
          ∙ ap (λ (g : Func). length g.captures) (get_d_other (module_in ws).funcs f no_func d h);
    }

    module _ (u : List ℕ) (b : Frame (Off (fewest_at o) (fewest_at o + o.counts.imports)) v u) where
      pub tallied_frame : Frame (Off (4 * o.layout.words) (5 * o.layout.words)) w u
      tallied_frame =
          let inside = callees_inside ws w o x in
          frame_then _ _ _ w v u (λ k h i j. h i (omega (arith, inside))) (λ k h i j. h (omega arith) (omega (arith, inside))) a b

      pub tallied : Counted v → Fewest ws u o → Tallied ws u o
      tallied c f = record { captured = captured_fewest ws v o counted_ready u b (counted_captured c); fewest = f }

  -- code writes above only
  module _ (v : List ℕ) (a : Frame (Off (4 * o.layout.words) (5 * o.layout.words)) w v) where
    pub tallied_ready : Ready ws v o
    tallied_ready = ready_below ws w o x v (record { len = a.len; same = λ k h. a.same k (λ i j. omega arith) })

    module _ (u : List ℕ) (b : Above o v u) where
      pub swept_ready : Ready ws u o
      swept_ready = ready_above o ws v u tallied_ready b

      pub swept_captured : Tallied ws v o → Captured ws u o
      swept_captured y = captured_above o ws v u tallied_ready b y.captured

      pub swept_links : LinksKept o w u
      unfolding Above LinksKept
      swept_links = frame_then _ _ _ w v u (λ k h. h.0) (λ k h. h.1) a b

    -- and so do the marks of names
    pub ended_links : (u t : List ℕ) → Above o v u → Above o u t → LinksKept o w t
    ended_links u t b d = swept_links t (above_then o v u t b d)

pub ruleset tally_order = (countable, counted_ready, tallied_frame, tallied)

pub ruleset body_order = (
  codes_stop,
  ends_last,
  tallied_ready,
  swept_ready,
  swept_captured,
  swept_links,
  ended_links,
)

-- ── all rules ──

module _ (hosts : List HostFn) (m : Module) where
  abbrev later : List LoadError
  later = record_faults hosts m ++ body_faults m

  pub front_stop : {r : Judged} (e : LoadError) → r ≡ Err e → r ≡ judged_of (front_faults m) → Err e ≡ judged_of (faults_of hosts m)
  front_stop e h k = judged_stop (front_faults m) later e h k ∙ sym (in_groups hosts m)

  pub records_stop : {r s : Judged} (e : LoadError) → r ≡ Ok tt → r ≡ judged_of (front_faults m) → s ≡ Err e →
      s ≡ judged_of (record_faults hosts m) → Err e ≡ judged_of (faults_of hosts m)
  records_stop e h k i j = judged_then (front_faults m) later h k (judged_stop (record_faults hosts m) (body_faults m) e i j)
      ∙ sym (in_groups hosts m)

  pub bodies_last : {r s x : Judged} → r ≡ Ok tt → r ≡ judged_of (front_faults m) → s ≡ Ok tt → s ≡ judged_of (record_faults hosts m) →
      x ≡ judged_of (body_faults m) → x ≡ judged_of (faults_of hosts m)
  bodies_last h k i j l = judged_then (front_faults m) later h k (judged_then (record_faults hosts m) (body_faults m) i j l)
      ∙ sym (in_groups hosts m)

pub ruleset all_order = (front_stop, records_stop, bodies_last, front_types, linked_refused, links_ready, links_linked)
