-- Constants by number: those before i break no rule, and their depths are stored.
use Prim.Native.Nat.{ℕ, ◌+◌, ◌*◌, ◌≤◌, ◌<◌}
use mathlib.Core.Path.{◌≡◌, refl, sym, ap, ap₂, subst, ◌∙◌}
use mathlib.Core.List.{List, [], ◌∷◌, ◌++◌, append_assoc}
use native.Mathlib.Omega.{arith}
use native.Mathlib.Decide.{dec_lt}
use lib.Dec.{leb, ltb}
use lib.ListN.{length, get_or, set, take, length-set}
use lib.Seq.{get_or-take, length-take-le, get_or-set_same, get_or-set_other}
use Rattle.lists.specs.Lists.{all_of, concat_map_from}
use Rattle.error.specs.declared.LoadErrorKind.{LoadErrorKind}
use Rattle.error.specs.declared.LoadErrorKind.TheVariants.{BadConstant}
use Rattle.error.specs.Verdict.{Judged, Verdict, verdict_of, judged_of, placed}
use Rattle.std.specs.Prelude.{Err, Ok, Result}
use Rattle.error.specs.Answer.{unless, in_module}
use Rattle.error.specs.VerdictLaws.{placed_faults_lem}
use Rattle.reader.specs.Value.{Whole, value_of}
use Rattle.sheet.specs.Module.{Const, plain, Module}
use Rattle.sheet.specs.Decode.{const_of}
use Rattle.open_layout.specs.Opened.{module_in}
use Rattle.region.specs.Region.{part, Frame}
use Rattle.region.specs.RegionLaws.{frame_refl, frame_then, frame_set, part_at, part_is}
use Rattle.consts.specs.Consts.{children_of, depth_of, depths, string_const_faults, const_faults, consts_faults}
use Rattle.consts.specs.ConstsLaws.{length_depths, depth_at}
use Rattle.law_judging.specs.Clearing.{Clears, clears_start, clears_next, clears_holds, clears_stop}
use Rattle.open_sheet.specs.declared.Opened.{Opened}
use Rattle.open_sheet.specs.Ready.{Opens, Ready, Kept, pos_at}
use Rattle.open_sheet.specs.ReadyLaws.{entry_room, entry_whole, entry_value, consts_in, count_consts, consts_inside, ready_kept}
use Rattle.rule4_nesting.specs.Nesting.{nested_of, nest_faults, const_nesting}
use Rattle.rule4_consts.specs.InOrder.{broken_consts}

-- ── an answer ──

nested_depth : (f : List LoadErrorKind) (depth d : ℕ) {r : Result ℕ LoadErrorKind} → r ≡ Ok d → r ≡ nested_of f depth
    → (f ≡ []) × (d ≡ depth)
unfolding nested_of
nested_depth [] depth d e k = (refl, cc)
nested_depth (x ∷ f) depth d e k = let z : ◌≡◌ {A = ℕ} 0 1 = cc in absurd (omega arith)

nested_broken : (f : List LoadErrorKind) (depth : ℕ) (b : LoadErrorKind) {r : Result ℕ LoadErrorKind} → r ≡ Err b → r ≡ nested_of f depth
    → Err b ≡ verdict_of f
unfolding nested_of verdict_of
nested_broken [] depth b e k = let z : ◌≡◌ {A = ℕ} 0 1 = cc in absurd (omega arith)
nested_broken (x ∷ f) depth b e k = let z : b ≡ x = cc in ap Err z

-- given the depths before it, a constant is broken as among all
nesting_faults : (m : Module) (most i : ℕ) (k : Const) → i < length m.consts → get_or m.consts i (plain 0 0) ≡ k →
    const_nesting m most (take i (depths m.consts)) i k
    ≡ nested_of (const_faults most m (depths m.consts) i k) (get_or (depths m.consts) i 0)
unfolding const_nesting nest_faults const_faults
nesting_faults m most i k h e =
    let ds = depths m.consts in
    let d : depth_of (take i ds) (children_of k)
    ≡ get_or ds i 0 = sym (depth_at m.consts i (plain 0 0) h ∙ ap (λ x. depth_of (take i ds) (children_of x)) e) in
    let a = string_const_faults m k in
    let b = unless (all_of (λ c. ltb c i) (children_of k)) BadConstant in
    ap (λ x. nested_of (a ++ (b ++ unless (leb x most) BadConstant)) x) d
    ∙ ap (λ l. nested_of l (get_or ds i 0)) (sym (append_assoc a b (unless (leb (get_or ds i 0) most) BadConstant)))

-- ── the loop ──

-- one more of ds is stored after the first i
part_grown : (base i : ℕ) (w v ds : List ℕ) (d : ℕ) → base + i < length w → i < length ds → part base i w ≡ take i ds → d ≡ get_or ds i 0
    → v ≡ set w (base + i) d →
    part base (i + 1) v ≡ take (i + 1) ds
part_grown base i w v ds d h k e u z =
    ap (part base (i + 1)) z
    ∙ part_is base (i + 1) (set w (base + i) d) (take (i + 1) ds) (omega (arith, length-set w (base + i) d))
    (length-take-le (i + 1) ds (omega arith)) (λ j l. go j l (dec_lt j i))
  where
    go : (j : ℕ) → j < i + 1 → Dec (j < i) → get_or (set w (base + i) d) (base + j) 0 ≡ get_or (take (i + 1) ds) j 0
    go j l (yes t) =
        get_or-set_other w (base + i) (base + j) d 0 (omega arith)
        ∙ sym (part_at base i w j t)
        ∙ ap (λ s. get_or s j 0) e
        ∙ get_or-take i ds j 0 t
        ∙ sym (get_or-take (i + 1) ds j 0 l)
    go j l (no t) =
        let s : j ≡ i = omega arith in
        rw s (get_or-set_same w (base + i) d 0 h ∙ u ∙ sym (get_or-take (i + 1) ds i 0 (omega arith)))

-- w is w₀ but for the free words, which hold the depths of the constants before i; nothing is broken in those
pub record Deep (most : ℕ) (ws w₀ : List ℕ) (o : Opened) (w : List ℕ) (i : ℕ) : Type 0 where
  pub ready : Ready ws w o
  pub kept : Kept o w₀ w
  pub stored : part (5 * o.layout.words) i w ≡ take i (depths (module_in ws).consts)
  pub clears : Clears (const_faults most (module_in ws) (depths (module_in ws).consts)) (module_in ws).consts i

module _ (most : ℕ) (ws w₀ : List ℕ) (o : Opened) where
  pub deep_start : Ready ws w₀ o → Deep most ws w₀ o w₀ 0
  unfolding Kept part
  deep_start x = record {
    ready = x;
    kept = frame_refl (λ k. k < 5 * o.layout.words) w₀;
    stored = refl;
    clears = clears_start (const_faults most (module_in ws) (depths (module_in ws).consts)) (module_in ws).consts;
  }

  module _ (w : List ℕ) (i : ℕ) (x : Deep most ws w₀ o w i) where
    pub deep_length : length w ≡ length w₀
    unfolding Kept
    deep_length = x.kept.len

    pub deep_kept : Kept o w₀ w
    deep_kept = x.kept

    pub deep_opens : Opens ws o
    deep_opens = x.ready.opens

    pub deep_end : o.counts.consts ≤ i →
        Ok tt ≡ verdict_of (broken_consts most (module_in ws))
    unfolding broken_consts
    deep_end h =
        clears_holds
        (const_faults most (module_in ws) (depths (module_in ws).consts))
        (module_in ws).consts
        i
        x.clears
        (omega (arith, count_consts ws o x.ready.opens))

    module _ (h : i < o.counts.consts) where
      inside : i < length (module_in ws).consts
      inside = consts_in ws w o x.ready i h

      pub deep_entry : o.index.consts + i < length w
      deep_entry = entry_room const_of ws (module_in ws).consts w o.index.consts x.ready.consts i inside

      pub deep_room : 5 * o.layout.words + i < length w
      deep_room = omega (arith, x.ready.room, consts_inside ws w o x.ready, inside)

      pub deep_under : 5 * o.layout.words + i ≤ length w
      deep_under = omega (arith, deep_room)

      module _ {p : ℕ} (e : p ≡ pos_at w o.index.consts i) where
        pub deep_whole : Whole (const_of ws p)
        deep_whole = subst (λ q. Whole (const_of ws q)) (sym e)
            (entry_whole const_of ws (module_in ws).consts w o.index.consts x.ready.consts (plain 0 0) i inside)

        value : value_of (plain 0 0) (const_of ws p) ≡ get_or (module_in ws).consts i (plain 0 0)
        value = ap (λ q. value_of (plain 0 0) (const_of ws q)) e
            ∙ entry_value const_of ws (module_in ws).consts w o.index.consts x.ready.consts (plain 0 0) i inside

        module _ {r : Result ℕ LoadErrorKind}
            (k : r ≡ const_nesting (module_in ws) most (part (5 * o.layout.words) i w) i (value_of (plain 0 0) (const_of ws p))) where
          found : r ≡ nested_of
              (const_faults most (module_in ws) (depths (module_in ws).consts) i (get_or (module_in ws).consts i (plain 0 0)))
              (get_or (depths (module_in ws).consts) i 0)
          found = k ∙ ap₂ (λ s v. const_nesting (module_in ws) most s i v) x.stored value
              ∙ nesting_faults (module_in ws) most i (get_or (module_in ws).consts i (plain 0 0)) inside refl

          pub deep_stop : {b : LoadErrorKind} → r ≡ Err b →
              Err b ≡ verdict_of (broken_consts most (module_in ws))
          unfolding broken_consts
          deep_stop {b} y =
              clears_stop
              (const_faults most (module_in ws) (depths (module_in ws).consts))
              (module_in ws).consts
              i
              x.clears
              (plain 0 0)
              inside
              refl
              (nested_broken _ _ b y found)

          pub deep_next : {d : ℕ} {v : List ℕ} → r ≡ Ok d → v ≡ set w (5 * o.layout.words + i) d → Deep most ws w₀ o v (i + 1)
          unfolding Kept
          deep_next {d} {v} y z =
              let base = 5 * o.layout.words in
              let f : Frame (λ k. k < base) w v = subst (Frame (λ k. k < base) w) (sym z)
              (frame_set (λ k. k < base) w (base + i) d (λ l. omega arith)) in
              let a = nested_depth
              (const_faults most (module_in ws) (depths (module_in ws).consts) i (get_or (module_in ws).consts i (plain 0 0)))
              (get_or (depths (module_in ws).consts) i 0) d y found in
              record {
                ready = ready_kept ws w o x.ready v f;
                kept = frame_then (λ k. k < base) (λ k. k < base) (λ k. k < base) w₀ w v (λ k l. l) (λ k l. l) x.kept f;
                stored = part_grown base i w v (depths (module_in ws).consts) d deep_room
                    (omega (arith, inside, length_depths (module_in ws).consts)) x.stored a.1 z;
                clears = clears_next (const_faults most (module_in ws) (depths (module_in ws).consts)) (module_in ws).consts i x.clears
                    (plain 0 0) inside a.0;
              }

pub ruleset deeps = (deep_start, deep_kept, deep_opens, deep_end, deep_entry, deep_room, deep_under, deep_whole, deep_stop, deep_next)

-- ── the whole group ──

pub consts_judged : (most : ℕ) (m : Module) {v : Verdict} {r : Judged} → v ≡ verdict_of (broken_consts most m) → r ≡ placed in_module v →
    r ≡ judged_of (consts_faults most m)
unfolding consts_faults broken_consts
consts_judged most m e k = placed_faults_lem in_module (concat_map_from 0 (const_faults most m (depths m.consts)) m.consts) e k
