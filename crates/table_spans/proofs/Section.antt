-- The section: the count, spans of no struct, and over them the spans of the structs, each of which is on the walk of one root.
use mathlib.Core.Path.{◌≡◌, refl, sym, ap, ap₂, subst, ◌∙◌}
use mathlib.Core.Bool.{Bool, true, false}
use mathlib.Core.List.{List, []}
use Prim.Native.Nat.{ℕ, zero, suc, ◌+◌, ◌-◌, ◌*◌, ◌/◌, ◌%◌, ◌≤◌, ◌<◌}
use native.Mathlib.Omega.{arith}
use native.Mathlib.Nat.{mod-lt, div-add-mod'}
use native.Mathlib.Decide.{dec_lt}
use lib.ListN.{length, get_or, set, length-set}
use lib.Seq.{get_or-set_same, get_or-set_other}
use Rattle.lists.specs.Lists.{concat_map}
use Rattle.law_counting.specs.Counting.{tick, count}
use Rattle.region.specs.Region.{Off, Frame}
use Rattle.sheet.specs.Module.{TypeDef, Module, type_at, is_struct}
use Rattle.open_layout.specs.Opened.{module_in}
use Rattle.sheet.specs.Editions.{most_on_chain, most_of}
use Rattle.sheet.proofs.EditionLaws.{most_from_one}
use Rattle.parents.specs.Parents.{parents_faults}
use Rattle.spans.specs.Spans.{roots, under, order, span_of, spans}
use Rattle.law_forest.specs.Entries.{is_struct_entry, struct_at, entry_out}
use Rattle.law_forest.specs.Once.{ChainRule, once}
use Rattle.law_forest.specs.Family.{Part, part_self, ready_root}
use Rattle.law_forest.proofs.AcceptedLaws.{chain_rule}
use Rattle.law_forest.specs.Lengths.{length_roots}
use Rattle.table.specs.Table.{span_section, spans_of}
use Rattle.table.proofs.TableLaws.{span_at, span_section_length}
use Rattle.open_sheet.specs.declared.Opened.{Opened}
use Rattle.open_sheet.specs.Ready.{Ready}
use Rattle.open_sheet.specs.ReadyLaws.{ready_most}
use Rattle.writing.specs.Writing.{written}
use Rattle.writing.specs.WritingLaws.{written_by}
use Rattle.table_spans.specs.Siblings.{members_from}
use Rattle.table_spans.specs.Walked.{walks_from, Walks, Numbered, Blank}
use Rattle.table_spans.proofs.LinkSteps.{members_roots, counted}

-- ── the walk of the roots ──

walks_order : (most : ℕ) (types : List TypeDef) → walks_from most types 0 0 ≡ order most types
unfolding walks_from order
walks_order most types = ap (concat_map (under most types)) (members_roots types)

walks_roots : (most : ℕ) → 1 ≤ most → (m : Module) → parents_faults most m ≡ [] → Walks most m.types 0 0 most
walks_roots most one m e =
    let rule : ChainRule most m.types = chain_rule most one m e in
    let all = walks_from most m.types 0 0 in
    record {
      rule = rule;
      placed = record { part = subst (λ l. Part all l) (walks_order most m.types) (part_self all); before = refl };
      ready = λ t h. ready_root most m.types rule t (rooted t h);
      level = λ t h. omega (arith, length_roots most m.types rule t (rooted t h));
    }
  where
    rooted : (t : ℕ) → 1 ≤ count t (members_from m.types 0 0) → 1 ≤ count t (roots m.types)
    rooted t h = subst (λ l. 1 ≤ count t l) (members_roots m.types) h

-- ── words of the section ──

-- j is word r of some span x
by_three : {C : Type 0} (j : ℕ) → ((x r : ℕ) → r < 3 → j ≡ 3 * x + r → C) → C
by_three j f = f (j / 3) (j % 3) (mod-lt j (omega arith)) (omega (arith, div-add-mod' j 3))

first_word : (most : ℕ) (m : Module) → get_or (span_section most m) 0 0 ≡ length m.types
unfolding span_section
first_word most m = refl

later_word : (most : ℕ) (m : Module) (j : ℕ) → get_or (span_section most m) (suc j) 0 ≡ get_or (spans most m.types) j 0
unfolding span_section
later_word most m j = refl

-- ── the section is written ──

module _ (most : ℕ) (m : Module) (rule : ChainRule most m.types) (at : ℕ) (v u z y : List ℕ)
    (room : at + length (span_section most m) ≤ length v) (a : u ≡ set v at (length m.types)) (b : Blank at (length m.types) u z)
    (n : Numbered most m.types at (order most m.types) z y) where
  size : length (span_section most m) ≡ 1 + 3 * length m.types
  size = span_section_length most m

  old : (k : ℕ) → (k ≡ at → ⊥) → Off (at + 1) (at + 1 + 3 * length m.types) k → get_or z k 0 ≡ get_or v k 0
  old k e o = b.frame.same k o ∙ ap (λ l. get_or l k 0) a ∙ get_or-set_other v at k (length m.types) 0 e

  -- a number that is no type is not on the walk
  off_walk : (x : ℕ) → length m.types ≤ x → count x (order most m.types) ≡ 0
  off_walk x h = once most m.types rule x ∙ ap (λ e. tick (is_struct_entry e)) (entry_out m.types x h)

  kept : Frame (Off at (at + length (span_section most m))) v y
  kept = record {
    len = n.len ∙ b.frame.len ∙ ap length a ∙ length-set v at (length m.types);
    same = λ k o. go k o (dec_lt k at);
  }
    where
      after : (k : ℕ) → at + 1 + 3 * length m.types ≤ k → get_or y k 0 ≡ get_or v k 0
      after k h = by_three (k - (at + 1)) λ x r l q.
          let e : k ≡ at + 1 + 3 * x + r = omega arith in
          ap (λ i. get_or y i 0) e
          ∙ n.same x (off_walk x (omega arith)) r l
          ∙ ap (λ i. get_or z i 0) (sym e)
          ∙ old k (omega arith) (λ c d. omega arith)

      go : (k : ℕ) → Off at (at + length (span_section most m)) k → Dec (k < at) → get_or y k 0 ≡ get_or v k 0
      go k o (yes h) = n.front k (omega arith) ∙ old k (omega arith) (λ c d. omega arith)
      go k o (no h) = after k (far (dec_lt k (at + length (span_section most m))))
        where
          far : Dec (k < at + length (span_section most m)) → at + 1 + 3 * length m.types ≤ k
          far (yes l) = absurd (o (omega arith) l)
          far (no l) = omega (arith, size)

  walked : (x : ℕ) (s : Bool) → is_struct (type_at m.types x) ≡ s → count x (order most m.types) ≡ tick s
  walked x s e = once most m.types rule x ∙ ap tick (struct_at m.types x ∙ e)

  span_word : (x : ℕ) → x < length m.types → (s : Bool) → is_struct (type_at m.types x) ≡ s → (r : ℕ) → r < 3
      → get_or y (at + 1 + 3 * x + r) 0 ≡ get_or (span_of most m.types x s) r 0
  span_word x h true e r l = n.words x (omega (arith, walked x true e)) r l
  span_word x h false e r l = unfold span_of in n.same x (walked x false e) r l ∙ b.words x h r l

  word : (i : ℕ) → i < length (span_section most m) → get_or y (at + i) 0 ≡ get_or (span_section most m) i 0
  word zero h =
      let e : at + 0 ≡ at = omega arith in
      n.front (at + 0) (omega arith)
      ∙ b.frame.same (at + 0) (λ c d. omega arith)
      ∙ ap₂ (λ l k. get_or l k 0) a e
      ∙ get_or-set_same v at (length m.types) 0 (omega (arith, size))
      ∙ sym (first_word most m)
  word (suc j) h = by_three j λ x r k q.
      let e : at + suc j ≡ at + 1 + 3 * x + r = omega arith in
      let l : x < length m.types = omega (arith, size) in
      ap (λ i. get_or y i 0) e
      ∙ span_word x l (is_struct (type_at m.types x)) refl r k
      ∙ sym (later_word most m j ∙ ap (λ i. get_or (spans most m.types) i 0) q ∙ span_at most m.types x r l k)

  section_written : y ≡ written v at (span_section most m)
  section_written = written_by v y at (span_section most m) kept word room

-- ── as the code has it, its limit being the edition's ──

pub section_size : {ws w : List ℕ} {o : Opened} → Ready ws w o
    → length (spans_of (module_in ws)) ≡ 1 + 3 * o.counts.types
section_size {ws} {w} {o} x = omega (arith, counted ws w o x, span_section_length (most_of (module_in ws)) (module_in ws))

module _ {ws w : List ℕ} {o : Opened} (x : Ready ws w o) (e : parents_faults (most_of (module_in ws)) (module_in ws) ≡ []) {most : ℕ}
    (k : most ≡ most_on_chain o.edition) where
  limit : most_of (module_in ws) ≡ most
  limit = sym (ready_most ws w o x k)

  one : 1 ≤ most
  one = omega (arith, k, most_from_one o.edition)

  kept_under : parents_faults most (module_in ws) ≡ []
  kept_under = ap (λ n. parents_faults n (module_in ws)) (sym limit) ∙ e

  pub walks_all : Walks most (module_in ws).types 0 0 most
  walks_all = walks_roots most one (module_in ws) kept_under

  pub spans_written : (at : ℕ) (v u z y : List ℕ)
      → at + length (spans_of (module_in ws)) ≤ length v
      → u ≡ set v at o.counts.types
      → Blank at o.counts.types u z
      → Numbered most (module_in ws).types at (walks_from most (module_in ws).types 0 0) z y
      → y ≡ written v at (spans_of (module_in ws))
  spans_written at v u z y room a b n =
      let c : o.counts.types ≡ length (module_in ws).types = counted ws w o x in
      let s = section_written most (module_in ws) (chain_rule most one (module_in ws) kept_under) at v u z y
      (subst (λ i. at + length (span_section i (module_in ws)) ≤ length v) limit room)
      (a ∙ ap (set v at) c)
      (subst (λ i. Blank at i u z) c b)
      (subst (λ l. Numbered most (module_in ws).types at l z y) (walks_order most (module_in ws).types) n) in
      s ∙ ap (λ i. written v at (span_section i (module_in ws))) (sym limit)
