-- The parents' words of all types, laid side by side in the free words.
use Prim.Native.Nat.{ℕ, ◌+◌, ◌*◌, ◌-◌, ◌≤◌, ◌<◌}
use mathlib.Core.Path.{◌≡◌, sym, ap, ◌∙◌}
use mathlib.Core.List.{List}
use native.Mathlib.Omega.{arith}
use lib.ListN.{length, set, take, drop}
use Rattle.sheet.specs.Module.{TypeDef, type_at}
use Rattle.open_layout.specs.Opened.{module_in}
use Rattle.region.specs.Region.{part, word_at, Off, Frame}
use Rattle.region.specs.RegionLaws.{frame_refl, fill_more, part_is}
use Rattle.open_sheet.specs.declared.Opened.{Opened}
use Rattle.open_sheet.specs.Ready.{Ready, Kept}
use Rattle.open_sheet.specs.ReadyLaws.{count_types, types_inside, ready_kept}
use Rattle.rule3_parents.specs.Child.{parent_word}
use Rattle.rule3_parents.specs.ParentWords.{parent_words, laid_words}
use Rattle.rule3_parents.proofs.ChainSteps.{word_parent, words_length}

-- each type has a free word
pub free_room : (ws w : List ℕ) (o : Opened) → Ready ws w o → 5 * o.layout.words + o.counts.types ≤ length w
free_room ws w o x = omega (arith, x.room, types_inside ws w o x, count_types ws o x.opens)

-- and each type one of the parents' words
pub laid_in : (ws w : List ℕ) (o : Opened) → Ready ws w o → (ps : List ℕ) → ps ≡ parent_words (module_in ws).types →
    (t : ℕ) → t < o.counts.types → t < length ps
laid_in ws w o x ps l t h = omega (arith, ap length l, words_length (module_in ws).types, count_types ws o x.opens)

-- v is w but for the types' free words; those before t are laid
pub record Laying (ws w : List ℕ) (o : Opened) (v : List ℕ) (t : ℕ) : Type 0 where
  pub begun : Ready ws w o
  pub frame : Frame (Off (5 * o.layout.words) (5 * o.layout.words + o.counts.types)) w v
  pub words : (s : ℕ) → s < t → word_at v (5 * o.layout.words) s ≡ parent_word (type_at (module_in ws).types s)

pub laying_start : (ws w : List ℕ) (o : Opened) → Ready ws w o → Laying ws w o w 0
laying_start ws w o x = record { begun = x; frame = frame_refl _ w; words = λ s h. absurd (omega arith) }

module _ (ws w : List ℕ) (o : Opened) (v : List ℕ) (t : ℕ) (x : Laying ws w o v t) where
  abbrev types : List TypeDef
  types = (module_in ws).types

  pub laying_length : length v ≡ length w
  laying_length = x.frame.len

  pub laying_kept : Kept o w v
  unfolding Kept
  laying_kept = record { len = x.frame.len; same = λ k h. x.frame.same k (λ i j. omega arith) }

  pub laying_ready : Ready ws v o
  laying_ready = ready_kept ws w o x.begun v laying_kept

  pub laying_room : t < o.counts.types → 5 * o.layout.words + t < length v
  laying_room h = omega (arith, free_room ws v o laying_ready)

  pub laying_next : {p : ℕ} → t < o.counts.types → p ≡ parent_word (type_at types t) →
      Laying ws w o (set v (5 * o.layout.words + t) p) (t + 1)
  laying_next h e =
      let both =
      fill_more (λ s. parent_word (type_at types s)) w v _ (5 * o.layout.words) o.counts.types t
      (free_room ws w o x.begun) h x.frame x.words (ap (set v (5 * o.layout.words + t)) e) in
      record { begun = x.begun; frame = both.0; words = both.1 }

  pub laying_end : o.counts.types ≤ t → laid_words o v ≡ parent_words types
  unfolding laid_words
  laying_end h =
      part_is (5 * o.layout.words) o.counts.types v (parent_words types) (free_room ws v o laying_ready)
      (words_length types ∙ sym (count_types ws o x.begun.opens)) λ i k.
      x.words i (omega arith) ∙ sym (word_parent types i)

-- the free words, lent as a slice of their own
pub laid_lent : (o : Opened) (w ps : List ℕ) → laid_words o w ≡ ps →
    take (5 * o.layout.words + o.counts.types - 5 * o.layout.words) (drop (5 * o.layout.words) w) ≡ ps
unfolding laid_words part
laid_lent o w ps e =
    let n : 5 * o.layout.words + o.counts.types - 5 * o.layout.words ≡ o.counts.types = omega arith in
    ap (λ n. take n (drop (5 * o.layout.words) w)) n ∙ e
