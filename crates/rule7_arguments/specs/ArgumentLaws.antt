-- There is room for the fewest arguments, and they stay where only other words are written.
use Rattle.std.specs.Prelude.{ℕ, ◌+◌, ◌*◌, ◌<◌, List, length}
use Rattle.std.proofs.Common.{◌∙◌, arith}
use Rattle.region.specs.Region.{Off, Frame}
use Rattle.open_sheet.specs.declared.Opened.{Opened}
use Rattle.open_sheet.specs.Ready.{Ready, Captured, Above}
use Rattle.open_sheet.specs.ReadyLaws.{count_funcs, callees_inside, captured_above}
use Rattle.rule7_arguments.specs.Arguments.{fewest_at, Tallied}

module _ (ws w : List ℕ) (o : Opened) (x : Ready ws w o) where
  pub fewest_room : (j : ℕ) → j < o.counts.imports → fewest_at o + j < length w
  fewest_room j h = omega (arith, callees_inside ws w o x, x.room)

  module _ (v : List ℕ) where
    -- the captures stand before them
    pub captured_fewest : Frame (Off (fewest_at o) (fewest_at o + o.counts.imports)) w v → Captured ws w o → Captured ws v o
    captured_fewest f y = record {
      captures = λ g d h. f.same (4 * o.layout.words + g) (λ a b. omega (arith, count_funcs ws o x.opens)) ∙ y.captures g d h;
    }

    -- words from 6 * words on are others
    pub tallied_above : Above o w v → Tallied ws w o → Tallied ws v o
    unfolding Above
    tallied_above a y = record {
      captured = captured_above o ws w v x a y.captured;
      fewest = record { counts = λ j h. a.same (fewest_at o + j) (omega (arith, callees_inside ws w o x)) ∙ y.fewest.counts j h };
    }
