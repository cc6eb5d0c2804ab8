use borrow.Author.Rules.{rules}
use denote.Enum.Enum.{tag}
use denote.Enum.Declared.{rowss, intoss}
use Rattle.std.specs.Prelude.{◌≡◌, refl}
use Rattle.rule7_kinds.specs.declared.Slot.TheVariants.{A, B, W, C}
use Rattle.rule7_kinds.specs.Slots.{slots_of, place_of}
use Rattle.rule7_kinds.specs.contracts.Slot.{the_parts, as_values}
use Rattle.rule7_kinds.proofs.Fields.{kind_at}
use Rattle.rule7_kinds.proofs.field_kind.Goals as goal

pub returns : goal.returns
unfolding slots_of place_of
returns c = kind_at c.args.code _ c.args.slot _ _ (search rules) (elim c.args.slot as (λ s. tag (rowss the_parts) (intoss the_parts (as_values s)) ≡ place_of s) [ A ↦ refl | B ↦ refl | W ↦ refl | C ↦ refl ])
