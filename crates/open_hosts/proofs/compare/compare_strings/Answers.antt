use native.Mathlib.Omega.{arith}
use Rattle.blocks.specs.ByteLaws.{all_bytes}
use Rattle.open_hosts.specs.RangeOrder.{texts_room, texts_compared}
use Rattle.open_hosts.proofs.compare.compare_strings.Goals as goal

pub compare_words-requires : goal.compare_words-requires
compare_words-requires c =
    texts_room _ _ _ _ _ _ c.requires.whole c.requires.whole_2 c.end_of-p_end.ensures c.end_of-q_end.ensures
    (all_bytes c.args.one.now (λ i. omega (arith, c.type_inv.one i)))
    (all_bytes c.args.other.now (λ i. omega (arith, c.type_inv.other i)))

pub returns : goal.returns
returns c =
    texts_compared _ _ _ _ _ _ c.requires.whole c.requires.whole_2 c.end_of-p_end.ensures c.end_of-q_end.ensures
    (all_bytes c.args.one.now (λ i. omega (arith, c.type_inv.one i)))
    (all_bytes c.args.other.now (λ i. omega (arith, c.type_inv.other i)))
    c.compare_words.ensures
