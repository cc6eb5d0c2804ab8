-- What is said of chain lengths holds.
use Rattle.std.specs.Prelude.{◌≡◌, List, [], ◌++◌, ℕ, suc, ◌≤◌, length, Ok}
use Rattle.std.proofs.Common.{sym, ap, ◌∙◌, arith}
use Rattle.sheet.specs.Module.{Module}
use Rattle.host.specs.Host.{HostFn}
use Rattle.sheet.specs.Editions.{most_of}
use Rattle.sheet.proofs.EditionLaws.{most_from_one}
use Rattle.parents.specs.Parents.{parents_faults}
use Rattle.spans.specs.Spans.{no_pre}
use Rattle.descends.specs.Lengths.{ChainLength}
use Rattle.table.specs.Table.{table_of}
use Rattle.families.specs.Families.{is_from, family_depth}
use Rattle.law_forest.specs.Once.{ChainRule}
use Rattle.law_forest.proofs.AcceptedLaws.{chain_rule}
use Rattle.law_families.specs.Depths.{depth_other, depth_root, depth_child, depth_below}
use Rattle.law_linked.specs.Sized.{query_from}
use Rattle.law_linked.specs.Lengths.{length_answered, word_is_depth}
use Rattle.law_renumbering.specs.AllRules.{parents_kept}
use Rattle.law_renumbering.proofs.Accepting.{cond_one, types_few}
use Rattle.calls.specs.Calls.{AsksLength}
use Rattle.calls.proofs.CallLaws.{of_left}
use Rattle.family_calls.specs.LengthCalls.{LengthsAsked, LengthsRight}

-- ── on a table that load left ──

module _ (hosts : List HostFn) (m : Module) (rest : List ℕ)
    (kept : parents_faults (most_of m) m ≡ []) (few : length m.types ≤ no_pre) where
  abbrev left : List ℕ
  left = table_of hosts m ++ rest

  abbrev depth : ℕ → ℕ
  depth t = family_depth (most_of m) m.types t

  rule : ChainRule (most_of m) m.types
  rule = chain_rule (most_of m) (most_from_one m.edition) m kept

  says : (t : ℕ) {x : ChainLength} → AsksLength left t x → x ≡ Ok (depth t)
  says t q = q.answers ∙ length_answered (most_of m) hosts m rest t

  told : (t : ℕ) {n : ℕ} → AsksLength left t (Ok n) → n ≡ depth t
  told t {n} q = let e : Ok n ≡ Ok (depth t) = says t q in cc

  lengths_left : LengthsAsked m left
  lengths_left = record {
    declared = λ t x q. says t q;
    others = λ t x q s. says t q ∙ ap Ok (depth_other (most_of m) m.types t s);
    spans = λ t x q h. says t q ∙ ap Ok (sym (word_is_depth (most_of m) hosts m rest t h));
    at_roots = λ t x q k. says t q ∙ ap Ok (depth_root (most_of m) m.types rule t k);
    at_children = λ t p n x k a q.
        says t q
        ∙ ap Ok (depth_child (most_of m) m.types rule t p k ∙ ap suc (sym (told p a)));
    rising = λ t a n k d ne p q.
        let from = cond_one (is_from (most_of m) m.types t a)
        (sym (query_from (most_of m) hosts m rest kept (most_from_one m.edition) few t a) ∙ sym d.answers) in
        omega (arith, told a p, told t q, depth_below (most_of m) m.types rule t a from ne);
  }

-- ── of every call ──

pub lengths_right : LengthsRight
unfolding LengthsRight
lengths_right sheet hosts table work l left work_left m d c words b =
    of_left sheet hosts table work l left work_left c (LengthsAsked m) m d words b λ hs f rest.
    lengths_left hs m rest (parents_kept (most_of m) hs m f) (types_few sheet m d)
