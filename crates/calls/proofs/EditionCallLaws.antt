-- What the edition decides, of every call.
use Rattle.std.specs.Prelude.{ℕ, ◌≤◌, ◌≡◌, refl, true, List, length, Option, None, Some}
use Rattle.std.proofs.Math.Path.{sym, ap}
use Rattle.std.proofs.Common.{subst, ◌∙◌, arith}
use Rattle.sheet.specs.Module.{Module}
use Rattle.sheet.specs.Decode.{decode}
use Rattle.sheet.proofs.DecodedTheorems.{decoded_edition}
use Rattle.sheet.specs.Editions.{most_on_chain}
use Rattle.sheet.proofs.EditionLaws.{most_first, most_second}
use Rattle.host.specs.Host.{HostFn, decode_hosts}
use Rattle.host.specs.HostLaws.{hosts_edition}
use Rattle.load.specs.Load.{long_enough, load}
use Rattle.renumber.specs.Renumber.{renumber}
use Rattle.law_renumbering.proofs.Sheets.{as_renumbered}
use Rattle.calls.specs.Calls.{Exactly}
use Rattle.calls.proofs.CallLaws.{by_rules, verdict}
use Rattle.calls.specs.EditionCalls.{stated_edition, answer_under, EditionAnswered, EditionsRight, OneEdition}

-- what has no value where it would be absurd is nothing
nothing_else : {A : Type 0} (o : Option A) → ((a : A) → o ≡ Some a → ⊥) → o ≡ None
nothing_else None f = refl
nothing_else (Some a) f = absurd (f a refl)

module _ (sheet hosts : List ℕ) (table work : ℕ) where
  ruled : (m : Module) (hs : List HostFn) → decode sheet ≡ Some m → decode_hosts hosts ≡ Some hs → long_enough sheet table work ≡ true →
      (most : ℕ) → most ≡ most_on_chain (stated_edition sheet) → load sheet hosts table work ≡ answer_under most hs m
  unfolding answer_under
  ruled m hs d o t most e =
      by_rules sheet hosts table work m hs d o t
      ∙ ap (λ k. answer_under k hs m) (ap most_on_chain (decoded_edition sheet m d).0 ∙ sym e)

  answered : EditionAnswered sheet hosts table work (load sheet hosts table work)
  unfolding Exactly
  answered =
      let v = verdict sheet hosts table work in
      record {
        other_sheet = λ a b. v.broken_sheet.0.1 (nothing_else (decode sheet) λ m d.
            let e = decoded_edition sheet m d in between (stated_edition sheet) e.1 e.2 a b);
        other_hosts = λ m d a. (v.broken_hosts m d).0.1 (nothing_else (decode_hosts hosts) λ hs o. a (hosts_edition hosts hs o));
        first256 = λ m hs d o t e. ruled m hs d o t 256 (most_first (λ z. omega arith));
        second64 = λ m hs d o t e. ruled m hs d o t 64 (most_second e);
      }
    where
      between : (e : ℕ) → 1 ≤ e → e ≤ 2 → (e ≡ 1 → ⊥) → (e ≡ 2 → ⊥) → ⊥
      between e l k a b = a (omega (arith, b))

pub editions_right : EditionsRight
unfolding EditionsRight
editions_right sheet hosts table work r left work_left c =
    subst (EditionAnswered sheet hosts (length table) (length work)) (sym c.answers) (answered sheet hosts (length table) (length work))

pub one_edition : OneEdition
unfolding OneEdition renumber
one_edition r first second w =
    let v = as_renumbered w in
    sym (decoded_edition second (renumber r w.source) v.decodes_also).0 ∙ (decoded_edition first w.source w.intact).0
