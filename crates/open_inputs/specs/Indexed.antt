-- Where the inputs are not refused, the index of the host list is there.
use Rattle.std.specs.Prelude.{◌≡◌, List, ℕ, Option, Some, Result, Err, Ok}
use Rattle.std.proofs.Common.{ap, subst, arith}
use Rattle.blocks.specs.Frame.{first_words}
use Rattle.error.specs.declared.LoadErrorKind.{LoadErrorKind}
use Rattle.open_layout.specs.declared.Layout.{Layout}
use Rattle.open_hosts.specs.Sorted.{SortedHosts, SortedIf}
use Rattle.open_hosts.specs.SortedLaws.{sorted_now}

pub record IndexedIf (r : Result (Layout × ℕ) LoadErrorKind) (hosts v : List ℕ) : Type 0 where
  pub indexed : (l : Layout) (n : ℕ) → r ≡ Ok (l, n) → SortedHosts (first_words hosts n) v

pub none_indexed : (k : LoadErrorKind) (hosts v : List ℕ) → IndexedIf (Err k) hosts v
none_indexed k hosts v = record { indexed = λ l n e. let z : ◌≡◌ {A = ℕ} 0 1 = cc in absurd (omega arith) }

pub now_indexed : {r : Option ℕ} (l : Layout) (n : ℕ) (hosts v : List ℕ) → r ≡ Some n → SortedIf r hosts v → IndexedIf (Ok (l, n)) hosts v
now_indexed l n hosts v k s = record {
  indexed = λ l' n' h.
      let e : ◌≡◌ {A = Layout × ℕ} (l, n) (l', n') = cc in
      subst (λ (j : ℕ). SortedHosts (first_words hosts j) v) (ap (λ (x : Layout × ℕ). x.1) e) (sorted_now hosts v n k s);
}
