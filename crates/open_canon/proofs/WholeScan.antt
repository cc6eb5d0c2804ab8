-- A scan over what a sort has left is whole: it stands beside the sorted part.
use Rattle.std.specs.Prelude.{◌≡◌, Bool, List, ◌⊎◌, ℕ, ◌+◌, ◌≤◌, length}
use Rattle.std.proofs.Common.{ap, ◌∙◌, inl, inr, arith}
use Rattle.sorting.specs.Contract.{Ready, SortOut}
use Rattle.open_canon.specs.Numbers.{items, canonical, own_by}
use Rattle.region.specs.Region.{Off, Apart, part}
use Rattle.region.specs.RegionLaws.{part_kept}
use Rattle.open_canon.specs.Contract.{Regions, Numbered}
use Rattle.open_canon.specs.ScanSteps.{ScanIn, ScanOut}

-- ── the whole ──

pub whole_sort : (ws w : List ℕ) (n s a b c : ℕ) → Regions ws w n s a b c → Ready ws w n s a b
whole_sort ws w n s a b c l = record { edges = record { good = l.good; fits = l.s_in }; a_in = l.a_in; b_in = l.b_in; s_a = l.s_a; s_b = l.s_b; a_b = l.a_b }

module _ (ws w v : List ℕ) (n s a b c r : ℕ) (l : Regions ws w n s a b c) (o : SortOut ws w v n s a b r) where
  same_edges : part s (n + 1) v ≡ part s (n + 1) w
  same_edges = part_kept (λ k. Off a (a + n) k × Off b (b + n) k) w v o.frame s (n + 1) l.s_in (λ k x y. (l.s_a k x y, l.s_b k x y))

  beside : (r ≡ a) ⊎ (r ≡ b) → (r + n ≤ length w) × Apart s (s + (n + 1)) r (r + n) × Apart r (r + n) c (c + n)
  beside (inl e) = rw e (l.a_in, l.s_a, l.a_c)
  beside (inr e) = rw e (l.b_in, l.s_b, l.b_c)

  pub whole_scan : ScanIn ws v n s r c
  whole_scan = let d = beside o.which in record {
    ready = record {
      edges = record { good = rw same_edges l.good; fits = omega (arith, o.frame.len, l.s_in) };
      a_in = omega (arith, o.frame.len, d.0);
      b_in = omega (arith, o.frame.len, l.c_in);
      s_a = d.1;
      s_b = l.s_c;
      a_b = d.2;
    };
    ordered = rw same_edges o.ordered;
    small = l.small;
  }

  pub whole_end : (u : List ℕ) (marked : Bool) → ScanOut ws v u n s c marked → Numbered ws w u n s a b c marked
  whole_end u marked z = record {
    len = z.frame.len ∙ o.frame.len;
    numbers = z.numbers ∙ ap (λ (S : List ℕ). canonical (own_by marked) (items ws S n)) same_edges;
    same = λ k x y q. z.frame.same k q ∙ o.frame.same k (x, y);
  }
