-- How a comparison of two pairs ends: by the modules where they differ, else by the names.
use Rattle.std.specs.Prelude.{◌≡◌, refl, List, ℕ}
use Rattle.std.proofs.Math.Path.{sym, ap}
use Rattle.std.proofs.Common.{◌∙◌}
use Rattle.std.specs.Ordering.{ordering_then}
use Rattle.std.specs.declared.cmp.Ordering.{Ordering}
use Rattle.std.specs.declared.cmp.Ordering.TheVariants.{Less, Equal, Greater}
use Rattle.reader.specs.Text.{encode_string}
use Rattle.sorting.specs.Order.{lex}
use Rattle.host.specs.Host.{HostFn}
use Rattle.open_hosts.specs.PairOrder.{pair_order, by_pair}

pub by_module : (m n : List ℕ) (h : HostFn) {c : Ordering} → c ≡ lex (encode_string m) (encode_string h.module_name) →
    (c ≡ Equal → ⊥) → c ≡ pair_order m n h
by_module m n h {c} e d = by_pair m n h e (go c d)
  where
    go : (c : Ordering) → (c ≡ Equal → ⊥) → c ≡ ordering_then c (lex (encode_string n) (encode_string h.name))
    go Less d = refl
    go Equal d = absurd (d refl)
    go Greater d = refl

pub by_name : (m n : List ℕ) (h : HostFn) {c d : Ordering} → c ≡ lex (encode_string m) (encode_string h.module_name) →
    c ≡ Equal → d ≡ lex (encode_string n) (encode_string h.name) → d ≡ pair_order m n h
by_name m n h e f g = by_pair m n h e (g ∙ ap (λ x. ordering_then x (lex (encode_string n) (encode_string h.name))) (sym f))
