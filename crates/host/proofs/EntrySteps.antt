-- Where an entry of the host list ends.
use Prim.Native.Nat.{ℕ, ◌+◌, ◌≤◌, ◌<◌}
use mathlib.Core.Path.{◌≡◌, sym, ap, ◌∙◌}
use mathlib.Core.List.{List}
use lib.ListN.{get_or}
use Rattle.blocks.specs.Blocks.{words}
use Rattle.blocks.specs.Frame.{first_words}
use Rattle.std.specs.Prelude.{Option, None, Some}
use Rattle.reader.specs.Reader.{code_below}
use Rattle.reader.specs.Text.{string}
use Rattle.reader.specs.Step.{step_of}
use Rattle.reader.specs.StepLaws.{then_next, then_stop, make, code_read, code_unlisted, code_none}
use Rattle.host.specs.Host.{host_fn}

-- ── a kind ──

module _ (bytes : List ℕ) (n at : ℕ) where
  pub kind_none : n ≤ at → None ≡ step_of (code_below 2 (first_words bytes n) at)
  unfolding step_of
  kind_none h = sym (ap step_of (code_none bytes n at 2 h))

  module _ {w : ℕ} (h : at < n) (e : w ≡ get_or (words bytes) at 0) where
    pub kind_next : w < 2 → Some (at + 1) ≡ step_of (code_below 2 (first_words bytes n) at)
    unfolding step_of
    kind_next l = sym (ap step_of (code_read bytes n at 2 h e l))

    pub kind_stop : 2 ≤ w → None ≡ step_of (code_below 2 (first_words bytes n) at)
    unfolding step_of
    kind_stop l = sym (ap step_of (code_unlisted bytes n at 2 h e l))

pub ruleset kinds = (kind_none, kind_next, kind_stop)

-- ── an entry ──

module _ (ws : List ℕ) (at : ℕ) where
  pub module_stop : {r : Option ℕ} → r ≡ None → r ≡ step_of (string ws at) → None ≡ step_of (host_fn ws at)
  unfolding host_fn
  module_stop e f = then_stop (string ws at) _ e f

  module _ (p : ℕ) {r : Option ℕ} (e : r ≡ Some p) (f : r ≡ step_of (string ws at)) where
    pub name_stop : {s : Option ℕ} → s ≡ None → s ≡ step_of (string ws p) → None ≡ step_of (host_fn ws at)
    unfolding host_fn
    name_stop g h = then_next (string ws at) _ e f λ a. then_stop (string ws p) _ g h

    pub name_next : (q : ℕ) {s x : Option ℕ} → s ≡ Some q → s ≡ step_of (string ws p) → x ≡ step_of (code_below 2 ws q) →
        x ≡ step_of (host_fn ws at)
    unfolding host_fn
    name_next q g h k =
        then_next (string ws at) _ e f λ a. then_next (string ws p) _ g h λ b.
        k ∙ sym (make (code_below 2 ws q) (λ c. record { module_name = a; name = b; kind = c }))

pub ruleset entering = (module_stop, name_stop, name_next)
