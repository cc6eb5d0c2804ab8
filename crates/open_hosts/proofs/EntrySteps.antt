-- For the code that compares a pair with an entry of the index.
use Prim.Native.Nat.{ℕ, ◌+◌, ◌<◌}
use mathlib.Core.Path.{◌≡◌, sym, ap, ap₂, subst, ◌∙◌}
use mathlib.Core.List.{List, []}
use mathlib.Core.Bool.{Bool}
use lib.Dec.{eqb}
use lib.ListN.{get_or}
use Rattle.blocks.specs.Blocks.{words}
use Rattle.blocks.specs.Frame.{first_words}
use Rattle.std.specs.Prelude.{Some}
use Rattle.reader.specs.Step.{step_of}
use Rattle.reader.specs.Text.{string, encode_string}
use Rattle.reader.specs.Value.{Whole}
use Rattle.reader.specs.ValueLaws.{value_got}
use Rattle.std.specs.Ordering.{is_eq, ordering_then, MatchOrdering}
use Rattle.std.specs.declared.cmp.Ordering.{Ordering}
use Rattle.std.specs.declared.cmp.Ordering.TheVariants.{Less, Equal, Greater}
use Rattle.sorting.specs.Order.{lex}
use Rattle.host.specs.EntryWalk.{entered, entry_module, entry_name, entry_texts, kind_word_lem}
use Rattle.host.specs.Host.{HostFn, host_fn, nobody}
use Rattle.host.specs.Listed.{text_at}
use Rattle.host.specs.Seek.{entry_at}
use Rattle.open_hosts.specs.Sorted.{entry_count, Edged}
use Rattle.open_hosts.specs.PairOrder.{pair_order, by_pair}
use Rattle.open_hosts.specs.EdgedLaws.{entry_of, entry_whole}
use Rattle.open_hosts.specs.RangeOrder.{text_order}
use Rattle.open_hosts.specs.OrderLaws.{same_pair}

module _ (ws v : List ℕ) (e : ℕ) {p : ℕ} (d : Edged ws v) (h : e < entry_count ws) (k : p ≡ get_or v e 0) where
  pub found_whole : Whole (host_fn ws p)
  found_whole = subst (λ i. Whole (host_fn ws i)) (sym k) (entry_whole ws v d e h)

  pub found_entry : entry_at ws p ≡ entry_of ws e
  found_entry = value_got nobody (ap (host_fn ws) k ∙ d.entry e h)

  pub compared_module : Whole (string ws p)
  compared_module = entry_module ws p found_whole

  pub compared_name : {q : ℕ} → Some q ≡ step_of (string ws p) → Whole (string ws q)
  compared_name f = entry_name ws p found_whole f

  module_text : text_at ws p ≡ (entry_of ws e).module_name
  module_text = entered ws p found_whole λ g a b c t.
      value_got [] t.owner ∙ ap (λ (i : HostFn). i.module_name) (sym (value_got nobody t.all) ∙ found_entry)

  name_text : {q : ℕ} → Some q ≡ step_of (string ws p) → text_at ws q ≡ (entry_of ws e).name
  name_text f = entry_texts ws p found_whole f λ a b. b ∙ ap (λ (i : HostFn). i.name) found_entry

  module _ (s : List ℕ) (a c : ℕ) {x : Ordering} (f : x ≡ text_order s a ws p) where
    by_modules : x ≡ lex (encode_string (text_at s a)) (encode_string (entry_of ws e).module_name)
    by_modules = f ∙ (unfold text_order in ap (λ t. lex (encode_string (text_at s a)) (encode_string t)) module_text)

    -- y is what `then_with` gives, where P holds of what its closure gives
    pub compared : {y : Ordering} (P : Type 0) → MatchOrdering x (y ≡ Less) P (y ≡ Greater) →
        (P → y ≡ lex (encode_string (text_at s c)) (encode_string (entry_of ws e).name)) →
        y ≡ pair_order (text_at s a) (text_at s c) (entry_of ws e)
    compared {y} P m k = by_pair (text_at s a) (text_at s c) (entry_of ws e) by_modules (go x m)
      where
        go : (x : Ordering) → MatchOrdering x (y ≡ Less) P (y ≡ Greater) →
            y ≡ ordering_then x (lex (encode_string (text_at s c)) (encode_string (entry_of ws e).name))
        go Less m = m
        go Equal m = k m
        go Greater m = m

    pub by_names : {q : ℕ} {y : Ordering} → Some q ≡ step_of (string ws p) → y ≡ text_order s c ws q →
        y ≡ lex (encode_string (text_at s c)) (encode_string (entry_of ws e).name)
    by_names n o = o ∙ (unfold text_order in ap (λ t. lex (encode_string (text_at s c)) (encode_string t)) (name_text n))

-- ── two entries ──

module _ (ws v : List ℕ) (x y : ℕ) {p q : ℕ} {r : Ordering} (d : Edged ws v) (h : x < entry_count ws) (k : p ≡ get_or v x 0)
    (n : Some q ≡ step_of (string ws p)) (f : r ≡ pair_order (text_at ws p) (text_at ws q) (entry_of ws y)) where
  pub pairs_same : {b : Bool} → b ≡ is_eq r → b ≡ same_pair ws x y
  unfolding same_pair
  pairs_same e = e ∙ ap is_eq (f ∙ ap₂ (λ m s. pair_order m s (entry_of ws y)) (module_text ws v x d h k) (name_text ws v x d h k n))

-- ── a kind ──

pub kind_read : (b : List ℕ) (n : ℕ) (v : List ℕ) (e q : ℕ) {p w : ℕ} → Edged (first_words b n) v → e < entry_count (first_words b n) →
    p ≡ get_or v e 0 → Some (q + 1) ≡ step_of (host_fn (first_words b n) p) → w ≡ get_or (words b) q 0
    → eqb w 1 ≡ eqb (entry_of (first_words b n) e).kind 1
kind_read b n v e q {p} d h k m o = kind_word_lem b n p q m o ∙ ap (λ (i : HostFn). eqb i.kind 1) (found_entry (first_words b n) v e d h k)
