-- For the code that writes the index: the edges one by one, the order where it is to lie.
use Prim.Native.Nat.{ℕ, ◌+◌, ◌-◌, ◌*◌, ◌≤◌, ◌<◌}
use mathlib.Core.Path.{◌≡◌, refl, sym, ap, subst, ◌∙◌}
use mathlib.Core.List.{List, []}
use mathlib.Core.Bool.{true}
use native.Mathlib.Omega.{arith}
use native.Mathlib.Numerals.{add-one}
use native.Mathlib.Decide.{dec_lt}
use lib.ListN.{length, get_or, set, take, length-set}
use lib.Seq.{get_or-set_same, get_or-set_other}
use Rattle.lists.specs.Lists.{all_of, concat_map}
use Rattle.blocks.specs.Blocks.{words}
use Rattle.blocks.specs.ByteLaws.{is_byte, is_word}
use Rattle.blocks.specs.Frame.{first_words}
use Rattle.blocks.proofs.FirstWords.{length_first_words, first_words_at, first_words_small}
use Rattle.std.specs.List.{CopiedTo, SameBelow, SameFrom}
use Rattle.std.specs.Prelude.{Some}
use Rattle.reader.specs.Reader.{got, list_of}
use Rattle.reader.proofs.ReadLaws.{listed_at, read_inside}
use Rattle.reader.specs.Step.{step_of}
use Rattle.reader.specs.Value.{Whole}
use Rattle.reader.specs.ValueLaws.{whole_inv, got_whole, value_got, list_within}
use Rattle.region.specs.Region.{Off, Frame, part, word_at}
use Rattle.region.specs.RegionLaws.{part_kept}
use Rattle.sorting.specs.Contract.{Ready, Ordered, SortOut}
use Rattle.sorting.proofs.CopySteps.{copied_frame, copied_same}
use Rattle.host.specs.EntryWalk.{ends_at}
use Rattle.host.specs.Host.{host_fn, nobody, encode_host}
use Rattle.host.specs.HostLaws.{coded_host, host_codes}
use Rattle.host.specs.Listed.{hosts_in}
use Rattle.open_hosts.specs.Sorted.{entry_count, Edged, Arranged}
use Rattle.open_hosts.specs.EdgedLaws.{entry_of, entry_long, hosts_count, edged_ready, few_entries}

pub count_read : (b : List ℕ) (n : ℕ) {x w : ℕ} → Whole (list_of host_fn (first_words b n) 2) → x ≡ w → w ≡ get_or (words b) 2 0 →
    x ≡ entry_count (first_words b n)
count_read b n h k e = k ∙ e ∙ sym (first_words_at b n 2 (list_within host_fn b n 2 h))

-- ── the edges ──

-- where entry i stands
unfoldable pub edge_at : List ℕ → ℕ → ℕ
edge_at ws i = 3 + length (concat_map encode_host (take i (hosts_in ws)))

edge_entry : (ws : List ℕ) (i : ℕ) → Whole (list_of host_fn ws 2) → all_of is_word ws ≡ true → i < entry_count ws →
    host_fn ws (edge_at ws i) ≡ got (entry_of ws i) (edge_at ws (i + 1))
unfolding edge_at
edge_entry ws i w small h =
    whole_inv (list_of host_fn ws 2) w λ hs q e.
    listed_at ws host_fn encode_host coded_host (host_codes ws small) 2 (hosts_in ws) q
    (e ∙ ap (λ l. got l q) (sym (value_got [] e))) i nobody (omega (arith, hosts_count ws w small))
    ∙ ap (λ k. got (entry_of ws i) (3 + length (concat_map encode_host (take k (hosts_in ws))))) (sym (add-one i))

module _ (b : List ℕ) (n : ℕ) (w₀ : List ℕ) (count : ℕ) where
  -- i edges are written, and entry i stands at p
  pub record Edging (w : List ℕ) (i p : ℕ) : Type 0 where
    pub whole : Whole (list_of host_fn (first_words b n) 2)
    pub small : all_of is_word (first_words b n) ≡ true
    pub room : 3 * count + 1 ≤ length w
    pub len : length w ≡ length w₀
    pub counts : count ≡ entry_count (first_words b n)
    pub turn : i ≤ count
    pub here : p ≡ edge_at (first_words b n) i
    pub inside : p ≤ n
    pub done : (j : ℕ) → j < i → get_or w j 0 ≡ edge_at (first_words b n) j

  pub edging_start : Whole (list_of host_fn (first_words b n) 2) → all_of is_byte b ≡ true → count ≡ entry_count (first_words b n) →
      3 * entry_count (first_words b n) + 1 ≤ length w₀ → Edging w₀ 0 3
  unfolding edge_at
  edging_start h s k r = record {
    whole = h;
    small = first_words_small b n s;
    room = omega arith;
    len = refl;
    counts = k;
    turn = omega arith;
    here = refl;
    inside = omega (arith, list_within host_fn b n 2 h);
    done = λ j l. absurd (omega arith);
  }

  module _ (w : List ℕ) (i p : ℕ) (t : Edging w i p) where
    write : (v : List ℕ) → v ≡ set w i p → (j : ℕ) → j < i + 1 → get_or v j 0 ≡ edge_at (first_words b n) j
    write v e j h = ap (λ l. get_or l j 0) e ∙ go (dec_lt j i)
      where
        go : Dec (j < i) → get_or (set w i p) j 0 ≡ edge_at (first_words b n) j
        go (yes k) = get_or-set_other w i j p 0 (omega arith) ∙ t.done j k
        go (no k) = let z : j ≡ i = omega arith in ap (λ m. get_or (set w i p) m 0) z
            ∙ get_or-set_same w i p 0 (omega (arith, t.room, t.turn)) ∙ t.here ∙ ap (edge_at (first_words b n)) (sym z)

    module _ (h : i < count) where
      reads : host_fn (first_words b n) p ≡ got (entry_of (first_words b n) i) (edge_at (first_words b n) (i + 1))
      reads = ap (host_fn (first_words b n)) t.here ∙ edge_entry (first_words b n) i t.whole t.small (omega (arith, t.counts))

      pub edging_whole : Whole (host_fn (first_words b n) p)
      edging_whole = got_whole reads

      pub edging_next : (v : List ℕ) (q : ℕ) → v ≡ set w i p → Some (q + 1) ≡ step_of (host_fn (first_words b n) p) →
          Edging v (i + 1) (q + 1)
      edging_next v q e k =
          let z : q + 1 ≡ edge_at (first_words b n) (i + 1) = ends_at reads k in
          let l : length v ≡ length w = ap length e ∙ length-set w i p in
          record {
            whole = t.whole;
            small = t.small;
            room = omega (arith, t.room);
            len = l ∙ t.len;
            counts = t.counts;
            turn = omega arith;
            here = z;
            inside = omega (
              arith,
              length_first_words b n,
              read_inside (first_words b n) host_fn encode_host coded_host
                  (host_codes (first_words b n) t.small) p (entry_of (first_words b n) i) (edge_at (first_words b n) (i + 1)) reads
                  (omega (arith, entry_long (entry_of (first_words b n) i))),
            );
            done = write v e;
          }

    pub edging_end : (v : List ℕ) → count ≤ i → v ≡ set w count p → Edged (first_words b n) v
    edging_end v h e =
        let y : count ≡ i = omega (arith, t.turn) in
        let o : v ≡ set w i p = e ∙ ap (λ k. set w k p) y in
        record {
          whole = t.whole;
          small = t.small;
          room = omega (arith, t.room, t.counts, ap length e ∙ length-set w count p);
          begins = write v o 0 (omega arith) ∙ start;
          entry = λ j l. ap (host_fn (first_words b n)) (write v o j (omega (arith, t.counts)))
              ∙ edge_entry (first_words b n) j t.whole t.small l
              ∙ ap (got (entry_of (first_words b n) j)) (sym (write v o (j + 1) (omega (arith, t.counts))));
        }
      where
        start : edge_at (first_words b n) 0 ≡ 3
        start = unfold edge_at in refl

-- ── the order ──

edged_kept : (P : ℕ → Type 0) (ws w v : List ℕ) → Edged ws w → Frame P w v → ((k : ℕ) → k < entry_count ws + 1 → P k) → Edged ws v
edged_kept P ws w v d f p = record {
  whole = d.whole;
  small = d.small;
  room = omega (arith, d.room, f.len);
  begins = f.same 0 (p 0 (omega arith)) ∙ d.begins;
  entry = λ i h. ap (host_fn ws) (f.same i (p i (omega arith))) ∙ d.entry i h
      ∙ ap (got (entry_of ws i)) (sym (f.same (i + 1) (p (i + 1) (omega arith))));
}

ordered_as : (ws S T : List ℕ) (n : ℕ) (F G : ℕ → ℕ) → T ≡ S → ((p : ℕ) → p < n → G p ≡ F p) → Ordered ws S n F → Ordered ws T n G
ordered_as ws S T n F G e k o = rw e (record {
  sorted = λ p q x y z. rw (k p (omega arith), k q z) (o.sorted p q x y z);
  all = λ i h. let w = o.all i h in record { at = w.at; from = w.from; to = w.to; is = k w.at w.to ∙ w.is };
  below = λ p h. rw (k p h) (o.below p h);
})

module _ (ws w v : List ℕ) (count r : ℕ) (k : count ≡ entry_count ws) (d : Edged ws w)
    (o : SortOut ws w v count 0 (count + 1) (2 * count + 1) r) where
  edges_off : (j : ℕ) → j < entry_count ws + 1 → Off (count + 1) (count + 1 + count) j × Off (2 * count + 1) (2 * count + 1 + count) j
  edges_off j h = (λ a b. omega arith, λ a b. omega arith)

  sorted_edges : Edged ws v
  sorted_edges = edged_kept (λ j. Off (count + 1) (count + 1 + count) j × Off (2 * count + 1) (2 * count + 1 + count) j) ws w v d o.frame
      edges_off

  same_edges : part 0 (count + 1) v ≡ part 0 (count + 1) w
  same_edges = part_kept (λ j. Off (count + 1) (count + 1 + count) j × Off (2 * count + 1) (2 * count + 1 + count) j) w v o.frame 0
      (count + 1) (omega (arith, d.room)) (λ j a b. edges_off j (omega arith))

  arrange : (u : List ℕ) → Edged ws u → part 0 (count + 1) u ≡ part 0 (count + 1) v →
      ((p : ℕ) → p < count → word_at u (count + 1) p ≡ word_at v r p) → Arranged ws u
  arrange u g e f = record {
    edges = g;
    ordered = subst (λ c. Ordered ws (part 0 (c + 1) u) c (word_at u (c + 1))) k
        (ordered_as ws (part 0 (count + 1) w) (part 0 (count + 1) u) count (word_at v r) (word_at u (count + 1))
        (e ∙ same_edges) f o.ordered);
  }

  -- the order lies where it is to lie
  pub order_lies : r ≡ count + 1 → Arranged ws v
  order_lies e = arrange v sorted_edges refl λ p h. ap (λ i. word_at v i p) (sym e)

  pub order_length : length v ≡ length w
  order_length = o.frame.len

  -- and is copied back
  pub order_copied : (u : List ℕ) → length u ≡ length v → CopiedTo v u r (count + 1) (r + count - r) → SameBelow v u (count + 1)
      → SameFrom v u (count + 1 + (r + count - r)) → Arranged ws u
  order_copied u l c below above =
      let z : r + count - r ≡ count = omega arith in
      let f = copied_frame v u r (count + 1) count (r + count - r) z l c below above in
      arrange u (edged_kept (Off (count + 1) (count + 1 + count)) ws v u sorted_edges f (λ j h a b. omega arith))
      (part_kept (Off (count + 1) (count + 1 + count)) v u f 0 (count + 1) (omega (arith, d.room, o.frame.len)) (λ j a b x y. omega arith))
      (copied_same v u r (count + 1) count (r + count - r) z l c below above)

-- what the sort asks
pub sort_asks : (b : List ℕ) (n : ℕ) (w : List ℕ) (count : ℕ) → count ≡ entry_count (first_words b n) → Edged (first_words b n) w →
    n ≤ 520192 → Ready (first_words b n) w count 0 (count + 1) (2 * count + 1) × (count ≤ 4294967296)
sort_asks b n w count k d h = (
  subst (λ c. Ready (first_words b n) w c 0 (c + 1) (2 * c + 1)) (sym k) (edged_ready (first_words b n) w d),
  omega (arith, few_entries (first_words b n) d.whole d.small, length_first_words b n),
)
