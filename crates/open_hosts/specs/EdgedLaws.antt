-- The edges of the host list: item i of the sort is entry i's words.
use Rattle.std.specs.Prelude.{ℕ, ◌+◌, ◌-◌, ◌*◌, ◌≤◌, ◌<◌, ◌≡◌, List, [], ◌∷◌, ◌++◌, true, ◌&&◌, ltb, length, get_or, drop}
use Rattle.std.proofs.Common.{sym, ap, ◌∙◌, arith, zero-add, length-append, length-drop}
use Rattle.std.proofs.Math.Path.{ap₂}
use Rattle.std.proofs.Math.Decide.{dec_lt}
use Rattle.std.proofs.Math.Seq.{slice}
use Rattle.lists.specs.Lists.{all_of, concat_map}
use Rattle.lists.specs.ListLaws.{and_first, and_second}
use Rattle.blocks.specs.ByteLaws.{is_word}
use Rattle.utf8.specs.Utf8.{well_formed}
use Rattle.reader.specs.Reader.{got, word, many, list_of}
use Rattle.reader.specs.ReaderLaws.{Stands, then_inv, many_found}
use Rattle.reader.proofs.ReadLaws.{read_inside, stands_slice, many_fit}
use Rattle.reader.specs.Text.{encode_string}
use Rattle.reader.specs.Value.{Whole}
use Rattle.reader.specs.ValueLaws.{whole_inv, got_whole, value_got}
use Rattle.region.specs.Region.{part}
use Rattle.region.specs.RegionLaws.{part_at}
use Rattle.sorting.specs.Items.{item}
use Rattle.sorting.specs.Contract.{Edges, Ready}
use Rattle.host.specs.Host.{HostFn, host_fn, nobody, encode_host}
use Rattle.host.specs.HostLaws.{coded_host, host_codes}
use Rattle.host.specs.Listed.{hosts_in}
use Rattle.host.specs.Texts.{word_inv}
use Rattle.open_hosts.specs.Sorted.{entry_count, Edged}

-- the entry of a number
abbrev pub entry_of : List ℕ → ℕ → HostFn
entry_of ws i = get_or (hosts_in ws) i nobody

-- ── the list ──

-- three words or more
pub entry_long : (h : HostFn) → 3 ≤ length (encode_host h)
unfolding encode_host encode_string
entry_long h = omega (arith, length-append (encode_string h.module_name ++ encode_string h.name) (h.kind ∷ []), length-append (encode_string h.module_name) (encode_string h.name))

-- the entries from word 3 on, as many as word 2 says
pub opened : {C : Type 0} (ws : List ℕ) → Whole (list_of host_fn ws 2) → ((q : ℕ) → 2 < length ws → many (entry_count ws) host_fn ws 3 ≡ got (hosts_in ws) q → C) → C
unfolding list_of
opened ws w f =
    whole_inv (list_of host_fn ws 2) w λ hs q e.
    then_inv (word ws 2) _ e λ n p e₁ e₂.
    let i = word_inv ws 2 e₁ in
    f q i.0 (ap₂ (λ k r. many k host_fn ws r) (sym i.1) (sym i.2) ∙ e₂ ∙ ap (λ l. got l q) (sym (value_got [] e)))

module _ (ws : List ℕ) (w : Whole (list_of host_fn ws 2)) (small : all_of is_word ws ≡ true) where
  pub hosts_count : length (hosts_in ws) ≡ entry_count ws
  hosts_count = opened ws w λ q h e. (many_found ws host_fn encode_host coded_host (host_codes ws small) (entry_count ws) 3 (hosts_in ws) q e).1

-- ── the edges ──

module _ (ws v : List ℕ) (d : Edged ws v) where
  pub edged_count : length (hosts_in ws) ≡ entry_count ws
  edged_count = hosts_count ws d.whole d.small

  module _ (i : ℕ) (h : i < entry_count ws) where
    stands : Stands ws (get_or v i 0) (encode_host (entry_of ws i)) (get_or v (i + 1) 0)
    stands = ((host_codes ws d.small).found (get_or v i 0) (entry_of ws i) (get_or v (i + 1) 0) (d.entry i h)).stands

    inside : get_or v (i + 1) 0 ≤ length ws
    inside = read_inside ws host_fn encode_host coded_host (host_codes ws d.small) (get_or v i 0) (entry_of ws i) (get_or v (i + 1) 0) (d.entry i h) (omega (arith, entry_long (entry_of ws i)))

    fine : coded_host (entry_of ws i) ≡ true
    fine = ((host_codes ws d.small).found (get_or v i 0) (entry_of ws i) (get_or v (i + 1) 0) (d.entry i h)).fine

    edge_low : get_or (part 0 (entry_count ws + 1) v) i 0 ≡ get_or v i 0
    edge_low = part_at 0 (entry_count ws + 1) v i (omega arith) ∙ ap (λ k. get_or v k 0) (zero-add i)

    edge_high : get_or (part 0 (entry_count ws + 1) v) (i + 1) 0 ≡ get_or v (i + 1) 0
    edge_high = part_at 0 (entry_count ws + 1) v (i + 1) (omega arith) ∙ ap (λ k. get_or v k 0) (zero-add (i + 1))

    pub entry_whole : Whole (host_fn ws (get_or v i 0))
    entry_whole = got_whole (d.entry i h)

    pub entry_item : item ws (part 0 (entry_count ws + 1) v) i ≡ encode_host (entry_of ws i)
    unfolding item
    entry_item = ap₂ (λ a e. slice a e ws) edge_low edge_high ∙ stands_slice ws (get_or v i 0) (get_or v (i + 1) 0) (encode_host (entry_of ws i)) stands inside

    pub module_fine : well_formed (entry_of ws i).module_name ≡ true
    unfolding coded_host
    module_fine =
        let a = well_formed (entry_of ws i).module_name in
        let b = well_formed (entry_of ws i).name in
        and_first a b (and_first (a && b) (ltb (entry_of ws i).kind 2) fine)

    pub name_fine : well_formed (entry_of ws i).name ≡ true
    unfolding coded_host
    name_fine =
        let a = well_formed (entry_of ws i).module_name in
        let b = well_formed (entry_of ws i).name in
        and_second a b (and_first (a && b) (ltb (entry_of ws i).kind 2) fine)

  edge_within : (i : ℕ) → i ≤ entry_count ws → get_or (part 0 (entry_count ws + 1) v) i 0 ≤ length ws
  edge_within i h = go (dec_lt i (entry_count ws)) (dec_lt 0 (entry_count ws))
    where
      go : Dec (i < entry_count ws) → Dec (0 < entry_count ws) → get_or (part 0 (entry_count ws + 1) v) i 0 ≤ length ws
      go (yes k) t = omega (arith, edge_low i k, (stands i k).end, inside i k)
      go (no k) (yes l) =
          let z : entry_count ws ≡ entry_count ws - 1 + 1 = omega arith in
          let e : i ≡ entry_count ws - 1 + 1 = omega arith in
          let u : get_or (part 0 (entry_count ws + 1) v) i 0 ≡ get_or v (entry_count ws - 1 + 1) 0 = ap (λ k. get_or (part 0 (entry_count ws + 1) v) k 0) e ∙ edge_high (entry_count ws - 1) (omega arith) in
          omega (arith, u, inside (entry_count ws - 1) (omega arith))
      go (no k) (no l) =
          let z : i ≡ 0 = omega arith in
          let u : get_or (part 0 (entry_count ws + 1) v) i 0 ≡ 3 = ap (λ k. get_or (part 0 (entry_count ws + 1) v) k 0) z ∙ part_at 0 (entry_count ws + 1) v 0 (omega arith) ∙ ap (λ k. get_or v k 0) (zero-add 0) ∙ d.begins in
          opened ws d.whole λ q m e. omega (arith, u)

  pub edged_edges : Edges ws v (entry_count ws) 0
  edged_edges = record {
    good = record {
      rising = λ i h. omega (arith, edge_low i h, edge_high i h, (stands i h).end);
      within = edge_within;
    };
    fits = omega (arith, d.room);
  }

  -- the order and the scratch beside them
  pub edged_ready : Ready ws v (entry_count ws) 0 (entry_count ws + 1) (2 * entry_count ws + 1)
  edged_ready = record {
    edges = edged_edges;
    a_in = omega (arith, d.room);
    b_in = omega (arith, d.room);
    s_a = λ k a b c e. omega arith;
    s_b = λ k a b c e. omega arith;
    a_b = λ k a b c e. omega arith;
  }

-- ── the room ──

module _ (ws : List ℕ) (w : Whole (list_of host_fn ws 2)) (small : all_of is_word ws ≡ true) where
  -- the entries stand after word 2
  pub entries_inside : 3 + length (concat_map encode_host (hosts_in ws)) ≤ length ws
  entries_inside = opened ws w λ q h e.
      let s = (many_found ws host_fn encode_host coded_host (host_codes ws small) (entry_count ws) 3 (hosts_in ws) q e).0.stands in
      omega (arith, s.end, length-drop 3 ws, length-drop q ws, ap length s.words, length-append (concat_map encode_host (hosts_in ws)) (drop q ws))

  -- a list of n words has few entries
  pub few_entries : 3 + 3 * entry_count ws ≤ length ws
  few_entries = opened ws w λ q h e.
      let c = host_codes ws small in
      let s = (many_found ws host_fn encode_host coded_host c (entry_count ws) 3 (hosts_in ws) q e).0.stands in
      omega (arith, entries_inside, s.end, many_fit ws host_fn encode_host coded_host c 3 entry_long (entry_count ws) 3 (hosts_in ws) q e)
