-- Mandatory parameters counted, list by list; and a word for each import.
use Prim.Native.Nat.{ℕ, ◌+◌, ◌-◌, ◌*◌, ◌/◌, ◌%◌, ◌≤◌, ◌<◌}
use mathlib.Core.Path.{◌≡◌, refl, sym, ap, ap₂, ◌∙◌}
use mathlib.Core.List.{List, [], ◌∷◌, map}
use mathlib.Core.Bool.{Bool, true, false, cond, not}
use Rattle.std.specs.Prelude.{None}
use native.Mathlib.Omega.{arith}
use lib.Dec.{eqb}
use lib.ListN.{length, get_or, set}
use borrow.Author.Tests.{eq-eqb, ne_eqb}
use Rattle.lists.specs.Lists.{keep}
use Rattle.blocks.specs.Blocks.{words}
use Rattle.blocks.specs.Frame.{first_words}
use Rattle.reader.specs.Value.{Whole, value_of}
use Rattle.sheet.specs.Module.{Param, ParamList, Module}
use Rattle.sheet.specs.Decode.{param_of, param_list}
use Rattle.sheet.specs.Editions.{may_leave_out}
use Rattle.imports.specs.Params.{sig_params, optional}
use Rattle.code.specs.Callee.{import_at}
use Rattle.code.specs.Code.{mandatory, most_arguments, fewest_arguments}
use Rattle.code.proofs.ArityLaws.{fewest_all, fewest_mandatory}
use Rattle.region.specs.Region.{Off, Frame, word_at}
use Rattle.region.specs.RegionLaws.{frame_refl, fill_more}
use Rattle.open_layout.specs.Opened.{module_in}
use Rattle.open_sheet.specs.declared.Opened.{Opened}
use Rattle.open_sheet.specs.Ready.{Ready}
use Rattle.open_sheet.specs.ReadyLaws.{callees_inside, ready_below}
use Rattle.rule_list_members.specs.Members.{pairs_at}
use Rattle.rule_list_members.proofs.MemberSteps.{pairs_first, pairs_none}
use Rattle.rule_lists.proofs.ListWords.{to_param, param_words, params_in, no_params, params_whole, params_some, pairs_inside, pairs_value}
use Rattle.rule7_arguments.specs.Arguments.{mandatory_one, mandatory_in, fewest_at, Fewest}

-- ── one parameter ──

pub one_optional : (flags : ℕ) → flags / 2 % 2 ≡ 1 → 0 ≡ mandatory_one flags
unfolding mandatory_one
one_optional flags h = sym (ap (λ (b : Bool). cond b 0 1) (eq-eqb (flags / 2 % 2) 1 h))

pub one_mandatory : (flags : ℕ) → (flags / 2 % 2 ≡ 1 → ⊥) → 1 ≡ mandatory_one flags
unfolding mandatory_one
one_mandatory flags h = sym (ap (λ (b : Bool). cond b 0 1) (ne_eqb (flags / 2 % 2) 1 h))

pub one_most : (flags : ℕ) {one : ℕ} → one ≡ mandatory_one flags → one ≤ 1
unfolding mandatory_one
one_most flags e = omega (arith, e, go (eqb (flags / 2 % 2) 1))
  where
    go : (b : Bool) → cond b 0 1 ≤ 1
    go true = omega arith
    go false = omega arith

-- ── the loop through a list: those found, and those ahead ──

pub record Counting (ws : List ℕ) (n count from i found : ℕ) : Type 0 where
  pub inside : from + 2 * count ≤ n
  pub room : found ≤ i
  pub total : found + mandatory_in (pairs_at ws (count - i) (from + 2 * i)) ≡ mandatory_in (pairs_at ws count from)

module _ (ws : List ℕ) (n count from : ℕ) where
  pub counting_start : from + 2 * count ≤ n → Counting ws n count from 0 0
  counting_start h =
      let z : count - 0 ≡ count = omega arith in
      let y : from + 2 * 0 ≡ from = omega arith in
      record { inside = h; room = omega arith; total = omega (arith, ap₂ (λ c p. mandatory_in (pairs_at ws c p)) z y) }

  module _ (i found : ℕ) (x : Counting ws n count from i found) where
    pub counting_inside : from + 2 * count ≤ n
    counting_inside = x.inside

    pub counting_end : count ≤ i → found ≡ mandatory_in (pairs_at ws count from)
    unfolding mandatory_in
    counting_end h = omega (arith, x.total, ap mandatory_in (pairs_none ws (count - i) (from + 2 * i) (omega arith)))

    module _ (h : i < count) {flags one : ℕ} (e : flags ≡ get_or ws (from + 2 * i) 0) (f : one ≡ mandatory_one flags) where
      pub counting_next : Counting ws n count from (i + 1) (found + one)
      unfolding mandatory_in
      counting_next =
          let z : one ≡ mandatory_one (get_or ws (from + 2 * i) 0) = f ∙ ap mandatory_one e in
          let c : count - i - 1 ≡ count - (i + 1) = omega arith in
          let p : from + 2 * i + 2 ≡ from + 2 * (i + 1) = omega arith in
          record {
            inside = x.inside;
            room = omega (arith, x.room, one_most flags f);
            total = omega (
              arith,
              x.total,
              ap mandatory_in (pairs_first ws (count - i) (from + 2 * i) (omega arith)),
              ap₂ (λ k q. mandatory_in (pairs_at ws k q)) c p,
              z,
            );
          }

-- ── as the definitions have it ──

kept : (xs : List (ℕ × ℕ)) → mandatory_in xs ≡ length (keep (λ p. not (optional p)) (map to_param xs))
unfolding mandatory_in mandatory_one optional
kept [] = refl
kept (x ∷ xs) = go (eqb (x.0 / 2 % 2) 1) (kept xs)
  where
    rest : List Param
    rest = keep (λ p. not (optional p)) (map to_param xs)

    go : (b : Bool) → mandatory_in xs ≡ length rest → cond b 0 1 + mandatory_in xs ≡ length (cond (not b) (to_param x ∷ rest) rest)
    go true h = omega arith
    go false h = omega arith

module _ (b : List ℕ) (n at : ℕ) (h : Whole (param_list (first_words b n) at)) {w : ℕ} (e : w ≡ get_or (words b) at 0) where
  module _ (z : w ≡ 0 → ⊥) {count : ℕ} (f : count ≡ get_or (words b) (at + 1) 0) where
    pub listed_inside : at + 2 + 2 * count ≤ n
    listed_inside = omega (arith, pairs_inside param_of to_param param_words b n (at + 1) (params_whole b n at h e z) f)

    listed : (k : ℕ) → mandatory (value_of None (param_list (first_words b n) at)) k ≡ mandatory_in (pairs_at (words b) count (at + 2))
    unfolding mandatory
    listed k =
        let place : at + 1 + 1 ≡ at + 2 = omega arith in
        let value = params_some b n at h e z in
        let pairs = pairs_value param_of to_param param_words b n (at + 1) (params_whole b n at h e z) f in
        ap (λ (l : ParamList). mandatory l k) value
        ∙ ap (λ (ps : List Param). length (keep (λ p. not (optional p)) ps)) pairs
        ∙ sym (kept (pairs_at (words b) count (at + 1 + 1)))
        ∙ ap (λ (p : ℕ). mandatory_in (pairs_at (words b) count p)) place

  unlisted : w ≡ 0 → (k : ℕ) → mandatory (value_of None (param_list (first_words b n) at)) k ≡ k
  unfolding mandatory
  unlisted z k = ap (λ (l : ParamList). mandatory l k) (no_params b n at h e z)

-- ── the fewest arguments of an import ──

pub list_in : (b : List ℕ) (n at : ℕ) → Whole (param_list (first_words b n) at) → at < n
list_in b n at h = params_in b n at h

module _ (b w : List ℕ) (o : Opened) (x : Ready (first_words b o.layout.words) w o) (j : ℕ) where
  abbrev ws : List ℕ
  ws = first_words b o.layout.words

  abbrev m : Module
  m = module_in ws

  pub import_most : {t r : ℕ} → t ≡ (import_at m j).sig → r ≡ length (sig_params m t) → r ≡ most_arguments m (import_at m j)
  import_most e h = h ∙ ap (λ t. length (sig_params m t)) e

  module _ {leaves : Bool} (q : leaves ≡ may_leave_out o.edition) where
    leaves_here : (v : Bool) → leaves ≡ v → may_leave_out m.edition ≡ v
    leaves_here v e = sym (ap may_leave_out x.opens.edition) ∙ sym q ∙ e

    -- none may be left out
    pub fewest_whole : leaves ≡ false → {r : ℕ} → r ≡ most_arguments m (import_at m j) → r ≡ fewest_arguments m (import_at m j)
    fewest_whole e h = h ∙ sym (fewest_all m (import_at m j) (leaves_here false e))

    module _ (e : leaves ≡ true) (at : ℕ) (l : Whole (param_list ws at)) (v : value_of None (param_list ws at) ≡ (import_at m j).params)
        {k : ℕ} (f : k ≡ get_or (words b) at 0) where
      by_list : mandatory (value_of None (param_list ws at)) (most_arguments m (import_at m j)) ≡ fewest_arguments m (import_at m j)
      by_list =
          ap (λ (l : ParamList). mandatory l (most_arguments m (import_at m j))) v
          ∙ sym (fewest_mandatory m (import_at m j) (leaves_here true e))

      pub fewest_unlisted : k ≡ 0 → {r : ℕ} → r ≡ most_arguments m (import_at m j) → r ≡ fewest_arguments m (import_at m j)
      fewest_unlisted z h = h ∙ sym (unlisted b o.layout.words at l f z (most_arguments m (import_at m j))) ∙ by_list

      pub fewest_listed : (k ≡ 0 → ⊥) → {count r : ℕ} → count ≡ get_or (words b) (at + 1) 0 →
          r ≡ mandatory_in (pairs_at (words b) count (at + 2)) → r ≡ fewest_arguments m (import_at m j)
      fewest_listed z g h = h ∙ sym (listed b o.layout.words at l f z g (most_arguments m (import_at m j))) ∙ by_list

-- ── the loop through the imports ──

pub record Indexing (ws w₀ w : List ℕ) (o : Opened) (j : ℕ) : Type 0 where
  pub frame : Frame (Off (fewest_at o) (fewest_at o + o.counts.imports)) w₀ w
  pub done : (p : ℕ) → p < j → word_at w (fewest_at o) p ≡ fewest_arguments (module_in ws) (import_at (module_in ws) p)

module _ (ws w₀ : List ℕ) (o : Opened) where
  pub indexing_start : Indexing ws w₀ w₀ o 0
  indexing_start = record {
    frame = frame_refl (Off (fewest_at o) (fewest_at o + o.counts.imports)) w₀;
    done = λ p h. absurd (omega arith);
  }

  module _ (x : Ready ws w₀ o) (w : List ℕ) (j : ℕ) (s : Indexing ws w₀ w o j) where
    pub indexing_ready : Ready ws w o
    indexing_ready = ready_below ws w₀ o x w (record { len = s.frame.len; same = λ k h. s.frame.same k (λ a b. omega arith) })

    pub indexing_place : j < o.counts.imports → fewest_at o + j < length w
    indexing_place h = omega (arith, callees_inside ws w₀ o x, x.room, s.frame.len)

    pub indexing_next : j < o.counts.imports → {c : ℕ} → c ≡ fewest_arguments (module_in ws) (import_at (module_in ws) j) →
        Indexing ws w₀ (set w (fewest_at o + j) c) o (j + 1)
    indexing_next h {c} e =
        let t = fill_more (λ p. fewest_arguments (module_in ws) (import_at (module_in ws) p)) w₀ w (set w (fewest_at o + j) c) (fewest_at o)
        o.counts.imports j (omega (arith, callees_inside ws w₀ o x, x.room)) h s.frame s.done
        (ap (set w (fewest_at o + j)) e) in
        record { frame = t.0; done = t.1 }

    pub indexing_end : o.counts.imports ≤ j → Fewest ws w o
    indexing_end h = record { counts = λ p k. s.done p (omega arith) }
