-- What is said of nearest families holds.
use Rattle.std.specs.Prelude.{◌≡◌, refl, ◌↔◌, Bool, true, false, cond, List, [], ◌++◌, ℕ, ◌≤◌, T, length, drop, Option, None, Some}
use Rattle.std.specs.Prelude.{option_map, option_and_then, Ok}
use Rattle.std.proofs.Math.Path.{sym, ap}
use Rattle.std.proofs.Common.{◌∙◌, subst₂, arith}
use Rattle.error.specs.declared.TypeId.{TypeId}
use Rattle.error.specs.Answer.{type_number}
use Rattle.sheet.specs.Module.{Module}
use Rattle.sheet.specs.Decode.{decode}
use Rattle.host.specs.Host.{HostFn}
use Rattle.sheet.specs.Editions.{most_of}
use Rattle.sheet.proofs.EditionLaws.{most_from_one}
use Rattle.parents.specs.Parents.{parents_faults}
use Rattle.spans.specs.Spans.{no_pre}
use Rattle.descends.specs.Descends.{descends}
use Rattle.descends.specs.Nearest.{NearestFamily, family_of, nearest_in}
use Rattle.table.specs.Table.{table_of}
use Rattle.families.specs.Families.{is_from, nearest}
use Rattle.load.specs.Load.{faults_of}
use Rattle.renumber.specs.Renumber.{is_renumbering, image, renumber}
use Rattle.law_forest.specs.Once.{ChainRule}
use Rattle.law_forest.proofs.AcceptedLaws.{chain_rule}
use Rattle.law_families.specs.NearestLaws.{nearest_turned, nearest_self, nearest_three, nearest_both, nearest_none, nearest_image}
use Rattle.law_linked.specs.Sized.{query_from}
use Rattle.law_linked.specs.Nearest.{nearest_answered}
use Rattle.law_renumbering.specs.AllRules.{parents_kept}
use Rattle.law_renumbering.proofs.Accepting.{types_few}
use Rattle.law_renumbering.specs.Bijection.{bijection, listed, origins}
use Rattle.law_renumbering.proofs.Sheets.{as_renumbered}
use Rattle.calls.specs.Calls.{Asks, NotShort, AgreeAsked, NumberingFree}
use Rattle.calls.proofs.CallLaws.{links, fronted, of_left, numbering_free}
use Rattle.family_calls.specs.NearestCalls.{AsksNearest, then_ask, NearestAsked, NearestRight}
use Rattle.family_calls.specs.NearestCalls.{family_image, NearestMoves, NearestNumberingFree}

-- ── answers ──

none_told : (o : Option ℕ) → (family_of o ≡ Ok None) ↔ (o ≡ None)
unfolding family_of
none_told None = (λ e. refl, λ e. refl)
none_told (Some f) = (
  λ e. let z : ◌≡◌ {A = ℕ} 0 1 = cc in absurd (omega arith),
  λ e. let z : ◌≡◌ {A = ℕ} 0 1 = cc in absurd (omega arith),
)

found_told : (o : Option ℕ) (f : ℕ) → (family_of o ≡ Ok (Some (type_number f))) ↔ (o ≡ Some f)
unfolding family_of
found_told None f = (
  λ e. let z : ◌≡◌ {A = ℕ} 0 1 = cc in absurd (omega arith),
  λ e. let z : ◌≡◌ {A = ℕ} 0 1 = cc in absurd (omega arith),
)
found_told (Some g) f = (
  λ e. let q : type_number g ≡ type_number f = cc in ap (λ (i : TypeId). Some i.0) q,
  λ e. let q : g ≡ f = cc in ap (λ x. Ok (Some (type_number x))) q,
)

then_told : (o : Option ℕ) (next : ℕ → Option ℕ) → then_ask (family_of o) (λ f. family_of (next f)) ≡ family_of (option_and_then next o)
unfolding family_of then_ask
then_told None next = refl
then_told (Some f) next = refl

image_told : (r : List ℕ) (o : Option ℕ) → family_of (option_map (image r) o) ≡ family_image r (family_of o)
unfolding family_of family_image
image_told r None = refl
image_told r (Some f) = refl

one_true : (b : Bool) → (◌≡◌ {A = ℕ} (cond b 1 0) 1) ↔ T b
one_true true = (λ e. tt, λ h. refl)
one_true false = (λ e. absurd (omega arith), λ h. absurd h)

same_test : (a b : Bool) → ◌≡◌ {A = ℕ} (cond a 1 0) (cond b 1 0) → a ≡ b
same_test true true e = refl
same_test true false e = absurd (omega arith)
same_test false true e = absurd (omega arith)
same_test false false e = refl

-- ── on a table that load left ──

-- no parent rule is broken, and every number of a type fits a word
record Sound (m : Module) : Type 0 where
  kept : parents_faults (most_of m) m ≡ []
  few : length m.types ≤ no_pre

abbrev long_table : List HostFn → Module → List ℕ → List ℕ
long_table hosts m rest = table_of hosts m ++ rest

rule : (m : Module) → Sound m → ChainRule (most_of m) m.types
rule m s = chain_rule (most_of m) (most_from_one m.edition) m s.kept

module _ (hosts : List HostFn) (m : Module) (rest : List ℕ) (s : Sound m) where
  abbrev d : ℕ → ℕ → Bool
  d t a = is_from (most_of m) m.types t a

  abbrev near : ℕ → ℕ → Option ℕ
  near t u = nearest (most_of m) m.types t u

  near_told : (t u : ℕ) → nearest_in (long_table hosts m rest) t u ≡ family_of (near t u)
  near_told t u = nearest_answered (most_of m) hosts m rest s.kept (most_from_one m.edition) s.few t u

  from_told : (t a : ℕ) → descends (long_table hosts m rest) t a ≡ cond (d t a) 1 0
  from_told t a = query_from (most_of m) hosts m rest s.kept (most_from_one m.edition) s.few t a

  yes_told : (t a : ℕ) {x : ℕ} → x ≡ descends (long_table hosts m rest) t a → (x ≡ 1) ↔ T (d t a)
  yes_told t a e =
      let o = one_true (d t a) in
      (λ h. o.0 (sym (from_told t a) ∙ sym e ∙ h), λ h. e ∙ from_told t a ∙ o.1 h)

  family_told : (t u f : ℕ) {z : NearestFamily} → z ≡ nearest_in (long_table hosts m rest) t u →
      (z ≡ Ok (Some (type_number f))) ↔ (near t u ≡ Some f)
  family_told t u f e =
      let o = found_told (near t u) f in
      (λ h. o.0 (sym (near_told t u) ∙ sym e ∙ h), λ h. e ∙ near_told t u ∙ o.1 h)

  -- both descend from a exactly where the nearest family does
  both_told : (t u a x y : ℕ) (z : NearestFamily) → Asks (long_table hosts m rest) t a x → Asks (long_table hosts m rest) u a y →
      AsksNearest (long_table hosts m rest) t u z →
      ((x ≡ 1) × (y ≡ 1)) ↔ ((f : ℕ) × (z ≡ Ok (Some (type_number f))) × Asks (long_table hosts m rest) f a 1)
  both_told t u a x y z p q n =
      let b = nearest_both (most_of m) m.types (rule m s) t u a in
      let first = yes_told t a p.answers in
      let second = yes_told u a q.answers in (
        λ h.
            let k = b.0 (first.0 h.0, second.0 h.1) in
            let yes : Asks (long_table hosts m rest) k.0 a 1 = record { answers = sym ((yes_told k.0 a refl).1 k.2) } in
            (k.0, (family_told t u k.0 n.answers).1 k.1, yes),
        λ h.
            let found = (family_told t u h.0 n.answers).0 h.1 in
            let k = b.1 (h.0, found, (yes_told h.0 a h.2.answers).0 refl) in
            (first.1 k.0, second.1 k.1),
      )

  nearest_left : NearestAsked m (long_table hosts m rest)
  nearest_left = record {
    declared = λ t u x q. q.answers ∙ near_told t u;
    none = λ t u x q.
        let e = none_told (near t u) in
        let n = nearest_none (most_of m) m.types (rule m s) t u in
        (λ h. n.0 (e.0 (sym (near_told t u) ∙ sym q.answers ∙ h)), λ h. q.answers ∙ near_told t u ∙ e.1 (n.1 h));
    turned = λ t u x y p q.
        p.answers
        ∙ near_told t u
        ∙ ap family_of (nearest_turned (most_of m) m.types (rule m s) t u)
        ∙ sym (near_told u t)
        ∙ sym q.answers;
    itself = λ t x q z. (family_told t t t q.answers).1 (nearest_self (most_of m) m.types (rule m s) t z);
    grouped = λ ask h t u v.
        let told : (x y : ℕ) → ask x y ≡ family_of (near x y) = λ x y. (h x y).answers ∙ near_told x y in
        (λ i. then_ask (told t u i) (λ f. told f v i))
        ∙ then_told (near t u) (λ f. near f v)
        ∙ ap family_of (nearest_three (most_of m) m.types (rule m s) t u v)
        ∙ sym (then_told (near u v) (λ f. near t f))
        ∙ sym (λ i. then_ask (told u v i) (λ f. told t f i));
    both = both_told;
  }

-- ── on two tables of sheets that differ by one renumbering ──

module _ (hosts : List HostFn) (r : List ℕ) (m : Module) (renumbers : T (is_renumbering (length m.types) r))
    (s : Sound m) (z : Sound (renumber r m)) (rest rest_also : List ℕ)
    (agree : AgreeAsked r m (long_table hosts m rest) (long_table hosts (renumber r m) rest_also)) where
  abbrev d_also : ℕ → ℕ → Bool
  d_also t a = is_from (most_of (renumber r m)) (renumber r m).types t a

  alike : (t a : ℕ) → is_from (most_of m) m.types t a ≡ d_also (image r t) (image r a)
  alike t a =
      same_test (is_from (most_of m) m.types t a) (d_also (image r t) (image r a))
      (sym (from_told hosts m rest s t a)
      ∙ agree.families t a (descends (long_table hosts m rest) t a)
      (descends (long_table hosts (renumber r m) rest_also) (image r t) (image r a))
      (record { answers = refl }) (record { answers = refl })
      ∙ from_told hosts (renumber r m) rest_also z (image r t) (image r a))

  moved : (t u : ℕ) →
      nearest (most_of (renumber r m)) (renumber r m).types (image r t) (image r u)
      ≡ option_map (image r) (nearest (most_of m) m.types t u)
  unfolding renumber
  moved t u =
      let b = bijection (length m.types) r (listed (length m.types) r renumbers) in
      nearest_image (most_of m) m.types (renumber r m).types (rule m s) (rule (renumber r m) z)
      (image r) (origins r) b.forth alike t u

  nearest_moves : NearestMoves r (long_table hosts m rest) (long_table hosts (renumber r m) rest_also)
  unfolding NearestMoves
  nearest_moves t u x y p q =
      q.answers
      ∙ near_told hosts (renumber r m) rest_also z (image r t) (image r u)
      ∙ ap family_of (moved t u)
      ∙ image_told r (nearest (most_of m) m.types t u)
      ∙ ap (family_image r) (sym (near_told hosts m rest s t u) ∙ sym p.answers)

-- ── of every call ──

sound : (sheet : List ℕ) (hosts : List HostFn) (m : Module) → decode sheet ≡ Some m → faults_of hosts m ≡ [] → Sound m
sound sheet hosts m d f = record { kept = parents_kept (most_of m) hosts m f; few = types_few sheet m d }

pub nearest_right : NearestRight
unfolding NearestRight
nearest_right sheet hosts table work l left work_left m d c words b =
    of_left sheet hosts table work l left work_left c (NearestAsked m) m d words b λ hs f rest.
    nearest_left hs m rest (sound sheet hs m d f)

pub accepted_long : (l : ℕ) → NotShort (Ok l)
unfolding NotShort
accepted_long l e = let z : ◌≡◌ {A = ℕ} 0 1 = cc in absurd (omega arith)

pub nearest_numbering_free : NearestNumberingFree
unfolding NearestNumberingFree NumberingFree
nearest_numbering_free r hosts first second w table work l left work_left c table_also work_also k left_also work_left_also d ws ws_also b e =
    let m = w.source in
    let v = as_renumbered w in
    let o = links first hosts table work l left work_left c in
    let hs = o.host_list in
    let f = fronted first hosts table work l left work_left c m hs v.decodes o.lists ws b in
    let g = fronted second hosts table_also work_also k left_also work_left_also d (renumber r m) hs v.decodes_also o.lists ws_also e in
    let alike = numbering_free r hosts first second w table work (Ok l) left work_left c (accepted_long l)
    table_also work_also (Ok k) left_also work_left_also d (accepted_long k) in
    let agree = subst₂ (AgreeAsked r m) f.fronts g.fronts (alike.agree l k refl refl ws ws_also b e) in
    subst₂ (NearestMoves r) (sym f.fronts) (sym g.fronts)
    (nearest_moves hs r m v.renumbering
    (sound first hs m v.decodes f.faultless)
    (sound second hs (renumber r m) v.decodes_also g.faultless) (drop l ws) (drop k ws_also) agree)
