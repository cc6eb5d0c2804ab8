-- What is said of calls holds.
use Rattle.std.specs.Prelude.{◌≡◌, refl, ◌↔◌, true, false, ℕ, length, take, None, Some, Err, Ok}
use Rattle.std.proofs.Math.Path.{sym, ap}
use Rattle.std.proofs.Common.{ap₂, ◌∙◌, subst, subst₂, take-append-drop}
use mathlib.Core.List.{List, [], ◌∷◌, ◌++◌}
use Rattle.std.proofs.Math.ListN.{drop}
use Rattle.error.specs.Answer.{Loaded}
use Rattle.error.specs.declared.LoadErrorKind.TheVariants.{Decode, BadHostList, ShortSlice}
use Rattle.error.specs.Answer.{kind_numbers, numbers, refusal, NumbersTell, is_accepted, in_module, first}
use Rattle.error.proofs.Told.{numbers_tell}
use Rattle.sheet.specs.Module.{Module}
use Rattle.sheet.specs.Decode.{decode}
use Rattle.host.specs.Host.{HostFn, decode_hosts}
use Rattle.table.specs.Table.{table_of}
use Rattle.load.specs.Load.{faults_of, long_enough, answer, load, table_after, work_after}
use Rattle.load.specs.Kinds.{kind_number}
use Rattle.load.proofs.KindLaws.{early, Links, opens, first_accepted, broken_sheet_lem, broken_hosts_lem, short_slice_lem, refused_first, accepted}
use Rattle.load.proofs.SliceLaws.{before_rules, untouched_table, table_written, work_untouched, work_zero_lem}
use Rattle.renumber.specs.Renumber.{renumber, RenumberedSheet}
use Rattle.law_renumbering.specs.Statement.{Family, Call, LongEnough, answers, accepts, Agree}
use Rattle.law_renumbering.proofs.Accepting.{family_front, types_few}
use Rattle.law_renumbering.proofs.Theorem.{agree_fronts}
use Rattle.law_renumbering.proofs.Sheets.{as_renumbered, renumbered_sheets}
use Rattle.calls.specs.Calls.{Loads, LoadsNumbers, is_early, Exactly, Verdict, Slices}
use Rattle.calls.specs.Calls.{RefusesRight, Begins, FamilyAsked, FamilyRight, NotShort, AgreeAsked, NumberingFree}

-- ── calls ──

-- what a call for C and Rust ensures is a call, and its six numbers
pub numbered_call : (sheet hosts table work six left work_left : List ℕ) → six ≡ numbers (load sheet hosts (length table) (length work)) →
    left ≡ table_after sheet hosts table work → work_left ≡ work_after sheet hosts table work →
    LoadsNumbers sheet hosts table work six left work_left
numbered_call sheet hosts table work six left work_left e f g = record {
  answered = load sheet hosts (length table) (length work);
  loads = record { answers = refl; leaves = f; clears = g };
  numbered = e;
}

-- ── the family ──

-- what queries answer is what the definition says
family_asked : (m : Module) (table : List ℕ) → Family m table → FamilyAsked m table
family_asked m table f = record {
  yes = λ t a x q. (λ e. (f.yes t a).0 (sym q.answers ∙ e), λ d. q.answers ∙ (f.yes t a).1 d);
  no = λ t a x q n. q.answers ∙ f.no t a n;
}

-- no rule is broken, and the words are the linked table and a rest
pub record Fronted (m : Module) (hs : List HostFn) (l : ℕ) (words : List ℕ) : Type 0 where
  pub faultless : faults_of hs m ≡ []
  pub fronts : words ≡ table_of hs m ++ drop l words

module _ (sheet hosts table work : List ℕ) (l : ℕ) (left work_left : List ℕ)
    (c : Loads sheet hosts table work (Ok l) left work_left) where
  pub links : Links sheet hosts (length table) (length work) l
  links = (accepted sheet hosts (length table) (length work) l).0 (sym c.answers)

  -- of any words that begin so
  pub fronted : (m : Module) (hs : List HostFn) → decode sheet ≡ Some m → decode_hosts hosts ≡ Some hs → (words : List ℕ) →
      Begins l left words → Fronted m hs l words
  unfolding Begins
  fronted m hs d o words b =
      let a : links.source ≡ m = let e : Some links.source ≡ Some m = sym links.decodes ∙ d in cc in
      let g : links.host_list ≡ hs = let e : Some links.host_list ≡ Some hs = sym links.lists ∙ o in cc in
      let w = table_written sheet hosts table work l m hs (sym c.answers) d o in
      record {
        faultless = sym (ap₂ faults_of g a) ∙ links.kept;
        fronts = sym (take-append-drop l words) ∙ ap (λ (ws : List ℕ). ws ++ drop l words) (b ∙ ap (take l) c.leaves ∙ w.front);
      }

  -- what holds of the linked table of a module without faults, and any rest, holds of them
  pub of_left : (P : List ℕ → Type 0) (m : Module) → decode sheet ≡ Some m → (words : List ℕ) → Begins l left words →
      ((hs : List HostFn) → faults_of hs m ≡ [] → (rest : List ℕ) → P (table_of hs m ++ rest)) → P words
  of_left P m d words b holds =
      let f = fronted m links.host_list d links.lists words b in
      subst P (sym f.fronts) (holds links.host_list f.faultless (drop l words))

pub family_right : FamilyRight
unfolding FamilyRight
family_right sheet hosts table work l left work_left m d c words b =
    of_left sheet hosts table work l left work_left c (FamilyAsked m) m d words b λ hs f rest.
    family_asked m (table_of hs m ++ rest) (family_front hs m f (types_few sheet m d) rest)

-- ── demand 3 ──

-- what agrees by the definitions agrees by the queries
agree_asked : (r : List ℕ) (m : Module) (left left_also : List ℕ) → Agree r m left left_also → AgreeAsked r m left left_also
agree_asked r m left left_also g = record {
  families = λ t a x y p q. p.answers ∙ g.families t a ∙ sym q.answers;
  family = family_asked m left g.family;
  family_also = family_asked (renumber r m) left_also g.family_also;
  lengths = λ t x y p q. p.answers ∙ g.lengths t ∙ sym q.answers;
  canonical = g.canonical;
  hooks = g.hooks;
  catches = g.catches;
}

-- a call as the statement over the definitions has it
abbrev called : (sheet table work : List ℕ) → Call
called sheet table work = record { sheet = sheet; table = table; work = work }

-- it is accepted where the answer is
accepted_here : (sheet hosts table work : List ℕ) (r : Loaded) → r ≡ load sheet hosts (length table) (length work) → is_accepted r ≡ accepts hosts (called sheet table work)
unfolding accepts answers
accepted_here sheet hosts table work r e = ap is_accepted e

-- 24 is answered to neither
long_here : (sheet hosts table work : List ℕ) (r : Loaded) → r ≡ load sheet hosts (length table) (length work) → NotShort r →
    LongEnough hosts (called sheet table work)
unfolding NotShort LongEnough answers
long_here sheet hosts table work r e n q = n (e ∙ q)

-- any words that begin as two accepted calls left them agree
begin_alike : (r hosts first second : List ℕ) (w : RenumberedSheet r first second) →
    (table work : List ℕ) (l : ℕ) (left work_left : List ℕ) → Loads first hosts table work (Ok l) left work_left →
    (table_also work_also : List ℕ) (k : ℕ) (left_also work_left_also : List ℕ) →
    Loads second hosts table_also work_also (Ok k) left_also work_left_also →
    (words words_also : List ℕ) → Begins l left words → Begins k left_also words_also →
    AgreeAsked r w.source words words_also
begin_alike r hosts first second w table work l left work_left c table_also work_also k left_also work_left_also d words words_also b e =
    let m = w.source in
    let v = as_renumbered w in
    let s = links first hosts table work l left work_left c in
    let hs = s.host_list in
    let f = fronted first hosts table work l left work_left c m hs v.decodes s.lists words b in
    let g = fronted second hosts table_also work_also k left_also work_left_also d (renumber r m) hs v.decodes_also s.lists words_also e in
    agree_asked r m words words_also
    (subst₂ (Agree r m) (sym f.fronts) (sym g.fronts)
    (agree_fronts r first second v hs f.faultless g.faultless (drop l words) (drop k words_also)))

pub numbering_free : NumberingFree
unfolding NumberingFree
numbering_free r hosts first second w table work x left work_left c n table_also work_also y left_also work_left_also d k =
    let one = called first table work in
    let two = called second table_also work_also in
    let o = renumbered_sheets r hosts one two w (long_here first hosts table work x c.answers n) (long_here second hosts table_also work_also y d.answers k) in
    let e = accepted_here first hosts table work x c.answers in
    record {
      together = e ∙ o.together ∙ sym (accepted_here second hosts table_also work_also y d.answers);
      agree = λ i j p q.
          begin_alike r hosts first second w table work i left work_left
          (subst (λ (a : Loaded). Loads first hosts table work a left work_left) p c)
          table_also work_also j left_also work_left_also
          (subst (λ (a : Loaded). Loads second hosts table_also work_also a left_also work_left_also) q d);
    }

-- ── demand 1 ──

-- what both decode to, with room, is judged by the rules
pub by_rules : (sheet hosts : List ℕ) (table work : ℕ) (m : Module) (hs : List HostFn) → decode sheet ≡ Some m →
    decode_hosts hosts ≡ Some hs →
    long_enough sheet table work ≡ true → load sheet hosts table work ≡ first (length (table_of hs m)) (faults_of hs m)
unfolding load answer
by_rules sheet hosts table work m hs d o t = ap answer (opens sheet hosts table work m hs d o t)

-- the six numbers tell the answer
exactly : (r a : Loaded) (six : List ℕ) (P : Type 0) → numbers a ≡ six → (r ≡ a) ↔ P → Exactly r a six P
unfolding Exactly NumbersTell
exactly r a six P n f = (f, (λ e. f.0 (numbers_tell r a (e ∙ sym n)), λ p. ap numbers (f.1 p) ∙ n))

-- the answer of the definition
pub verdict : (sheet hosts : List ℕ) (table work : ℕ) → Verdict sheet hosts table work (load sheet hosts table work)
unfolding numbers kind_numbers
verdict sheet hosts table work =
    let at = by_rules sheet hosts table work in
    let r = load sheet hosts table work in
    record {
      broken_sheet = exactly r (Err (in_module Decode)) (refusal 1) (decode sheet ≡ None) refl (broken_sheet_lem sheet hosts table work);
      broken_hosts = λ m d. exactly r (Err (in_module BadHostList)) (refusal 23) (decode_hosts hosts ≡ None) refl (
        λ q. ((broken_hosts_lem sheet hosts table work).0 q).1,
        λ n. (broken_hosts_lem sheet hosts table work).1 (record { value = m; given = d }, n),
      );
      short_slice = λ m hs d o. exactly r (Err (in_module ShortSlice)) (refusal 24) (long_enough sheet table work ≡ false) refl (
        λ q. ((short_slice_lem sheet hosts table work).0 q).2,
        λ n. (short_slice_lem sheet hosts table work).1 (record { value = m; given = d }, record { value = hs; given = o }, n),
      );
      accepted = λ m hs l d o t.
          let n = length (table_of hs m) in
          exactly r (Ok l) (0 ∷ 0 ∷ l ∷ 0 ∷ 0 ∷ 0 ∷ []) ((faults_of hs m ≡ []) × (l ≡ n)) refl (
            λ q. first_accepted n l (faults_of hs m) (sym (at m hs d o t) ∙ q),
            λ k. at m hs d o t ∙ ap (first n) k.0 ∙ unfold first in ap Ok (sym k.1),
          );
      refused = λ m hs e es d o t q.
          let i = refused_first sheet hosts table work m hs e es (opens sheet hosts table work m hs d o t) q in (i, ap numbers i);
    }

-- 1, 23 and 24 are the kinds that touch nothing
early_same : (a : Loaded) → before_rules a ≡ is_early a
unfolding is_early before_rules early kind_number
early_same (Ok l) = refl
early_same (Err e) = refl

module _ (sheet hosts table work : List ℕ) (r : Loaded) (left work_left : List ℕ) (c : Loads sheet hosts table work r left work_left) where
  early_here : before_rules (load sheet hosts (length table) (length work)) ≡ is_early r
  early_here = ap before_rules (sym c.answers) ∙ early_same r

  slices : Slices sheet hosts table work r left work_left
  slices =
      record {
        kept = λ e q. c.leaves ∙ untouched_table sheet hosts table work e (sym c.answers ∙ q);
        linked = λ l m hs q d o. ap (take l) c.leaves ∙ (table_written sheet hosts table work l m hs (sym c.answers ∙ q) d o).front;
        rest = λ l q.
            let k = (accepted sheet hosts (length table) (length work) l).0 (sym c.answers ∙ q) in
            ap (drop l) c.leaves ∙ (table_written sheet hosts table work l k.source k.host_list (sym c.answers ∙ q) k.decodes k.lists).rest;
        work_kept = λ b. c.clears ∙ work_untouched sheet hosts table work (early_here ∙ b);
        work_zero = λ b. c.clears ∙ work_zero_lem sheet hosts table work (early_here ∙ b);
      }

pub refuses_right : RefusesRight
unfolding RefusesRight
refuses_right sheet hosts table work r left work_left c = (
  subst (λ (a : Loaded). Verdict sheet hosts (length table) (length work) a) (sym c.answers) (verdict sheet hosts (length table) (length work)),
  slices sheet hosts table work r left work_left c,
)
