-- The theorem on two sheets that differ by one renumbering.
use Rattle.std.specs.Prelude.{◌≡◌, refl, ◌↔◌, List, [], ◌++◌, ℕ, ◌<◌, T, length, Ok}
use Rattle.std.proofs.Math.Path.{sym, ap}
use Rattle.std.proofs.Common.{◌∙◌, arith}
use Rattle.std.proofs.Math.Decide.{ℕ_discrete}
use Rattle.std.proofs.lemmas.List.{length-map}
use Rattle.law_counting.specs.Counting.{bool_ext}
use Rattle.sheet.specs.Module.{Func, Module}
use Rattle.host.specs.Host.{HostFn}
use Rattle.canon.specs.Canon.{canon_type}
use Rattle.sheet.specs.Editions.{most_of}
use Rattle.sheet.proofs.EditionLaws.{most_from_one}
use Rattle.spans.specs.Spans.{Descendant}
use Rattle.code.specs.Callee.{func_at}
use Rattle.table.specs.Records.{catch_table}
use Rattle.table.specs.Table.{hook_section, table_of}
use Rattle.descends.specs.Descends.{descends}
use Rattle.descends.specs.Lengths.{chain_length_in}
use Rattle.load.specs.Load.{faults_of}
use Rattle.law_faults.specs.Together.{Together}
use Rattle.sheet.specs.DecodedLaws.{Coded}
use Rattle.sheet.proofs.DecodedTheorems.{decoded}
use Rattle.law_linked.specs.Find.{hooks_in, canon_in, catch_in}
use Rattle.renumber.specs.Renumber.{image, func_image, renumber}
use Rattle.law_renumbering.specs.Bijection.{Listed, listed, bijection, types_size}
use Rattle.law_renumbering.specs.CanonMoved.{canon_moved}
use Rattle.law_renumbering.specs.Setting.{moved}
use Rattle.law_renumbering.specs.CodeRules.{func_known}
use Rattle.law_renumbering.specs.AllRules.{rules_together}
use Rattle.law_renumbering.specs.FamilyMoved.{descendant_moved, depth_moved}
use Rattle.law_renumbering.proofs.Accepting.{accepted_opening, opening_accepted, family_front, types_few}
use Rattle.law_renumbering.proofs.Accepting.{family_left, Holds, holds_front, holds_left}
use Rattle.law_renumbering.specs.Statement.{Family, Call, LongEnough, accepts, leaves, Renumbered, Agree, Outcome}

catch_image : (π : ℕ → ℕ) (f : Func) → catch_table (func_image π f) ≡ catch_table f
unfolding catch_table func_image
catch_image π f = refl

hooks_image : (r : List ℕ) (m : Module) → hook_section m ≡ hook_section (renumber r m)
unfolding hook_section renumber
hooks_image r m = refl

funcs_count : (r : List ℕ) (m : Module) → length (renumber r m).funcs ≡ length m.funcs
unfolding renumber
funcs_count r m = length-map m.funcs (func_image (image r))

types_count : (r : List ℕ) (m : Module) → length (renumber r m).types ≡ length m.types
unfolding renumber
types_count r m = types_size r m.types

module _ (r : List ℕ) (m : Module) (l : Listed (length m.types) r) (left left_also : List ℕ) where
  -- the answers are determined by what they mean
  families_same : Family m left → Family (renumber r m) left_also → (t a : ℕ) → descends left t a ≡ descends left_also (image r t) (image r a)
  unfolding renumber
  families_same f g t a = go (ℕ_discrete (descends left t a) 1)
    where
      d : Descendant m.types t a ↔ Descendant (renumber r m).types (image r t) (image r a)
      d = descendant_moved (moved r m l) t a

      go : Dec (descends left t a ≡ 1) → descends left t a ≡ descends left_also (image r t) (image r a)
      go (yes e) = e ∙ sym ((g.yes (image r t) (image r a)).1 (d.0 ((f.yes t a).0 e)))
      go (no n) =
          let k : Descendant m.types t a → ⊥ = λ h. n ((f.yes t a).1 h) in
          f.no t a k ∙ sym (g.no (image r t) (image r a) (λ h. k (d.1 h)))

module _ (r : List ℕ) (m : Module) (l : Listed (length m.types) r) (left left_also : List ℕ) (h : Holds m left) (k : Holds (renumber r m) left_also) where
  lengths_same : (t : ℕ) → chain_length_in left t ≡ chain_length_in left_also (image r t)
  unfolding renumber
  lengths_same t = h.lengths t ∙ ap Ok (depth_moved (moved r m l) (most_of m) t) ∙ sym (k.lengths (image r t))

  hooks_same : hooks_in left ≡ hooks_in left_also
  hooks_same = h.hooks ∙ hooks_image r m ∙ sym k.hooks

  catches_same : (f : ℕ) → f < length m.funcs → catch_in left f ≡ catch_in left_also f
  catches_same f b =
      h.catches f b ∙ sym (ap catch_table (func_known r m l f b) ∙ catch_image (image r) (func_at m f)) ∙ sym (k.catches f (omega (arith, funcs_count r m)))

  canon_at : (t : ℕ) → t < length m.types → canon_in left_also (image r t) ≡ canon_type (renumber r m).types (image r t)
  canon_at t b = k.canonical (image r t) (omega (arith, types_count r m, (bijection (length m.types) r l).below t b))

  canon_same : Coded m → (t u : ℕ) → t < length m.types → u < length m.types →
      (canon_in left t ≡ canon_in left u) ↔ (canon_in left_also (image r t) ≡ canon_in left_also (image r u))
  unfolding renumber
  canon_same good t u b d =
      let c = canon_moved (moved r m l) good.types t u in (
        λ e. canon_at t b ∙ c.0 (sym (h.canonical t b) ∙ e ∙ h.canonical u d) ∙ sym (canon_at u d),
        λ e. h.canonical t b ∙ c.1 (sym (canon_at t b) ∙ e ∙ canon_at u d) ∙ sym (h.canonical u d),
      )

-- two tables of which each says of its module what a table left by load does
pub agree_of : (r : List ℕ) (m : Module) → Listed (length m.types) r → Coded m → (left left_also : List ℕ) →
    Family m left → Family (renumber r m) left_also → Holds m left → Holds (renumber r m) left_also → Agree r m left left_also
agree_of r m l good left left_also f g h k = record {
  families = families_same r m l left left_also f g;
  family = f;
  family_also = g;
  lengths = lengths_same r m l left left_also h k;
  canonical = canon_same r m l left left_also h k good;
  hooks = hooks_same r m l left left_also h k;
  catches = catches_same r m l left left_also h k;
}

module _ (r hosts : List ℕ) (first second : Call) (w : Renumbered r first.sheet second.sheet) where
  places : Listed (length w.source.types) r
  places = listed (length w.source.types) r w.renumbering

  good : Coded w.source
  good = decoded first.sheet w.source w.decodes

  kept_together : (hs : List HostFn) → Together (faults_of hs w.source) (faults_of hs (renumber r w.source))
  unfolding renumber
  kept_together hs = rules_together (most_of w.source) (most_from_one w.source.edition) r w.source places good hs

  agree_left : T (accepts hosts first) → T (accepts hosts second) → Agree r w.source (leaves hosts first) (leaves hosts second)
  agree_left a b =
      let m = w.source in
      agree_of r m places good (leaves hosts first) (leaves hosts second)
      (family_left hosts first m w.decodes a) (family_left hosts second (renumber r m) w.decodes_also b)
      (holds_left hosts first m w.decodes a) (holds_left hosts second (renumber r m) w.decodes_also b)

  accepted_there : LongEnough hosts second → T (accepts hosts first) → T (accepts hosts second)
  accepted_there room h =
      let o = accepted_opening hosts first w.source w.decodes h in
      opening_accepted hosts second (renumber r w.source) w.decodes_also room o.host_list o.decodes ((kept_together o.host_list).there o.kept)

  accepted_back : LongEnough hosts first → T (accepts hosts second) → T (accepts hosts first)
  accepted_back room h =
      let o = accepted_opening hosts second (renumber r w.source) w.decodes_also h in
      opening_accepted hosts first w.source w.decodes room o.host_list o.decodes ((kept_together o.host_list).back o.kept)

-- THE THEOREM
pub renumbered : (r hosts : List ℕ) (first second : Call) (w : Renumbered r first.sheet second.sheet) → LongEnough hosts first → LongEnough hosts second →
    Outcome r hosts w.source first second
renumbered r hosts first second w room room_also = record {
  together = bool_ext (accepts hosts first) (accepts hosts second) (accepted_there r hosts first second w room_also) (accepted_back r hosts first second w room);
  agree = λ h. agree_left r hosts first second w h (accepted_there r hosts first second w room_also h);
}

-- and so do any words that begin with the linked tables of the two modules
pub agree_fronts : (r first second : List ℕ) (w : Renumbered r first second) (hs : List HostFn) →
    faults_of hs w.source ≡ [] → faults_of hs (renumber r w.source) ≡ [] → (rest rest_also : List ℕ) →
    Agree r w.source (table_of hs w.source ++ rest) (table_of hs (renumber r w.source) ++ rest_also)
agree_fronts r first second w hs faultless faultless_also rest rest_also =
    let m = w.source in
    agree_of r m (listed (length m.types) r w.renumbering) (decoded first m w.decodes)
    (table_of hs m ++ rest) (table_of hs (renumber r m) ++ rest_also)
    (family_front hs m faultless (types_few first m w.decodes) rest)
    (family_front hs (renumber r m) faultless_also (types_few second (renumber r m) w.decodes_also) rest_also)
    (holds_front hs m rest) (holds_front hs (renumber r m) rest_also)
