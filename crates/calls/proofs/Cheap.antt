-- Cheap loaders do not answer and write as load does.
use Rattle.std.specs.Prelude.{◌≡◌, refl, List, [], ◌∷◌, ℕ, length, replicate}
use Rattle.std.proofs.Common.{sym, ap, ◌∙◌, arith}
use Rattle.error.specs.Answer.{numbers}
use Rattle.sheet.specs.Module.{no_module}
use Rattle.sheet.specs.Encode.{sheet_of}
use Rattle.host.specs.Host.{hosts_of}
use Rattle.descends.specs.Descends.{descends}
use Rattle.load.specs.Load.{load, table_after, work_after}
use Rattle.law_everything.specs.Everything.{everything}
use Rattle.calls.specs.Calls.{Lent, Loader, NoConstant, NoIdle}

-- an empty sheet and an empty host list
abbrev empty_sheet : List ℕ
empty_sheet = sheet_of no_module

abbrev slice : List ℕ
slice = replicate 160 7

-- no bytes are refused, the empty sheet is accepted
two_answers : (numbers (load [] [] 0 0) ≡ 1 ∷ 0 ∷ 0 ∷ 0 ∷ 0 ∷ 0 ∷ []) × (numbers (load empty_sheet (hosts_of []) 160 160) ≡ 0 ∷ 0 ∷ 49 ∷ 0 ∷ 0 ∷ 0 ∷ [])
unfolding everything
two_answers = (refl, refl)

-- the query answers 25 on the slice as lent, 0 as left
two_tables : (descends slice 0 0 ≡ 25) × (descends (table_after empty_sheet (hosts_of []) slice slice) 0 0 ≡ 0)
unfolding everything
two_tables = (refl, refl)

-- they are bytes and words
empty_lent : Lent [] [] [] []
empty_lent = record { sheet_holds = refl; hosts_hold = refl; table_holds = refl; work_holds = refl }

sheet_lent : Lent empty_sheet (hosts_of []) slice slice
unfolding everything
sheet_lent = record { sheet_holds = refl; hosts_hold = refl; table_holds = refl; work_holds = refl }

-- there is one: what the definitions say
pub the_loader : Loader
the_loader = record {
  answer = λ s h t w. load s h (length t) (length w);
  table = table_after;
  work = work_after;
  loads = λ s h t w b. record { answers = refl; leaves = refl; clears = refl };
}

pub no_constant : NoConstant
unfolding NoConstant
no_constant f r e =
    let a : numbers r ≡ 1 ∷ 0 ∷ 0 ∷ 0 ∷ 0 ∷ 0 ∷ [] =
    ap numbers (sym (e [] [] [] [] empty_lent) ∙ (f.loads [] [] [] [] empty_lent).answers) ∙ two_answers.0 in
    let b : numbers r ≡ 0 ∷ 0 ∷ 49 ∷ 0 ∷ 0 ∷ 0 ∷ [] =
    ap numbers (sym (e empty_sheet (hosts_of []) slice slice sheet_lent) ∙ (f.loads empty_sheet (hosts_of []) slice slice sheet_lent).answers)
    ∙ two_answers.1 in
    let z : ◌≡◌ {A = ℕ} 0 1 = cc in omega arith

pub no_idle : NoIdle
unfolding NoIdle
no_idle f e =
    let s : slice ≡ table_after empty_sheet (hosts_of []) slice slice =
    sym (e empty_sheet (hosts_of []) slice slice sheet_lent) ∙ (f.loads empty_sheet (hosts_of []) slice slice sheet_lent).leaves in
    let z : ◌≡◌ {A = ℕ} 25 0 = sym two_tables.0 ∙ ap (λ (ws : List ℕ). descends ws 0 0) s ∙ two_tables.1 in
    omega arith
