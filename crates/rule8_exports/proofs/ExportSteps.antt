-- The words of an export, by its place, and what code finds in them.
use Prim.Native.Nat.{ℕ, suc, ◌+◌, ◌*◌, ◌<◌}
use mathlib.Core.Path.{◌≡◌, refl, sym, ap, ◌∙◌}
use mathlib.Core.List.{List}
use native.Mathlib.Omega.{arith}
use lib.ListN.{length, get_or, take, length-take}
use borrow.Author.Tests.{ltb-true}
use Rattle.lists.specs.Lists.{concat_map}
use Rattle.lists.specs.ListLaws.{length_concat_map}
use Rattle.blocks.specs.Blocks.{words}
use Rattle.blocks.specs.Frame.{first_words}
use Rattle.error.specs.declared.What.TheVariants.{Functions, Globals, Types}
use Rattle.error.specs.Verdict.{Verdict}
use Rattle.error.specs.Answer.{in_range}
use Rattle.error.specs.Verdict.{verdict_of}
use Rattle.reader.specs.Reader.{got}
use Rattle.reader.proofs.ReadLaws.{listed_at}
use Rattle.reader.proofs.SizeLaws.{word_within, word_held, first_held, list_count}
use Rattle.sheet.specs.Module.{Export, Module}
use Rattle.sheet.specs.Decode.{export_of}
use Rattle.sheet.specs.Encode.{encode_export}
use Rattle.sheet.specs.Coded.{coded_export}
use Rattle.sheet.proofs.ModuleCodes.{export_codes}
use Rattle.hooks.specs.Hooks.{no_export, export_at, index_faults}
use Rattle.open_layout.specs.Opened.{module_in}
use Rattle.open_sheet.specs.declared.Opened.{Opened}
use Rattle.open_sheet.specs.Ready.{Opens}
use Rattle.open_sheet.specs.ReadyLaws.{count_types, count_funcs, count_globals}

three_words : (e : Export) → length (encode_export e) ≡ 3
unfolding encode_export
three_words e = refl

module _ (b : List ℕ) (o : Opened) (x : Opens (first_words b o.layout.words) o) where
  abbrev ws : List ℕ
  ws = first_words b o.layout.words

  abbrev m : Module
  m = module_in ws

  -- the count word
  pub exports_counted : {c : ℕ} → c ≡ get_or (words b) o.layout.exports 0 → c ≡ length m.exports
  exports_counted e = list_count export_of b o.layout.words o.layout.exports m.exports _ x.located.exports e

  module _ (i : ℕ) (h : i < length m.exports) where
    -- where the next one stands
    abbrev end : ℕ
    end = o.layout.exports + 1 + length (concat_map encode_export (take (suc i) m.exports))

    export_read : export_of ws (o.layout.exports + 1 + 3 * i) ≡ got (export_at m i) end
    unfolding export_at
    export_read =
        let before = take i m.exports in
        let t : length (concat_map encode_export before) ≡ 3 * i =
        omega (arith, length_concat_map encode_export 3 three_words before, length-take i m.exports) in
        ap (λ (k : ℕ). export_of ws (o.layout.exports + 1 + k)) (sym t)
        ∙ listed_at ws export_of encode_export coded_export (export_codes ws) o.layout.exports m.exports _
        x.located.exports i no_export h

    module _ {at : ℕ} (s : at ≡ o.layout.exports + 1 + 3 * i) where
      read : export_of ws at ≡ got (export_at m i) end
      read = ap (export_of ws) s ∙ export_read

      pub export_in : at + 2 < o.layout.words
      unfolding encode_export
      export_in = word_within export_of encode_export coded_export b o.layout.words (export_codes ws) at _ _ read 2 (omega arith)

      export_kind : (export_at m i).kind ≡ get_or (words b) at 0
      unfolding encode_export
      export_kind = sym (first_held export_of encode_export coded_export b o.layout.words (export_codes ws) at _ _ read (omega arith) refl)

      pub export_name : (export_at m i).name ≡ get_or (words b) (at + 1) 0
      unfolding encode_export
      export_name =
          let codes = export_codes ws in
          sym (word_held export_of encode_export coded_export b o.layout.words codes at _ _ read 1 (omega arith) refl)

      export_index : (export_at m i).index ≡ get_or (words b) (at + 2) 0
      unfolding encode_export
      export_index =
          let codes = export_codes ws in
          sym (word_held export_of encode_export coded_export b o.layout.words codes at _ _ read 2 (omega arith) refl)

      export_listed : (export_at m i).kind < 3
      unfolding coded_export
      export_listed = ltb-true (export_at m i).kind 3 ((export_codes ws).found at _ _ read).fine

      -- ── its index ──

      module _ {k j : ℕ} {r : Verdict} (e : k ≡ get_or (words b) at 0) (l : j ≡ get_or (words b) (at + 2) 0) where
        -- the faults of an export of kind c
        told : (c : ℕ) → k ≡ c → ((d : Export) → d.kind ≡ c → d.index ≡ j → r ≡ verdict_of (index_faults m d)) →
            r ≡ verdict_of (index_faults m (export_at m i))
        told c z f = f (export_at m i) (export_kind ∙ sym e ∙ z) (export_index ∙ sym l)

        pub index_func : k ≡ 0 → r ≡ verdict_of (in_range Functions o.counts.funcs j) → r ≡ verdict_of (index_faults m (export_at m i))
        unfolding index_faults
        index_func z u = told 0 z λ d y v. rw (y, v) (u ∙ ap (λ c. verdict_of (in_range Functions c j)) (count_funcs ws o x))

        pub index_global : k ≡ 1 → r ≡ verdict_of (in_range Globals o.counts.globals j) → r ≡ verdict_of (index_faults m (export_at m i))
        unfolding index_faults
        index_global z u = told 1 z λ d y v. rw (y, v) (u ∙ ap (λ c. verdict_of (in_range Globals c j)) (count_globals ws o x))

        pub index_type : (k ≡ 0 → ⊥) → (k ≡ 1 → ⊥) → r ≡ verdict_of (in_range Types o.counts.types j) →
            r ≡ verdict_of (index_faults m (export_at m i))
        unfolding index_faults
        index_type y z u =
            let t : k ≡ 2 = omega (arith, export_listed, export_kind) in
            told 2 t λ d y v. rw (y, v) (u ∙ ap (λ c. verdict_of (in_range Types c j)) (count_types ws o x))

    -- the place itself is inside
    pub export_place : o.layout.exports + 1 + 3 * i < o.layout.words
    export_place = omega (arith, export_in refl)

pub ruleset indexes = (index_func, index_global, index_type)
