-- Each reader of a sheet with its encoder: imports, globals, functions.
use Prim.Native.Nat.{ℕ, zero, suc}
use Rattle.std.specs.Prelude.{◌≡◌, ◌&&◌, ltb, get_or}
use Rattle.std.proofs.Math.Path.{refl, ap}
use Rattle.std.proofs.Common.{◌∙◌}
use mathlib.Core.List.{List, [], ◌∷◌, append_assoc}
use Rattle.std.proofs.Math.Bool.{cond}
use Rattle.std.specs.Prelude.{None, Some}
use Rattle.lists.specs.Lists.{all_of}
use Rattle.lists.specs.ListLaws.{both, and_first, and_second}
use Rattle.reader.specs.Reader.{got, pure, fail, list_of, encode_list}
use Rattle.reader.specs.ReaderLaws.{Stands, join, Found, Codes, free, seq, next, landed, final, not_broken, chosen, word_codes, list_codes, free_codes, words_codes}
use Rattle.sheet.specs.Module.{ParamList, opcode}
use Rattle.sheet.specs.Decode.{opcodes, param_of, some_params, param_list, import_of, global_of, arg_of, handler_of, switch_of, known_code, inst_of, function_of}
use Rattle.sheet.specs.Encode.{encode_value, encode_param, encode_params, encode_import, encode_global, encode_arg, encode_handler, encode_switch, encode_inst, encode_func}
use Rattle.sheet.specs.Coded.{coded_value, coded_global, coded_inst, coded_func}
use Rattle.sheet.proofs.TypeCodes.{value_codes, values_codes}

module _ (ws : List ℕ) where
  -- ── imports and globals ──

  pub param_codes : Codes ws param_of encode_param free
  unfolding param_of encode_param
  param_codes =
      record {
        found = λ p a q e. seq ws (word_codes ws) p _ e λ f p₁ s₁ o₁ e. seq ws (word_codes ws) p₁ _ e λ n p₂ s₂ o₂ e. landed e (join ws s₁ s₂) refl;
        reads = λ p a q w. next ws (word_codes ws) a.flags _ _ refl w.stands λ p₁ s. final ws (word_codes ws) a.name+ _ refl s;
      }

  pub each_param_codes : Codes ws (list_of param_of) (encode_list encode_param) free
  each_param_codes = free_codes ws param_of encode_param param_codes

  params_found : (k p p₁ : ℕ) (a : ParamList) (q : ℕ) → Stands ws p (k ∷ []) p₁ → get_or (pure None ∷ some_params ∷ []) k fail ws p₁ ≡ got a q → Found ws encode_params free p a q
  unfolding some_params encode_params
  params_found zero p p₁ a q s e = landed e s refl
  params_found (suc zero) p p₁ a q s e = seq ws each_param_codes p₁ _ e λ xs p₂ s₁ o e. landed e (join ws s s₁) refl
  params_found (suc (suc k)) p p₁ a q s e = absurd (not_broken e)

  params_reads : (a : ParamList) (p q : ℕ) → Stands ws p (encode_params a) q → param_list ws p ≡ got a q
  unfolding param_list some_params encode_params
  params_reads None p q s = final ws (word_codes ws) 0 _ refl s
  params_reads (Some xs) p q s = next ws (word_codes ws) 1 _ _ refl s λ p₁ s. final ws each_param_codes xs _ refl s

  pub params_codes : Codes ws param_list encode_params free
  unfolding param_list
  params_codes =
      record {
        found = λ p a q e. seq ws (word_codes ws) p _ e λ k p₁ s o e. params_found k p p₁ a q s e;
        reads = λ p a q w. params_reads a p q w.stands;
      }

  pub import_codes : Codes ws import_of encode_import free
  unfolding import_of encode_import
  import_codes =
      record {
        found = λ p a q e.
            seq ws (word_codes ws) p _ e λ m p₁ s₁ o₁ e.
            seq ws (word_codes ws) p₁ _ e λ n p₂ s₂ o₂ e.
            seq ws (word_codes ws) p₂ _ e λ t p₃ s₃ o₃ e.
            seq ws params_codes p₃ _ e λ ps p₄ s₄ o₄ e.
            landed e (join ws s₁ (join ws s₂ (join ws s₃ s₄))) refl;
        reads = λ p a q w.
            next ws (word_codes ws) a.module_name _ _ refl w.stands λ p₁ s.
            next ws (word_codes ws) a.name _ _ refl s λ p₂ s.
            next ws (word_codes ws) a.sig _ _ refl s λ p₃ s.
            final ws params_codes a.params _ refl s;
      }

  pub global_codes : Codes ws global_of encode_global coded_global
  unfolding global_of encode_global encode_value coded_global
  global_codes =
      record {
        found = λ p a q e. seq ws (value_codes ws) p _ e λ t p₁ s₁ o₁ e. seq ws (word_codes ws) p₁ _ e λ k p₂ s₂ o₂ e. landed e (join ws s₁ s₂) o₁;
        reads = λ p a q w. next ws (value_codes ws) a.type _ _ w.fine w.stands λ p₁ s. final ws (word_codes ws) a.init+ _ refl s;
      }

  -- ── functions ──

  pub arg_codes : Codes ws arg_of encode_arg free
  unfolding arg_of encode_arg
  arg_codes =
      record {
        found = λ p a q e. seq ws (word_codes ws) p _ e λ k p₁ s₁ o₁ e. seq ws (word_codes ws) p₁ _ e λ n p₂ s₂ o₂ e. landed e (join ws s₁ s₂) refl;
        reads = λ p a q w. next ws (word_codes ws) a.kind _ _ refl w.stands λ p₁ s. final ws (word_codes ws) a.name _ refl s;
      }

  pub handler_codes : Codes ws handler_of encode_handler free
  unfolding handler_of encode_handler
  handler_codes =
      record {
        found = λ p a q e.
            seq ws (word_codes ws) p _ e λ s p₁ s₁ o₁ e.
            seq ws (word_codes ws) p₁ _ e λ n p₂ s₂ o₂ e.
            seq ws (word_codes ws) p₂ _ e λ t p₃ s₃ o₃ e.
            seq ws (word_codes ws) p₃ _ e λ c p₄ s₄ o₄ e.
            landed e (join ws s₁ (join ws s₂ (join ws s₃ s₄))) refl;
        reads = λ p a q w.
            next ws (word_codes ws) a.start _ _ refl w.stands λ p₁ s.
            next ws (word_codes ws) a.end _ _ refl s λ p₂ s.
            next ws (word_codes ws) a.target _ _ refl s λ p₃ s.
            final ws (word_codes ws) a.catch _ refl s;
      }

  pub switch_codes : Codes ws switch_of encode_switch free
  unfolding switch_of encode_switch
  switch_codes =
      record {
        found = λ p a q e. seq ws (words_codes ws) p _ e λ ts p₁ s₁ o₁ e. seq ws (word_codes ws) p₁ _ e λ d p₂ s₂ o₂ e. landed e (join ws s₁ s₂) refl;
        reads = λ p a q w. next ws (words_codes ws) a.targets _ _ refl w.stands λ p₁ s. final ws (word_codes ws) a.default _ refl s;
      }

  pub inst_codes : Codes ws inst_of encode_inst coded_inst
  unfolding inst_of known_code encode_inst coded_inst
  inst_codes =
      record {
        found = λ p a q e.
            seq ws (word_codes ws) p _ e λ l p₁ s₁ o₁ e. seq ws (word_codes ws) p₁ _ e λ h p₂ s₂ o₂ e.
            chosen ws (ltb (opcode (record { low = l; high = h })) opcodes) (pure (record { low = l; high = h })) p₂ e λ t e. landed e (join ws s₁ s₂) t;
        reads = λ p a q w.
            next ws (word_codes ws) a.low _ _ refl w.stands λ p₁ s.
            final ws (word_codes ws) a.high _ refl s ∙ ap (λ b. cond b (pure a) fail ws q) w.fine;
      }

  pub args_codes : Codes ws (list_of arg_of) (encode_list encode_arg) free
  args_codes = free_codes ws arg_of encode_arg arg_codes

  pub shapes_codes : Codes ws (list_of (list_of arg_of)) (encode_list (encode_list encode_arg)) free
  shapes_codes = free_codes ws (list_of arg_of) (encode_list encode_arg) args_codes

  pub handlers_codes : Codes ws (list_of handler_of) (encode_list encode_handler) free
  handlers_codes = free_codes ws handler_of encode_handler handler_codes

  pub switches_codes : Codes ws (list_of switch_of) (encode_list encode_switch) free
  switches_codes = free_codes ws switch_of encode_switch switch_codes

  pub insts_codes : Codes ws (list_of inst_of) (encode_list encode_inst) (all_of coded_inst)
  insts_codes = list_codes ws inst_of encode_inst coded_inst inst_codes

  pub function_codes : Codes ws function_of encode_func coded_func
  unfolding function_of encode_func coded_func
  function_codes =
      record {
        found = λ p a q e.
            seq ws (word_codes ws) p _ e λ t p₁ s₁ o₁ e.
            seq ws (values_codes ws) p₁ _ e λ rs p₂ s₂ o₂ e.
            seq ws params_codes p₂ _ e λ ps p₃ s₃ o₃ e.
            seq ws shapes_codes p₃ _ e λ ss p₄ s₄ o₄ e.
            seq ws (values_codes ws) p₄ _ e λ cs p₅ s₅ o₅ e.
            seq ws (words_codes ws) p₅ _ e λ ns p₆ s₆ o₆ e.
            seq ws (words_codes ws) p₆ _ e λ ts p₇ s₇ o₇ e.
            seq ws handlers_codes p₇ _ e λ hs p₈ s₈ o₈ e.
            seq ws switches_codes p₈ _ e λ ks p₉ s₉ o₉ e.
            seq ws insts_codes p₉ _ e λ is p₁₀ s₁₀ o₁₀ e.
            landed e
            (join ws s₁ (join ws (join ws (join ws (join ws (join ws (join ws (join ws (join ws s₂ s₃) s₄) s₅) s₆) s₇) s₈) s₉) s₁₀))
            (both (both o₂ o₅) o₁₀);
        reads = λ p a q w.
            let regs = all_of coded_value a.regs in
            let captures = all_of coded_value a.captures in
            let code = all_of coded_inst a.code in
            let o = and_first (regs && captures) code w.fine in
            next ws (word_codes ws) a.sig _ _ refl (simp append_assoc at w.stands) λ p₁ s.
            next ws (values_codes ws) a.regs _ _ (and_first regs captures o) s λ p₂ s.
            next ws params_codes a.params _ _ refl s λ p₃ s.
            next ws shapes_codes a.shapes _ _ refl s λ p₄ s.
            next ws (values_codes ws) a.captures _ _ (and_second regs captures o) s λ p₅ s.
            next ws (words_codes ws) a.names _ _ refl s λ p₆ s.
            next ws (words_codes ws) a.type_refs _ _ refl s λ p₇ s.
            next ws handlers_codes a.handlers _ _ refl s λ p₈ s.
            next ws switches_codes a.tables _ _ refl s λ p₉ s.
            final ws insts_codes a.code _ (and_second (regs && captures) code w.fine) s;
      }
