-- What the answer of the tests before any rule says of the module and its hosts.
use Rattle.std.specs.Prelude.{ℕ, ◌+◌, ◌*◌, ◌≤◌, Bool, true, cond, List, leb, length, Option, None, Some, Result, Err, Ok}
use Rattle.std.proofs.Math.Path.{◌≡◌, refl, ap, subst}
use Rattle.std.proofs.Common.{sym, ◌∙◌, arith, leb-true}
use Rattle.std.proofs.Math.Bool.{false}
use Rattle.lists.specs.ListLaws.{and_second}
use Rattle.blocks.specs.Blocks.{words, length_word, framed}
use Rattle.blocks.specs.Frame.{first_words}
use Rattle.blocks.proofs.FirstWords.{framed_length}
use Rattle.error.specs.declared.LoadErrorKind.{LoadErrorKind}
use Rattle.error.specs.declared.LoadErrorKind.TheVariants.{Decode, BadHostList, ShortSlice}
use Rattle.reader.specs.Reader.{got, list_of}
use Rattle.reader.specs.Value.{Whole}
use Rattle.reader.proofs.ReadLaws.{content_inv}
use Rattle.reader.specs.Step.{step_of}
use Rattle.reader.specs.StepLaws.{arrived}
use Rattle.sheet.specs.Module.{Module}
use Rattle.sheet.specs.Editions.{newest_edition}
use Rattle.sheet.specs.Decode.{module_of}
use Rattle.open_layout.specs.declared.Layout.{Layout}
use Rattle.open_layout.specs.Layout.{layout_of, layout}
use Rattle.open_layout.specs.LayoutLaws.{layout_module, layout_broken, located, Located}
use Rattle.open_layout.specs.Opened.{module_in}
use Rattle.open_index.specs.SheetIndex.{intact}
use Rattle.host.specs.Host.{HostFn, host_fn, decode_hosts}
use Rattle.host.specs.Listed.{listed_for, listed_of, hosts_in}
use Rattle.host.specs.ListedLaws.{hosts_ready, hosts_are}
use Rattle.load.specs.Load.{needed, fits, enough, long_enough, refused, opened, with_hosts, with_module, opening}
use Rattle.open_inputs.specs.Inputs as inputs

-- what is known of inputs that are not refused
pub record Admitted (sheet hosts : List ℕ) (table work : ℕ) (l : Layout) (n : ℕ) : Type 0 where
  pub opens : opening sheet hosts table work ≡ opened (module_in (first_words sheet l.words)) (hosts_in (first_words hosts n))
  pub located : Located (first_words sheet l.words) (module_in (first_words sheet l.words)) l
  pub few : l.words ≤ 520192
  pub stated : l.words ≡ length_word (words sheet)
  pub room : 64 + 8 * l.words ≤ work
  pub listed : Whole (list_of host_fn (first_words hosts n) 2)

-- the layout has as many words as the sheet states
words_stated : (b : List ℕ) (l : Layout) → layout b ≡ Some l → l.words ≡ length_word (words b)
unfolding layout
words_stated b l e =
    content_inv layout_of (framed newest_edition b) l e λ ws e₁ e₂.
    arrived (module_of ws 2) {r = Some (length ws)} refl (sym (ended ws e₂) ∙ layout_module ws 2) λ m g.
    omega (arith, (located ws m l g e₂).words, (framed_length newest_edition b ws e₁).0)
  where
    ended : (ws : List ℕ) → layout_of ws 2 ≡ got l (length ws) → step_of (layout_of ws 2) ≡ Some (length ws)
    ended ws e = unfold step_of in ap step_of e

enough_room : (k table work : ℕ) → enough k table work ≡ true → 64 + 8 * k ≤ work
unfolding enough fits needed
enough_room k table work e = leb-true (64 + 8 * k) work (and_second (leb (64 + 8 * k) table) (leb (64 + 8 * k) work) e)

module _ (sheet hosts : List ℕ) (table work : ℕ) where
  abbrev answer : Result (Layout × ℕ) LoadErrorKind
  answer = inputs.inputs_of (layout sheet) (listed_of hosts) table work

  -- a sheet without a layout
  unlaid : layout sheet ≡ None → opening sheet hosts table work ≡ refused Decode
  unfolding opening with_module
  unlaid e = ap (λ (m : Option Module). with_module (long_enough sheet table work) m (decode_hosts hosts)) ((layout_broken sheet).0 e)

  module _ (l : Layout) (e : layout sheet ≡ Some l) where
    laid : opening sheet hosts table work ≡ with_hosts (enough l.words table work) (module_in (first_words sheet l.words)) (decode_hosts hosts)
    unfolding opening with_module long_enough
    laid =
        ap (λ (m : Option Module). with_module (long_enough sheet table work) m (decode_hosts hosts)) (intact sheet l e).holds
        ∙ ap (λ k. with_hosts (enough k table work) (module_in (first_words sheet l.words)) (decode_hosts hosts)) (sym (words_stated sheet l e))

    -- no list of hosts
    unlisted : listed_of hosts ≡ None → opening sheet hosts table work ≡ refused BadHostList
    unfolding listed_of with_hosts
    unlisted k = laid ∙ go (decode_hosts hosts) k
      where
        go : (h : Option (List HostFn)) → listed_for (length_word (words hosts)) h ≡ None →
            with_hosts (enough l.words table work) (module_in (first_words sheet l.words)) h ≡ refused BadHostList
        go None k = refl
        go (Some hs) k = unfold listed_for in let z : ◌≡◌ {A = ℕ} 0 1 = cc in absurd (omega arith)

    module _ (n : ℕ) (k : listed_of hosts ≡ Some n) where
      listing : {b : Bool} → enough l.words table work ≡ b →
          opening sheet hosts table work ≡ cond b (opened (module_in (first_words sheet l.words)) (hosts_in (first_words hosts n))) (refused ShortSlice)
      unfolding with_hosts
      listing {b} c =
          laid
          ∙ ap (λ (x : Bool). with_hosts x (module_in (first_words sheet l.words)) (decode_hosts hosts)) c
          ∙ ap (with_hosts b (module_in (first_words sheet l.words))) (hosts_are hosts n {r = Some n} refl (sym k))

      admitted : enough l.words table work ≡ true → Admitted sheet hosts table work l n
      admitted c = record {
        opens = listing c;
        located = (intact sheet l e).located;
        few = (intact sheet l e).few;
        stated = words_stated sheet l e;
        room = enough_room l.words table work c;
        listed = hosts_ready hosts n {r = Some n} refl (sym k);
      }

  -- what each answer of the tests says
  unfoldable Says : Result (Layout × ℕ) LoadErrorKind → Type 0
  Says (Err k) = opening sheet hosts table work ≡ refused k
  Says (Ok (l, n)) = Admitted sheet hosts table work l n

  says : Says answer
  says = go (layout sheet) refl
    where
      third : (l : Layout) → layout sheet ≡ Some l → (n : ℕ) → listed_of hosts ≡ Some n → (b : Bool) → enough l.words table work ≡ b →
          Says (cond b (Ok (l, n)) (Err ShortSlice))
      third l e n k true c = unfold Says in admitted l e n k c
      third l e n k false c = unfold Says in listing l e n k c

      next : (l : Layout) → layout sheet ≡ Some l → (h : Option ℕ) → listed_of hosts ≡ h → Says (inputs.with_hosts l h table work)
      next l e None k = unfold inputs.with_hosts Says in unlisted l e k
      next l e (Some n) k = unfold inputs.with_hosts in third l e n k (enough l.words table work) refl

      go : (o : Option Layout) → layout sheet ≡ o → Says (inputs.inputs_of o (listed_of hosts) table work)
      go None e = unfold inputs.inputs_of Says in unlaid e
      go (Some l) e = unfold inputs.inputs_of in next l e (listed_of hosts) refl

  module _ {r : Result (Layout × ℕ) LoadErrorKind} (e : r ≡ inputs.inputs_of (layout sheet) (listed_of hosts) table work) where
    pub inputs_refused : (k : LoadErrorKind) → r ≡ Err k → opening sheet hosts table work ≡ refused k
    inputs_refused k h = go answer (sym e ∙ h) says
      where
        go : (x : Result (Layout × ℕ) LoadErrorKind) → x ≡ Err k → Says x → opening sheet hosts table work ≡ refused k
        go (Err j) q s = unfold Says in s ∙ ap refused (cc)
        go (Ok (l, n)) q s = let z : ◌≡◌ {A = ℕ} 0 1 = cc in absurd (omega arith)

    pub inputs_intact : (l : Layout) (n : ℕ) → r ≡ Ok (l, n) → Admitted sheet hosts table work l n
    inputs_intact l n h = go answer (sym e ∙ h) says
      where
        go : (x : Result (Layout × ℕ) LoadErrorKind) → x ≡ Ok (l, n) → Says x → Admitted sheet hosts table work l n
        go (Err j) q s = let z : ◌≡◌ {A = ℕ} 0 1 = cc in absurd (omega arith)
        go (Ok (k, i)) q s =
            let e : ◌≡◌ {A = Layout × ℕ} (k, i) (l, n) = cc in
            let a : k ≡ l = ap (λ (x : Layout × ℕ). x.0) e in
            let b : i ≡ n = ap (λ (x : Layout × ℕ). x.1) e in
            let t : Admitted sheet hosts table work k i = unfold Says in s in
            subst (λ (j : ℕ). Admitted sheet hosts table work l j) b (subst (λ (j : Layout). Admitted sheet hosts table work j i) a t)
