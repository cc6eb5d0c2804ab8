-- The words of handlers' ends, written handler by handler.
use Prim.Native.Nat.{ℕ, ◌+◌, ◌-◌, ◌*◌, ◌≤◌, ◌<◌, max}
use mathlib.Core.Path.{◌≡◌, refl, sym, ap, ap₂, ◌∙◌}
use mathlib.Core.List.{List, [], ◌∷◌, ◌++◌}
use mathlib.Core.Bool.{Bool, true, false, cond, ◌&&◌}
use native.Mathlib.Omega.{arith}
use Rattle.std.proofs.Common.{subst}
use native.Mathlib.Decide.{dec_lt}
use lib.Dec.{eqb, leb, ltb}
use lib.ListN.{length, get_or, set}
use lib.Seq.{get_or-set_other, get_or-set_same}
use borrow.Author.Tests.{ltb-true, leb-true, eq-eqb, ne_eqb}
use Rattle.lists.specs.Lists.{concat_map}
use Rattle.lists.specs.ListLaws.{and_first, and_second}
use Rattle.blocks.specs.Blocks.{words}
use Rattle.blocks.specs.Frame.{first_words}
use Rattle.blocks.proofs.FirstWords.{length_first_words}
use Rattle.error.specs.declared.LoadErrorKind.{LoadErrorKind}
use Rattle.error.specs.declared.LoadErrorKind.TheVariants.{InvalidHandler, CatchNotDyn}
use Rattle.error.specs.Answer.{unless}
use Rattle.reader.specs.Reader.{got, many}
use Rattle.reader.specs.Value.{Whole, value_of}
use Rattle.reader.specs.ValueLaws.{got_whole, value_got, list_whole, list_value, many_first}
use Rattle.reader.proofs.SizeLaws.{list_count, many_inside}
use Rattle.sheet.specs.Module.{Handler, Func}
use Rattle.sheet.specs.Decode.{handler_of}
use Rattle.code.specs.Code.{is_dyn_register, good_handler, handler_faults}
use Rattle.region.specs.Region.{Off, Frame, word_at}
use Rattle.region.specs.RegionLaws.{frame_refl, frame_then, frame_set}
use Rattle.open_sheet.specs.declared.Opened.{Opened}
use Rattle.open_sheet.specs.Ready.{Ready}
use Rattle.rule_frames.specs.declared.Frame as frames
use Rattle.rule_frames.specs.Frames.{func_of, Framed}
use Rattle.rule7_parts.specs.CodeParts.{no_handler, handlers_faults}
use Rattle.rule7_code.specs.Sweep.{end_at, mark_at, Marked}
use Rattle.rule7_parts.proofs.Sizes.{handler_takes}
use Rattle.rule7_parts.proofs.HandlerSteps.{handler_value}
use Rattle.rule7_parts.proofs.LastSteps.{code_inside}

-- ── a handler that was passed ──

no_faults_lem : (a : Bool) (k : LoadErrorKind) (xs : List LoadErrorKind) → (unless a k ++ xs) ≡ [] → a ≡ true
no_faults_lem true k xs e = refl
no_faults_lem false k xs e = let z : ◌≡◌ {A = ℕ} 0 1 = cc in absurd (omega arith)

pub none_left : {A : Type 0} (xs ys : List A) → (xs ++ ys) ≡ [] → ys ≡ []
none_left [] ys e = e
none_left (x ∷ xs) ys e = let z : ◌≡◌ {A = ℕ} 0 1 = cc in absurd (omega arith)

pub none_here : {A : Type 0} (xs ys : List A) → (xs ++ ys) ≡ [] → xs ≡ []
none_here [] ys e = refl
none_here (x ∷ xs) ys e = let z : ◌≡◌ {A = ℕ} 0 1 = cc in absurd (omega arith)

starts_below : (f : Func) (h : Handler) → handler_faults f h ≡ [] → h.start < length f.code
unfolding handler_faults good_handler
starts_below f h e =
    let a = ltb h.start h.end in
    let b = leb h.end (length f.code) in
    let c = ltb h.target (length f.code) in
    let d = ltb h.catch (length f.regs) in
    let g : (a && b && c && d) ≡ true = no_faults_lem (a && b && c && d) InvalidHandler (unless (is_dyn_register f h.catch) CatchNotDyn) e in
    let g₁ : (a && b && c) ≡ true = and_first (a && b && c) d g in
    let g₂ : (a && b) ≡ true = and_first (a && b) c g₁ in
    let l : h.start < h.end = ltb-true h.start h.end (and_first a b g₂) in
    let m : h.end ≤ length f.code = leb-true h.end (length f.code) (and_second a b g₂) in
    omega arith

-- ── one handler ──

pub mark_written : (b : List ℕ) (at : ℕ) (w : List ℕ) (base : ℕ) {s e new : ℕ} {v : List ℕ} → s ≡ get_or (words b) at 0 → e ≡ get_or (words b) (at + 1) 0 → new ≡ max (get_or w (base + s) 0) e →
    v ≡ set w (base + s) new → v ≡ mark_at b at w base
unfolding mark_at
mark_written b at w base {s} {e} {new} a c n k =
    k ∙ ap₂ (λ i x. set w (base + i) x) a (n ∙ ap₂ (λ i x. max (get_or w (base + i) 0) x) a c)

-- ── the loop ──

-- left handlers are ahead from p on: their ends and those in the words are all
pub record Marks (ws w₀ w : List ℕ) (o : Opened) (c : frames.Frame) (left p : ℕ) : Type 0 where
  pub whole : Whole (many left handler_of ws p)
  pub good : concat_map (handler_faults (func_of ws c)) (value_of [] (many left handler_of ws p)) ≡ []
  pub room : 6 * o.layout.words + c.code ≤ length w₀
  pub frame : Frame (Off (6 * o.layout.words) (6 * o.layout.words + c.code)) w₀ w
  pub ends : (s : ℕ) → s < c.code → max (get_or w (6 * o.layout.words + s) 0) (end_at s (value_of [] (many left handler_of ws p))) ≡ end_at s (func_of ws c).handlers

module _ (b w₀ : List ℕ) (o : Opened) (c : frames.Frame) (x : Framed (first_words b o.layout.words) c) where
  -- where the words end
  pub marks_room : Ready (first_words b o.layout.words) w₀ o → 6 * o.layout.words + c.code ≤ length w₀
  marks_room r = omega (arith, r.room, code_inside b o.layout.words c x)

  pub marks_start : {w : List ℕ} → Ready (first_words b o.layout.words) w₀ o → handlers_faults (func_of (first_words b o.layout.words) c) ≡ [] → Frame (Off (6 * o.layout.words) (6 * o.layout.words + c.code)) w₀ w →
      ((p : ℕ) → p < c.code → word_at w (6 * o.layout.words) p ≡ 0) → Marks (first_words b o.layout.words) w₀ w o c c.handlers (c.body.handlers + 1)
  unfolding handlers_faults
  marks_start {w} r g f z =
      let ws = first_words b o.layout.words in
      let hs = (func_of ws c).handlers in
      let e : c.handlers ≡ get_or (words b) c.body.handlers 0 =
      x.handlers ∙ sym (list_count handler_of b o.layout.words c.body.handlers hs c.body.tables x.placed.handlers refl) in
      let v : value_of [] (many c.handlers handler_of ws (c.body.handlers + 1)) ≡ hs =
      sym (list_value handler_of b o.layout.words c.body.handlers [] (got_whole x.placed.handlers) e) ∙ value_got [] x.placed.handlers in
      record {
        whole = list_whole handler_of b o.layout.words c.body.handlers (got_whole x.placed.handlers) e;
        good = ap (concat_map (handler_faults (func_of ws c))) v ∙ g;
        room = marks_room r;
        frame = f;
        ends = λ s h.
            let k : get_or w (6 * o.layout.words + s) 0 ≡ 0 = z s h in
            let u : end_at s (value_of [] (many c.handlers handler_of ws (c.body.handlers + 1))) ≡ end_at s hs = ap (end_at s) v in
            omega arith;
      }

module _ (b w₀ : List ℕ) (o : Opened) (c : frames.Frame) (w : List ℕ) (left p : ℕ) (y : Marks (first_words b o.layout.words) w₀ w o c left p) where
  pub marks_length : length w ≡ length w₀
  marks_length = y.frame.len

  pub marks_fit : 4 * left ≤ o.layout.words - p
  marks_fit = omega (arith, many_inside handler_of 4 handler_takes (first_words b o.layout.words) left p y.whole, length_first_words b o.layout.words)

  pub marks_end : left ≤ 0 → Marked (first_words b o.layout.words) w₀ w o c
  unfolding many value_of end_at
  marks_end h = record {
    frame = y.frame;
    ends = record {
      ends = λ s k.
          let z : left ≡ 0 = omega arith in
          let u : end_at s (value_of [] (many left handler_of (first_words b o.layout.words) p)) ≡ 0 = ap (λ m. end_at s (value_of [] (many m handler_of (first_words b o.layout.words) p))) z in
          omega (arith, y.ends s k, u);
    };
  }

  pub marks_under : 6 * o.layout.words + c.code ≤ length w
  marks_under = omega (arith, y.room, y.frame.len)

  module _ (x : Framed (first_words b o.layout.words) c) (h : 0 < left) {s e : ℕ} (hs : s ≡ get_or (words b) p 0) (he : e ≡ get_or (words b) (p + 1) 0) where
    ahead : {C : Type 0} → ((t r : ℕ) (ys : List Handler) (q : ℕ) → many (left - 1) handler_of (first_words b o.layout.words) (p + 4) ≡ got ys q
        → value_of [] (many left handler_of (first_words b o.layout.words) p) ≡ record { start = s; end = e; target = t; catch = r } ∷ ys → C) → C
    ahead f = many_first handler_of (first_words b o.layout.words) left p y.whole h λ a q ys r e₁ e₂ e₃.
        let z : q ≡ p + 4 = handler_takes.ends (first_words b o.layout.words) p a q e₁ in
        let v : a ≡ record { start = s; end = e; target = get_or (words b) (p + 2) 0; catch = get_or (words b) (p + 3) 0 } =
        sym (value_got no_handler e₁) ∙ handler_value b o.layout.words p (got_whole e₁) hs he refl refl in
        f (get_or (words b) (p + 2) 0) (get_or (words b) (p + 3) 0) ys r (ap (many (left - 1) handler_of (first_words b o.layout.words)) (sym z) ∙ e₂)
        (value_got [] e₃ ∙ ap (λ (u : Handler). u ∷ ys) v)

    pub marks_start_below : s < c.code
    marks_start_below = ahead λ t r ys q m v.
        let f = func_of (first_words b o.layout.words) c in
        let g : (handler_faults f (record { start = s; end = e; target = t; catch = r }) ++ concat_map (handler_faults f) ys) ≡ [] = sym (ap (concat_map (handler_faults f)) v) ∙ y.good in
        let k : s < length f.code = starts_below f (record { start = s; end = e; target = t; catch = r }) (none_here (handler_faults f (record { start = s; end = e; target = t; catch = r })) (concat_map (handler_faults f) ys) g) in
        omega (arith, x.code, k)

    marks_more : {new : ℕ} {v : List ℕ} → new ≡ max (get_or w (6 * o.layout.words + s) 0) e → v ≡ set w (6 * o.layout.words + s) new →
        Marks (first_words b o.layout.words) w₀ v o c (left - 1) (p + 4)
    unfolding end_at
    marks_more {new} {v} en ev = ahead λ t r ys q m u.
        let f = func_of (first_words b o.layout.words) c in
        let base = 6 * o.layout.words in
        let g : (handler_faults f (record { start = s; end = e; target = t; catch = r }) ++ concat_map (handler_faults f) ys) ≡ [] = sym (ap (concat_map (handler_faults f)) u) ∙ y.good in
        let ms : value_of [] (many (left - 1) handler_of (first_words b o.layout.words) (p + 4)) ≡ ys = value_got [] m in
        record {
          whole = got_whole m;
          good = ap (concat_map (handler_faults f)) ms ∙ none_left (handler_faults f (record { start = s; end = e; target = t; catch = r })) (concat_map (handler_faults f) ys) g;
          room = y.room;
          frame = rw ev (frame_then (Off base (base + c.code)) (Off base (base + c.code)) (Off base (base + c.code)) w₀ w (set w (base + s) new) (λ k z. z) (λ k z. z) y.frame
              (frame_set (Off base (base + c.code)) w (base + s) new (λ z. z (omega arith) (omega (arith, marks_start_below)))));
          ends = λ k l.
              let i : max (get_or v (base + k) 0) (end_at k ys) ≡ max (get_or w (base + k) 0) (max (cond (eqb s k) e 0) (end_at k ys)) = go k ys (dec_lt s k) (dec_lt k s) in
              let j : end_at k (value_of [] (many (left - 1) handler_of (first_words b o.layout.words) (p + 4))) ≡ end_at k ys = ap (end_at k) ms in
              ap (max (get_or v (base + k) 0)) j ∙ i ∙ sym (ap (λ a. max (get_or w (base + k) 0) (end_at k a)) u) ∙ y.ends k l;
        }
      where
        go : (k : ℕ) (ys : List Handler) → Dec (s < k) → Dec (k < s) →
            max (get_or v (6 * o.layout.words + k) 0) (end_at k ys) ≡ max (get_or w (6 * o.layout.words + k) 0) (max (cond (eqb s k) e 0) (end_at k ys))
        go k ys (yes l) d =
            let z : get_or v (6 * o.layout.words + k) 0 ≡ get_or w (6 * o.layout.words + k) 0 = ap (λ a. get_or a (6 * o.layout.words + k) 0) ev ∙ get_or-set_other w (6 * o.layout.words + s) (6 * o.layout.words + k) new 0 (omega arith) in
            let i : cond (eqb s k) e 0 ≡ 0 = ap (λ t. cond t e 0) (ne_eqb s k (omega arith)) in
            omega arith
        go k ys (no l) (yes d) =
            let z : get_or v (6 * o.layout.words + k) 0 ≡ get_or w (6 * o.layout.words + k) 0 = ap (λ a. get_or a (6 * o.layout.words + k) 0) ev ∙ get_or-set_other w (6 * o.layout.words + s) (6 * o.layout.words + k) new 0 (omega arith) in
            let i : cond (eqb s k) e 0 ≡ 0 = ap (λ t. cond t e 0) (ne_eqb s k (omega arith)) in
            omega arith
        go k ys (no l) (no d) =
            let q : s ≡ k = omega arith in
            let z : get_or v (6 * o.layout.words + k) 0 ≡ new =
            ap (λ a. get_or a (6 * o.layout.words + k) 0) ev ∙ ap (λ a. get_or (set w (6 * o.layout.words + s) new) (6 * o.layout.words + a) 0) (sym q) ∙ get_or-set_same w (6 * o.layout.words + s) new 0 (omega (arith, marks_under, marks_start_below)) in
            let old_is : get_or w (6 * o.layout.words + s) 0 ≡ get_or w (6 * o.layout.words + k) 0 = ap (λ a. get_or w (6 * o.layout.words + a) 0) q in
            let i : cond (eqb s k) e 0 ≡ e = ap (λ t. cond t e 0) (eq-eqb s k q) in
            omega (arith, z, en, old_is, i)

  -- one more, as code writes it
  module _ (x : Framed (first_words b o.layout.words) c) (h : 0 < left) where
    pub marks_inside : p + 1 < o.layout.words
    marks_inside = omega (arith, marks_fit)

    pub marks_below : get_or (words b) p 0 < c.code
    marks_below = marks_start_below x h refl refl

    pub marks_next : {v : List ℕ} → v ≡ mark_at b p w (6 * o.layout.words) → Marks (first_words b o.layout.words) w₀ v o c (left - 1) (p + 4)
    unfolding mark_at
    marks_next e = marks_more x h refl refl refl e

-- the words were zeroed before the loop
module _ (b w₀ w₁ : List ℕ) (o : Opened) (c : frames.Frame) (f : Frame (Off (6 * o.layout.words) (6 * o.layout.words + c.code)) w₀ w₁) where
  pub marks_begin : Framed (first_words b o.layout.words) c → Ready (first_words b o.layout.words) w₀ o → handlers_faults (func_of (first_words b o.layout.words) c) ≡ [] →
      ((p : ℕ) → p < c.code → word_at w₁ (6 * o.layout.words) p ≡ 0) → Marks (first_words b o.layout.words) w₁ w₁ o c c.handlers (c.body.handlers + 1)
  marks_begin x r g z =
      let y = marks_start b w₀ o c x {w = w₁} r g f z in
      record {
        whole = y.whole;
        good = y.good;
        room = omega (arith, y.room, f.len);
        frame = frame_refl (Off (6 * o.layout.words) (6 * o.layout.words + c.code)) w₁;
        ends = y.ends;
      }

  pub marks_done : (w : List ℕ) (left p : ℕ) → Marks (first_words b o.layout.words) w₁ w o c left p → left ≤ 0 → Marked (first_words b o.layout.words) w₀ w o c
  marks_done w left p y h =
      let z = marks_end b w₁ o c w left p y h in
      let P = Off (6 * o.layout.words) (6 * o.layout.words + c.code) in
      record { frame = frame_then P P P w₀ w₁ w (λ k t. t) (λ k t. t) f z.frame; ends = z.ends }

-- by number: i were passed
module _ (ws w₀ w : List ℕ) (o : Opened) (c : frames.Frame) where
  pub marks_first : Marks ws w₀ w o c c.handlers (c.body.handlers + 1) → Marks ws w₀ w o c (c.handlers - 0) (c.body.handlers + 1 + 4 * 0)
  marks_first y =
      let z : c.handlers ≡ c.handlers - 0 = omega arith in
      let q : c.body.handlers + 1 ≡ c.body.handlers + 1 + 4 * 0 = omega arith in
      subst (λ k. Marks ws w₀ w o c k (c.body.handlers + 1 + 4 * 0)) z (subst (Marks ws w₀ w o c c.handlers) q y)

  pub marks_step : (i : ℕ) → Marks ws w₀ w o c (c.handlers - i - 1) (c.body.handlers + 1 + 4 * i + 4) → Marks ws w₀ w o c (c.handlers - (i + 1)) (c.body.handlers + 1 + 4 * (i + 1))
  marks_step i y =
      let z : c.handlers - i - 1 ≡ c.handlers - (i + 1) = omega arith in
      let q : c.body.handlers + 1 + 4 * i + 4 ≡ c.body.handlers + 1 + 4 * (i + 1) = omega arith in
      subst (λ k. Marks ws w₀ w o c k (c.body.handlers + 1 + 4 * (i + 1))) z (subst (Marks ws w₀ w o c (c.handlers - i - 1)) q y)

pub ruleset marking = (marks_room, marks_start, marks_end, marks_under, marks_inside, marks_below, marks_next)
