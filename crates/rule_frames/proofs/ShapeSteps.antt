-- The lengths of call shapes, shape by shape.
use Prim.Native.Nat.{ℕ, ◌+◌, ◌*◌, ◌≤◌, ◌<◌}
use mathlib.Core.Path.{◌≡◌, refl, sym, ap, ◌∙◌}
use mathlib.Core.List.{List, []}
use native.Mathlib.Omega.{arith}
use native.Mathlib.Numerals.{add-one}
use lib.ListN.{length, get_or, set}
use Rattle.lists.specs.ListLaws.{length_concat_map}
use Rattle.blocks.specs.Blocks.{words}
use Rattle.blocks.specs.Frame.{first_words}
use Rattle.reader.specs.Reader.{Got, got, and_then, Reader, word, many, list_of}
use Rattle.reader.specs.ReaderLaws.{stands_in, then_inv, word_codes}
use Rattle.reader.proofs.SizeLaws.{list_count}
use Rattle.sheet.specs.Decode.{arg_of}
use Rattle.sheet.specs.Encode.{encode_arg}
use Rattle.sheet.proofs.FuncCodes.{args_codes, shapes_codes}
use Rattle.open_layout.specs.Layout.{pos_of}
use Rattle.open_index.specs.Index.{edges}
use Rattle.open_index.specs.IndexLaws.{placed, edges_got, indexed, list_fit}
use Rattle.region.specs.Region.{Off, word_at}
use Rattle.region.specs.Region as region
use Rattle.region.specs.RegionLaws.{frame_refl, fill_more}
use Rattle.open_sheet.specs.declared.Opened.{Opened}
use Rattle.open_sheet.specs.Ready.{Ready}
use Rattle.rule_frames.specs.declared.Frame.{Frame}
use Rattle.rule_frames.specs.Frames.{func_of, Framed, Shaped}

-- the first member of a list stands after its count
list_starts : {A : Type 0} (f : Reader A) (ws : List ℕ) (at : ℕ) (xs : List A) (q : ℕ) → list_of f ws at ≡ got xs q → get_or (edges (list_of (pos_of f) ws at)) 0 0 ≡ at + 1
unfolding list_of
list_starts f ws at xs q e =
    then_inv (word ws at) _ e λ n p₁ e₁ e₂.
    let x = placed f ws n p₁ xs q e₂ in
    let g : list_of (pos_of f) ws at ≡ got x.positions q = ap (λ (y : Got ℕ). and_then y (λ k p. many k (pos_of f) ws p)) e₁ ∙ x.reads in
    rw (edges_got g) (omega (arith, x.begins, ((word_codes ws).found at n p₁ e₁).stands.end))

-- where shape k stands
unfoldable pub shape_at : List ℕ → Frame → ℕ → ℕ
shape_at ws c k = get_or (edges (list_of (pos_of (list_of arg_of)) ws c.body.shapes)) k 0

-- the places that are written
abbrev pub Else : Opened → Frame → ℕ → Type 0
Else o c = Off (7 * o.layout.words) (7 * o.layout.words + c.shapes)

-- those before shape k are written, and k stands at p
pub record Measured (ws w₀ w : List ℕ) (o : Opened) (c : Frame) (p k : ℕ) : Type 0 where
  pub frame : region.Frame (Else o c) w₀ w
  pub done : (i : ℕ) → i < k → word_at w (7 * o.layout.words) i ≡ length (get_or (func_of ws c).shapes i [])
  pub next : p ≡ shape_at ws c k

module _ (b w₀ : List ℕ) (o : Opened) (x : Ready (first_words b o.layout.words) w₀ o) (c : Frame) (y : Framed (first_words b o.layout.words) c) where
  abbrev ws : List ℕ
  ws = first_words b o.layout.words

  in_words : c.body.captures ≤ o.layout.words
  in_words = omega (arith, x.opens.located.words, stands_in ws ((shapes_codes ws).found c.body.shapes (func_of ws c).shapes c.body.captures y.placed.shapes).stands)

  pub shapes_room : c.body.shapes + 1 + c.shapes ≤ o.layout.words
  shapes_room =
      omega (
        arith,
        in_words,
        y.shapes,
        list_fit (list_of arg_of) ws c.body.shapes (func_of ws c).shapes c.body.captures _ _ (args_codes ws) (λ a. omega arith) y.placed.shapes,
      )

  pub measured_start : Measured ws w₀ w₀ o c (c.body.shapes + 1) 0
  unfolding shape_at
  measured_start = record {
    frame = frame_refl (Else o c) w₀;
    done = λ i h. absurd (omega arith);
    next = sym (list_starts (list_of arg_of) ws c.body.shapes (func_of ws c).shapes c.body.captures y.placed.shapes);
  }

  module _ (w : List ℕ) (p k : ℕ) (s : Measured ws w₀ w o c p k) where
    pub measured_length : length w ≡ length w₀
    measured_length = s.frame.len

    pub measured_end : c.shapes ≤ k → Shaped ws w o c
    measured_end h = record { lengths = λ i l. s.done i (omega (arith, y.shapes)) }

    module _ (h : k < c.shapes) where
      pub measured_place : 7 * o.layout.words + k < length w
      measured_place = omega (arith, shapes_room, x.room, s.frame.len)

      shape : list_of arg_of ws p ≡ got (get_or (func_of ws c).shapes k []) (shape_at ws c (k + 1))
      unfolding shape_at
      shape =
          let z : k < length (func_of ws c).shapes = omega (arith, y.shapes) in
          ap (list_of arg_of ws) s.next
          ∙ (indexed (list_of arg_of) ws c.body.shapes (func_of ws c).shapes c.body.captures y.placed.shapes).member k [] z
          ∙ ap (λ i. got (get_or (func_of ws c).shapes k []) (get_or (edges (list_of (pos_of (list_of arg_of)) ws c.body.shapes)) i 0)) (sym (add-one k))

      module _ {n : ℕ} (e : n ≡ get_or (words b) p 0) where
        count : n ≡ length (get_or (func_of ws c).shapes k [])
        count = list_count arg_of b o.layout.words p (get_or (func_of ws c).shapes k []) (shape_at ws c (k + 1)) shape e

        ends : shape_at ws c (k + 1) ≡ p + 1 + 2 * n
        unfolding encode_arg
        ends =
            omega (
              arith,
              count,
              ((args_codes ws).found p (get_or (func_of ws c).shapes k []) (shape_at ws c (k + 1)) shape).stands.end,
              length_concat_map encode_arg 2 (λ a. refl) (get_or (func_of ws c).shapes k []),
            )

        pub measured_within : p + 1 + 2 * n ≤ o.layout.words
        measured_within =
            omega (
              arith,
              ends,
              x.opens.located.words,
              stands_in ws ((args_codes ws).found p (get_or (func_of ws c).shapes k []) (shape_at ws c (k + 1)) shape).stands,
            )

        pub measured_next : Measured ws w₀ (set w (7 * o.layout.words + k) n) o c (p + 1 + 2 * n) (k + 1)
        measured_next =
            let t = fill_more (λ i. length (get_or (func_of ws c).shapes i [])) w₀ w (set w (7 * o.layout.words + k) n) (7 * o.layout.words) c.shapes k
            (omega (arith, shapes_room, x.room)) h s.frame s.done (ap (set w (7 * o.layout.words + k)) count) in
            record { frame = t.0; done = t.1; next = sym ends }
