-- Types by number, one record after the other.
use Prim.Native.Nat.{ℕ, ◌+◌, ◌*◌, ◌≤◌, ◌<◌}
use mathlib.Core.Path.{◌≡◌, ap, ap₂, ◌∙◌}
use mathlib.Core.List.{List, [], ◌∷◌, ◌++◌}
use native.Mathlib.Omega.{arith}
use lib.ListN.{length, get_or}
use Rattle.lists.specs.Lists.{concat_map}
use Rattle.blocks.specs.Blocks.{words}
use Rattle.blocks.specs.Frame.{first_words}
use Rattle.error.specs.Answer.{in_module}
use Rattle.law_faults.specs.Empty.{map_empty, every}
use Rattle.reader.specs.Reader.{encode_list}
use Rattle.reader.specs.Value.{value_of}
use Rattle.sheet.specs.Module.{coroutine, type_at}
use Rattle.sheet.specs.Decode.{type_def}
use Rattle.types.specs.Types.{type_faults, types_faults}
use Rattle.open_layout.specs.Opened.{module_in}
use Rattle.region.specs.Region.{Frame}
use Rattle.region.specs.RegionLaws.{frame_refl}
use Rattle.open_sheet.specs.declared.Opened.{Opened}
use Rattle.open_sheet.specs.Ready.{Ready, pos_at}
use Rattle.open_sheet.specs.ReadyLaws.{count_types, types_in, entry_whole, type_value}
use Rattle.table.specs.Records.{type_body, type_record}
use Rattle.writing.specs.Writing.{words_of, Writes}
use Rattle.writing.specs.WritingLaws.{words_are, written_length, writes_start, writes_next, writes_end, writes_place, writes_length, writes_room}
use Rattle.table_structs.specs.StructParts.{Sound}
use Rattle.table_types.specs.TypeParts.{body_at}
use Rattle.table_structs.proofs.Joins.{Put, front_room, put_is, put_room, put_then, frame_both, ready_still}
use Rattle.table_types.proofs.KindSteps.{type_kind}

-- ── type t ──

module _ (ws w : List ℕ) (o : Opened) (x : Ready ws w o) (t : ℕ) (h : t < o.counts.types) where
  module _ {q : ℕ} (e : q ≡ pos_at w o.index.types t) where
    pub type_sound : types_faults (module_in ws) ≡ [] → Sound type_def coroutine type_faults ws q
    unfolding types_faults type_at
    type_sound f = record {
      whole = rw e (entry_whole type_def ws (module_in ws).types w o.index.types x.types coroutine t (types_in ws w o x t h));
      holds =
          ap (type_faults (module_in ws)) (type_value ws w o x t h e)
          ∙ (every coroutine (type_faults (module_in ws)) (module_in ws).types).0
          ((map_empty in_module (concat_map (type_faults (module_in ws)) (module_in ws).types)).0 f) t (types_in ws w o x t h);
    }

module _ (b w : List ℕ) (o : Opened) (x : Ready (first_words b o.layout.words) w o) (t : ℕ) (h : t < o.counts.types) {q : ℕ} (e : q ≡ pos_at w o.index.types t)
    (f : types_faults (module_in (first_words b o.layout.words)) ≡ []) {k : ℕ} (i : k ≡ get_or (words b) q 0) where
  abbrev ws : List ℕ
  ws = first_words b o.layout.words

  record_is : (k ∷ []) ++ body_at ws q ≡ type_record (module_in ws) (type_at (module_in ws).types t)
  unfolding body_at type_record
  record_is =
      ap (λ j. j ∷ type_body (module_in ws) (value_of coroutine (type_def ws q))) (type_kind b o.layout.words q (type_sound ws w o x t h e f) i)
      ∙ ap (type_record (module_in ws)) (type_value ws w o x t h e)

  module _ (u : List ℕ) (a : ℕ) (l : a + length (type_record (module_in ws) (type_at (module_in ws).types t)) ≤ length u) where
    record_room : a + length ((k ∷ []) ++ body_at ws q) ≤ length u
    record_room = omega (arith, ap length record_is)

    pub kind_room : a < length u
    kind_room = omega (arith, front_room (length u) a (k ∷ []) (body_at ws q) record_room)

    module _ (v : List ℕ) (p : ℕ) (y : Put u a (k ∷ []) v p) where
      pub body_room : p + length (body_at ws q) ≤ length v
      body_room = put_room u a (k ∷ []) v p y (body_at ws q) record_room

      pub type_put : (z : List ℕ) (r : ℕ) → Put v p (body_at ws q) z r → Put u a (type_record (module_in ws) (type_at (module_in ws).types t)) z r
      type_put z r g =
          put_is u a ((k ∷ []) ++ body_at ws q) z r (put_then u a (k ∷ []) v p y (body_at ws q) record_room z r g)
          (type_record (module_in ws) (type_at (module_in ws).types t)) record_is

-- ── all types ──

-- after the count the records of the first i types, and work is as it was but for free words
pub record Types (ws w : List ℕ) (o : Opened) (u : List ℕ) (s i : ℕ) (w' v : List ℕ) (p : ℕ) : Type 0 where
  pub most : i ≤ o.counts.types
  pub writes : Writes (type_record (module_in ws)) (module_in ws).types u s i v p
  pub frame : Frame (λ k. k < 6 * o.layout.words) w w'

pub types_start : (ws w : List ℕ) (o : Opened) (u : List ℕ) (s : ℕ) → Types ws w o u s 0 w u s
types_start ws w o u s = record {
  most = omega arith;
  writes = writes_start (type_record (module_in ws)) (module_in ws).types u s;
  frame = frame_refl (λ k. k < 6 * o.layout.words) w;
}

pub types_ready : (ws w : List ℕ) (o : Opened) → Ready ws w o → (u : List ℕ) (s i : ℕ) (w' v : List ℕ) (p : ℕ) → Types ws w o u s i w' v p → Ready ws w' o
types_ready ws w o x u s i w' v p y = ready_still ws w o x w' y.frame

module _ (ws w : List ℕ) (o : Opened) (x : Ready ws w o) (t : List ℕ) (a : ℕ) (h : a + length (encode_list (type_record (module_in ws)) (module_in ws).types) ≤ length t) where
  section_is : (o.counts.types ∷ []) ++ words_of (type_record (module_in ws)) (module_in ws).types ≡ encode_list (type_record (module_in ws)) (module_in ws).types
  section_is = ap₂ (λ k l. k ∷ l) (count_types ws o x.opens) (words_are (type_record (module_in ws)) (module_in ws).types)

  section_room : a + length ((o.counts.types ∷ []) ++ words_of (type_record (module_in ws)) (module_in ws).types) ≤ length t
  section_room = omega (arith, ap length section_is)

  pub count_room : a < length t
  count_room = omega (arith, front_room (length t) a (o.counts.types ∷ []) (words_of (type_record (module_in ws)) (module_in ws).types) section_room)

  module _ (u : List ℕ) (s : ℕ) (f : Put t a (o.counts.types ∷ []) u s) where
    types_room : s + length (words_of (type_record (module_in ws)) (module_in ws).types) ≤ length u
    types_room = put_room t a (o.counts.types ∷ []) u s f (words_of (type_record (module_in ws)) (module_in ws).types) section_room

    module _ (i : ℕ) (w' v : List ℕ) (p : ℕ) (y : Types ws w o u s i w' v p) where
      pub types_length : length v ≡ length t
      types_length =
          writes_length (type_record (module_in ws)) (module_in ws).types u s i v p y.writes types_room
          ∙ ap length f.done ∙ written_length t a (o.counts.types ∷ []) (omega (arith, count_room))

      module _ (l : i < o.counts.types) where
        pub next_room : p + length (type_record (module_in ws) (type_at (module_in ws).types i)) ≤ length v
        unfolding type_at
        next_room = writes_room (type_record (module_in ws)) (module_in ws).types u s i v p coroutine y.writes (types_in ws w o x i l) types_room

        pub types_next : (w'' v' : List ℕ) (p' : ℕ) → Put v p (type_record (module_in ws) (type_at (module_in ws).types i)) v' p'
            → Frame (λ k. k < 6 * o.layout.words) w' w'' → Types ws w o u s (i + 1) w'' v' p'
        unfolding type_at
        types_next w'' v' p' g k = record {
          most = omega arith;
          writes = writes_next (type_record (module_in ws)) (module_in ws).types u s i v p v' p' coroutine (omega (arith, types_room)) (types_in ws w o x i l) y.writes g.done g.next;
          frame = frame_both o.layout.words w w' w'' y.frame k;
        }

      pub types_put : o.counts.types ≤ i → Put t a (encode_list (type_record (module_in ws)) (module_in ws).types) v p
      types_put l =
          let z : i ≡ length (module_in ws).types = omega (arith, y.most, count_types ws o x.opens) in
          put_is t a ((o.counts.types ∷ []) ++ words_of (type_record (module_in ws)) (module_in ws).types) v p
          (put_then t a (o.counts.types ∷ []) u s f (words_of (type_record (module_in ws)) (module_in ws).types) section_room v p
          (record {
            done = writes_end (type_record (module_in ws)) (module_in ws).types u s i v p y.writes z;
            next = writes_place (type_record (module_in ws)) (module_in ws).types u s i v p y.writes z;
          }))
          (encode_list (type_record (module_in ws)) (module_in ws).types) section_is
