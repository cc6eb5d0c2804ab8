-- What code says of readers: where it stands after a value, and the rest of a string.
use Rattle.std.specs.Prelude.{ℕ, zero, suc, ◌/◌, ◌%◌, List, Bool, cond, ◌&&◌, eqb, take, drop}
use Rattle.lists.specs.Lists.{all_of, concat_map}
use Rattle.blocks.specs.Blocks.{bytes_of}
use Rattle.utf8.specs.Utf8.{Place, next, after, done}
use Rattle.std.specs.Prelude.{Option, option_and_then}
use Rattle.std.specs.Prelude.{Some, None}
use Rattle.reader.specs.Reader.{Got, broken, got, Reader, ◌>>=◌, pure, fail, word, many}
use Rattle.reader.specs.Text.{words_for}

unfoldable pub step_of : {A : Type 0} → Got A → Option ℕ
step_of broken = None
step_of (got a p) = Some p

-- where n members end, each as `past` says
unfoldable pub many_past : ℕ → (ℕ → Option ℕ) → ℕ → Option ℕ
many_past zero past p = Some p
many_past (suc n) past p = option_and_then (many_past n past) (past p)

-- where they end whose count was read
abbrev pub counted_past : (ℕ → Option ℕ) → Got ℕ → Option ℕ
counted_past past broken = None
counted_past past (got n p) = many_past n past p

-- where a list ends: a count, and as many members
unfoldable pub list_past : (ℕ → Option ℕ) → List ℕ → ℕ → Option ℕ
list_past past ws at = counted_past past (word ws at)

-- m bytes that go on from a place to the end of a character, and zeros after them
unfoldable pub good_rest : Place → ℕ → List ℕ → Bool
good_rest p m bytes = done (after p (take m bytes)) && all_of (eqb 0) (drop m bytes)

-- m more bytes of a string whose bytes so far leave off at a place
unfoldable pub text_rest : Place → ℕ → Reader (List ℕ)
text_rest p m = do
  ws ← many (words_for m) word
  let bytes = concat_map (bytes_of 4) ws
  cond (good_rest p m bytes) (pure (take m bytes)) fail

-- the low r octets of w end a character, and there are no others
unfoldable pub ends_text : Place → ℕ → ℕ → Bool
ends_text p zero w = done p && eqb w 0
ends_text p (suc r) w = ends_text (next p (w % 256)) r (w / 256)
