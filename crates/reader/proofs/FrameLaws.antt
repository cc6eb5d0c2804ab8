-- What bytes hold, read through their frame: it is what was written, and what was written is read.
use Rattle.std.specs.Prelude.{ℕ, ◌+◌, ◌≤◌, ◌≡◌, List, Bool, true, ◌&&◌, eqb, leb}
use Rattle.std.proofs.Math.Path.{refl, sym, ap, ap₂}
use Rattle.std.proofs.Common.{◌∙◌}
use Rattle.std.specs.Prelude.{Some}
use Rattle.std.proofs.Math.ListN.{length}
use borrow.Author.Tests.{leb-true, le-leb, eqb-true, eq-eqb}
use Rattle.lists.specs.Lists.{all_of}
use Rattle.lists.specs.ListLaws.{both, and_first, and_second}
use Rattle.blocks.specs.Blocks.{most_blocks, words, edition_word, is_edition, length_word, framed, blocks_for, written, titled}
use Rattle.blocks.specs.ByteLaws.{is_byte, is_word}
use Rattle.blocks.proofs.FramedLaws.{framed_bytes}
use Rattle.blocks.proofs.WrittenLaws.{framed_written, length_word_written}
use Rattle.reader.specs.Reader.{Reader, content}
use Rattle.reader.specs.ReaderLaws.{Stands, Codes}
use Rattle.reader.proofs.ReadLaws.{content_inv, content_is, stands_rest, stands_all}

-- the edition is known, and the words fit the blocks of a frame
unfoldable pub framable : ℕ → ℕ → List ℕ → Bool
framable newest e body = is_edition newest e && all_of is_word (titled e body) && leb (blocks_for (length (titled e body))) most_blocks

-- the parts of that test
pub record Framable (newest e : ℕ) (body : List ℕ) : Type 0 where
  pub edition_known : is_edition newest e ≡ true
  pub are_words : all_of is_word (titled e body) ≡ true
  pub few : blocks_for (length (titled e body)) ≤ most_blocks

pub framable_parts : (newest e : ℕ) (body : List ℕ) → framable newest e body ≡ true → Framable newest e body
unfolding framable
framable_parts newest e body h =
    let a = is_edition newest e in
    let b = all_of is_word (titled e body) in
    let c = leb (blocks_for (length (titled e body))) most_blocks in
    let i = and_first (a && b) c h in
    record {
      edition_known = and_first a b i;
      are_words = and_second a b i;
      few = leb-true (blocks_for (length (titled e body))) most_blocks (and_second (a && b) c h);
    }

-- s is the frame of a, whose edition is its title
pub record Frames {A : Type 0} (newest : ℕ) (title : A → ℕ) (enc : A → List ℕ) (ok : A → Bool) (s : List ℕ) (a : A) : Type 0 where
  pub bytes_are : s ≡ written (titled (title a) (enc a))
  pub fine : ok a ≡ true
  pub fits : framable newest (title a) (enc a) ≡ true
  pub length_is : length_word (words s) ≡ length (titled (title a) (enc a))

module _ {A : Type 0} (newest : ℕ) (f : Reader A) (title : A → ℕ) (enc : A → List ℕ) (ok : A → Bool)
    (codes : (ws : List ℕ) → all_of is_word ws ≡ true → is_edition newest (edition_word ws) ≡ true →
    Codes ws f enc (λ a. eqb (edition_word ws) (title a) && ok a)) where
  pub content_frames : (s : List ℕ) (a : A) → all_of is_byte s ≡ true → content f (framed newest s) ≡ Some a → Frames newest title enc ok s a
  unfolding framable
  content_frames s a h e =
      content_inv f (framed newest s) a e λ ws e₁ e₂.
      let r = framed_bytes newest s ws h e₁ in
      let w = (codes ws r.are_words r.edition_known).found 2 a (length ws) e₂ in
      let k : edition_word ws ≡ title a =
      eqb-true (edition_word ws) (title a) (and_first (eqb (edition_word ws) (title a)) (ok a) w.fine) in
      let t : ws ≡ titled (title a) (enc a) = r.titled_as ∙ ap₂ titled k (stands_rest ws 2 (enc a) w.stands) in
      record {
        bytes_are = r.bytes_are ∙ ap written t;
        fine = and_second (eqb (edition_word ws) (title a)) (ok a) w.fine;
        fits = rw (← t) (both (both (ap (is_edition newest) (sym k)
            ∙ r.edition_known) r.are_words) (le-leb (blocks_for (length ws)) most_blocks r.few));
        length_is = sym r.length_is ∙ ap length t;
      }

  pub content_written : (a : A) → ok a ≡ true → framable newest (title a) (enc a) ≡ true →
      content f (framed newest (written (titled (title a) (enc a)))) ≡ Some a
  content_written a o h =
      let x = framable_parts newest (title a) (enc a) h in
      let ws = titled (title a) (enc a) in
      let t : edition_word ws ≡ title a = titled_edition (title a) (enc a) in
      rw (framed_written newest (title a) x.edition_known (enc a) x.are_words x.few)
      (content_is f ws a
      ((codes ws x.are_words (ap (is_edition newest) t ∙ x.edition_known)).reads 2 a (length ws)
      (record { stands = titled_stands (title a) (enc a); fine = both (eq-eqb (edition_word ws) (title a) t) o })))
    where
      titled_stands : (e : ℕ) (xs : List ℕ) → Stands (titled e xs) 2 xs (length (titled e xs))
      titled_stands e xs = unfold titled in stands_all e (length xs + 2) xs

      titled_edition : (e : ℕ) (xs : List ℕ) → edition_word (titled e xs) ≡ e
      titled_edition e xs = unfold titled edition_word in refl

-- N of what was written
pub framable_length : (newest e : ℕ) (body : List ℕ) → framable newest e body ≡ true →
    length_word (words (written (titled e body))) ≡ length (titled e body)
framable_length newest e body h = length_word_written e body (framable_parts newest e body h).are_words
