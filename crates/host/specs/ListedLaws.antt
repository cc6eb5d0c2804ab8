-- Kind 23: the host list is broken exactly where nothing is decoded; what a caller of lookup has, where it is intact.
use Rattle.std.specs.Prelude.{ℕ, ◌↔◌, List, [], length}
use Rattle.std.proofs.Math.Path.{◌≡◌, refl}
use Rattle.std.proofs.Common.{sym, ap, ap₂, ◌∙◌, arith}
use Rattle.std.specs.Prelude.{Option, None, Some}
use Rattle.blocks.specs.Blocks.{words, length_word, framed}
use Rattle.blocks.specs.Frame.{first_words}
use Rattle.blocks.proofs.FirstWords.{framed_length, first_words_framed}
use Rattle.reader.specs.Reader.{got, list_of, content}
use Rattle.reader.proofs.ReadLaws.{content_inv}
use Rattle.reader.specs.Value.{Whole}
use Rattle.reader.specs.ValueLaws.{got_whole, value_got}
use Rattle.host.specs.Host.{HostFn, host_fn, if_distinct, host_edition, decode_hosts}
use Rattle.host.specs.HostLaws.{distinct_inv}
use Rattle.host.specs.Listed.{listed_for, listed_of, hosts_in}
use Rattle.host.specs.Seek.{listed_in}

-- THE HOST LIST IS BROKEN EXACTLY WHERE NOTHING IS DECODED
pub listed_broken : (bytes : List ℕ) → (listed_of bytes ≡ None) ↔ (decode_hosts bytes ≡ None)
unfolding listed_of listed_for
listed_broken bytes = go (length_word (words bytes)) (decode_hosts bytes)
  where
    go : (n : ℕ) (o : Option (List HostFn)) → (listed_for n o ≡ None) ↔ (o ≡ None)
    go n None = unfold listed_for in (λ e. refl, λ e. refl)
    go n (Some hs) = unfold listed_for in (
      λ e. let z : ◌≡◌ {A = ℕ} 0 1 = cc in absurd
          (omega arith),
      λ e. let z : ◌≡◌ {A = ℕ} 0 1 = cc in absurd (omega arith),
    )

-- of a frame it is what its words hold
pub listed_framed : (bytes ws : List ℕ) → framed host_edition bytes ≡ Some ws → listed_of bytes ≡ listed_in (length ws) ws
unfolding listed_of listed_in decode_hosts content
listed_framed bytes ws e =
    ap₂ (λ n o. listed_for n (if_distinct (content (list_of host_fn) o))) (sym (framed_length host_edition bytes ws e).0) e

-- ── what a caller has, once the list is intact ──

intact_inv : {C : Type 0} (n m : ℕ) (o : Option (List HostFn)) → listed_for m o ≡ Some n →
    ((hs : List HostFn) → o ≡ Some hs → m ≡ n → C) → C
unfolding listed_for
intact_inv n m None e f = let z : ◌≡◌ {A = ℕ} 0 1 = cc in absurd (omega arith)
intact_inv n m (Some hs) e f = f hs refl (cc)

-- the list of n words is whole, and is what was decoded
pub record IntactHosts (bytes : List ℕ) (n : ℕ) (hs : List HostFn) : Type 0 where
  pub decoded : decode_hosts bytes ≡ Some hs
  pub length_is : length_word (words bytes) ≡ n
  pub read : list_of host_fn (first_words bytes n) 2 ≡ got hs n

pub intact : {C : Type 0} (bytes : List ℕ) (n : ℕ) → listed_of bytes ≡ Some n → ((hs : List HostFn) → IntactHosts bytes n hs → C) → C
unfolding listed_of decode_hosts
intact bytes n e f =
    intact_inv n (length_word (words bytes)) (decode_hosts bytes) e λ hs g l.
    distinct_inv (content (list_of host_fn) (framed host_edition bytes)) hs g λ c d.
    content_inv (list_of host_fn) (framed host_edition bytes) hs c λ ws k r.
    let z : length ws ≡ n = (framed_length host_edition bytes ws k).0 ∙ l in
    f hs
    (record {
      decoded = g;
      length_is = l;
      read = ap (λ m. list_of host_fn (first_words bytes m) 2) (sym z)
          ∙ ap (λ w. list_of host_fn w 2) (first_words_framed host_edition bytes ws k) ∙ r ∙ ap (got hs) z;
    })

module _ (bytes : List ℕ) (n : ℕ) {r : Option ℕ} (e : r ≡ Some n) (f : r ≡ listed_of bytes) where
  pub hosts_ready : Whole (list_of host_fn (first_words bytes n) 2)
  hosts_ready = intact bytes n (sym f ∙ e) λ hs i. got_whole i.read

  pub hosts_are : decode_hosts bytes ≡ Some (hosts_in (first_words bytes n))
  hosts_are = intact bytes n (sym f ∙ e) λ hs i. i.decoded ∙ ap Some (sym (value_got [] i.read))
