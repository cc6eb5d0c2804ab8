-- Module and name as words: the order of entries is first that of their pairs.
use Rattle.std.specs.Prelude.{ℕ, suc, ◌≡◌, refl, List, [], ◌∷◌, ◌++◌, true, length}
use Rattle.std.proofs.Math.Path.{sym, ap, ap₂}
use Rattle.std.proofs.Common.{◌∙◌, append_assoc, arith}
use Rattle.std.proofs.lemmas.List.{length-map}
use Rattle.lists.specs.Lists.{same, pieces}
use Rattle.lists.specs.ListLaws.{both, and_first, and_second, length_pieces, same_eq, same_self}
use Rattle.blocks.specs.Blocks.{number}
use Rattle.utf8.specs.Utf8.{well_formed}
use Rattle.reader.specs.Text.{words_for, encode_string}
use Rattle.reader.specs.TextLaws.{utf8_bytes, string_injective}
use Rattle.std.specs.Ordering.{ordering_then}
use Rattle.std.specs.declared.cmp.Ordering.{Ordering}
use Rattle.std.specs.declared.cmp.Ordering.TheVariants.{Less, Equal, Greater}
use Rattle.sorting.specs.Order.{lex}
use Rattle.sorting.specs.Lex.{Three, lt, gt, eq, three, less, greater, equal, reverse, lex_reverse, lex_refl, lex_same, lex_trans}
use Rattle.host.specs.Host.{HostFn, named, encode_host}

-- the words of a module and a name
unfoldable pub pair_words : List ℕ → List ℕ → List ℕ
pair_words m n = encode_string m ++ encode_string n

-- how a module and a name compare with an entry's
unfoldable pub pair_order : List ℕ → List ℕ → HostFn → Ordering
pair_order m n h = lex (pair_words m n) (pair_words h.module_name h.name)

-- an entry's pair
abbrev pub pair_of : HostFn → List ℕ
pair_of h = pair_words h.module_name h.name

-- ── fronts ──

then_assoc : (a b c : Ordering) → ordering_then (ordering_then a b) c ≡ ordering_then a (ordering_then b c)
then_assoc Less b c = refl
then_assoc Equal b c = refl
then_assoc Greater b c = refl

-- fronts of one length
lex_front : (a b x y : List ℕ) → length a ≡ length b → lex (a ++ x) (b ++ y) ≡ ordering_then (lex a b) (lex x y)
lex_front [] [] x y e = refl
lex_front [] (v ∷ b) x y e = absurd (omega arith)
lex_front (u ∷ a) [] x y e = absurd (omega arith)
lex_front (u ∷ a) (v ∷ b) x y e = go (three u v) (lex_front a b x y (omega arith))
  where
    go : Three u v → lex (a ++ x) (b ++ y) ≡ ordering_then (lex a b) (lex x y) →
        lex (u ∷ a ++ x) (v ∷ b ++ y) ≡ ordering_then (lex (u ∷ a) (v ∷ b)) (lex x y)
    go (lt h) i = less u v (lex (a ++ x) (b ++ y)) h ∙ ap (λ c. ordering_then c (lex x y)) (sym (less u v (lex a b) h))
    go (gt h) i = greater u v (lex (a ++ x) (b ++ y)) h ∙ ap (λ c. ordering_then c (lex x y)) (sym (greater u v (lex a b) h))
    go (eq h) i =
        equal u v (lex (a ++ x) (b ++ y)) (omega arith) (omega arith) ∙ i
        ∙ ap (λ c. ordering_then c (lex x y)) (sym (equal u v (lex a b) (omega arith) (omega arith)))

-- the length, and a word for each four bytes
pub words_count : (s : List ℕ) → length (encode_string s) ≡ suc (words_for (length s))
unfolding encode_string
words_count s = ap suc (length-map (pieces 4 (words_for (length s)) s) number ∙ length_pieces 4 (words_for (length s)) s)

string_length : (a b : List ℕ) → length a ≡ length b → length (encode_string a) ≡ length (encode_string b)
string_length a b e = words_count a ∙ ap (λ n. suc (words_for n)) e ∙ sym (words_count b)

-- a string's length is its first word, so no string is the beginning of another
pub string_front : (a b x y : List ℕ) → lex (encode_string a ++ x) (encode_string b ++ y) ≡ ordering_then
    (lex (encode_string a) (encode_string b)) (lex x y)
string_front a b x y = go (three (length a) (length b))
  where
    go : Three (length a) (length b) → lex (encode_string a ++ x) (encode_string b ++ y) ≡ ordering_then
        (lex (encode_string a) (encode_string b)) (lex x y)
    go (lt h) = unfold encode_string in less (length a) (length b) _ h
        ∙ ap (λ c. ordering_then c (lex x y)) (sym (less (length a) (length b) _ h))
    go (gt h) = unfold encode_string in greater (length a) (length b) _ h
        ∙ ap (λ c. ordering_then c (lex x y)) (sym (greater (length a) (length b) _ h))
    go (eq h) = lex_front (encode_string a) (encode_string b) x y (string_length a b h)

pair_parts : (m n m₂ n₂ : List ℕ) → lex (pair_words m n) (pair_words m₂ n₂) ≡ ordering_then (lex (encode_string m) (encode_string m₂))
    (lex (encode_string n) (encode_string n₂))
unfolding pair_words
pair_parts m n m₂ n₂ = string_front m m₂ (encode_string n) (encode_string n₂)

pair_front : (m n m₂ n₂ x y : List ℕ) → lex (pair_words m n ++ x) (pair_words m₂ n₂ ++ y) ≡ ordering_then
    (lex (pair_words m n) (pair_words m₂ n₂)) (lex x y)
pair_front m n m₂ n₂ x y = split ∙ ap (λ c. ordering_then c (lex x y)) (sym (pair_parts m n m₂ n₂))
  where
    split : lex (pair_words m n ++ x) (pair_words m₂ n₂ ++ y) ≡ ordering_then
        (ordering_then (lex (encode_string m) (encode_string m₂)) (lex (encode_string n) (encode_string n₂))) (lex x y)
    split = unfold pair_words in
        ap₂ lex (append_assoc (encode_string m) (encode_string n) x) (append_assoc (encode_string m₂) (encode_string n₂) y)
        ∙ string_front m m₂ (encode_string n ++ x) (encode_string n₂ ++ y)
        ∙ ap (ordering_then (lex (encode_string m) (encode_string m₂))) (string_front n n₂ x y)
        ∙ sym (then_assoc (lex (encode_string m) (encode_string m₂)) (lex (encode_string n) (encode_string n₂)) (lex x y))

-- ── entries ──

-- an entry is not after another: nor is its pair
pub pair_before : (h k : HostFn) → (lex (encode_host h) (encode_host k) ≡ Greater → ⊥) → lex (pair_of h) (pair_of k) ≡ Greater → ⊥
pair_before h k n e = n (front ∙ ap (λ c. ordering_then c (lex (h.kind ∷ []) (k.kind ∷ []))) e)
  where
    front : lex (encode_host h) (encode_host k) ≡ ordering_then (lex (pair_of h) (pair_of k)) (lex (h.kind ∷ []) (k.kind ∷ []))
    front = unfold encode_host in unfold pair_words in pair_front h.module_name h.name k.module_name k.name (h.kind ∷ []) (k.kind ∷ [])

-- the two orders that a comparison makes, string by string
pub by_pair : (m n : List ℕ) (h : HostFn) {c d : Ordering} → c ≡ lex (encode_string m) (encode_string h.module_name)
    → d ≡ ordering_then c (lex (encode_string n) (encode_string h.name)) → d ≡ pair_order m n h
unfolding pair_order
by_pair m n h e f = f ∙ ap (λ x. ordering_then x (lex (encode_string n) (encode_string h.name))) e
    ∙ sym (pair_parts m n h.module_name h.name)

-- ── one order ──

pub less_then : (a b c : List ℕ) → lex a b ≡ Less → (lex b c ≡ Greater → ⊥) → lex a c ≡ Less
less_then a b c e n = go (lex b c) refl n
  where
    go : (x : Ordering) → lex b c ≡ x → (x ≡ Greater → ⊥) → lex a c ≡ Less
    go Less f n = lex_trans a b c e f
    go Equal f n = ap (lex a) (sym (lex_same b c f)) ∙ e
    go Greater f n = absurd (n refl)

pub greater_then : (a b c : List ℕ) → lex a c ≡ Greater → (lex b c ≡ Greater → ⊥) → lex a b ≡ Greater
greater_then a b c e n = go (lex b c) refl n
  where
    go : (x : Ordering) → lex b c ≡ x → (x ≡ Greater → ⊥) → lex a b ≡ Greater
    go Less f n = lex_reverse b a ∙ ap reverse (lex_trans b c a f (lex_reverse a c ∙ ap reverse e))
    go Equal f n = ap (lex a) (lex_same b c f) ∙ e
    go Greater f n = absurd (n refl)

-- what stands between two that are equal equals them
pub between : (a b c : List ℕ) → a ≡ c → (lex a b ≡ Greater → ⊥) → (lex b c ≡ Greater → ⊥) → lex a b ≡ Equal
between a b c e n k = go (lex a b) refl n
  where
    go : (x : Ordering) → lex a b ≡ x → (x ≡ Greater → ⊥) → lex a b ≡ Equal
    go Less f n = absurd (k (ap (lex b) (sym e) ∙ lex_reverse a b ∙ ap reverse f))
    go Equal f n = f
    go Greater f n = absurd (n refl)

-- ── equal pairs ──

pub named_equal : (m n : List ℕ) (h : HostFn) → named m n h ≡ true → pair_order m n h ≡ Equal
unfolding named pair_order
named_equal m n h e =
    let x : m ≡ h.module_name = same_eq m h.module_name (and_first (same m h.module_name) (same n h.name) e) in
    let y : n ≡ h.name = same_eq n h.name (and_second (same m h.module_name) (same n h.name) e) in
    ap₂ (λ a b. lex (pair_words a b) (pair_words h.module_name h.name)) x y ∙ lex_refl (pair_words h.module_name h.name)

both_equal : {C : Type 0} (c d : Ordering) → ordering_then c d ≡ Equal → (c ≡ Equal → d ≡ Equal → C) → C
both_equal Less d e f = let z : ◌≡◌ {A = ℕ} 0 1 = cc in absurd (omega arith)
both_equal Equal d e f = f refl e
both_equal Greater d e f = let z : ◌≡◌ {A = ℕ} 0 1 = cc in absurd (omega arith)

-- two texts of the same words
text_same : (a b : List ℕ) → well_formed a ≡ true → well_formed b ≡ true → lex (encode_string a) (encode_string b) ≡ Equal → same a b ≡ true
text_same a b h k e =
    let q : a ≡ b = string_injective a b (utf8_bytes a h) (utf8_bytes b k) (lex_same (encode_string a) (encode_string b) e) in
    ap (same a) (sym q) ∙ same_self a

pub equal_named : (m n : List ℕ) (h : HostFn) → well_formed m ≡ true → well_formed n ≡ true → well_formed h.module_name ≡ true →
    well_formed h.name ≡ true → pair_order m n h ≡ Equal → named m n h ≡ true
unfolding named pair_order
equal_named m n h a b c d e =
    both_equal (lex (encode_string m) (encode_string h.module_name)) (lex (encode_string n) (encode_string h.name))
    (sym (pair_parts m n h.module_name h.name) ∙ e) λ x y.
    both (text_same m h.module_name a c x) (text_same n h.name b d y)
