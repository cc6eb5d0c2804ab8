-- Octets are well formed exactly when the grammar derives them.
use Rattle.std.specs.Prelude.{◌≡◌, refl, ◌⊎◌, Bool, true, false, cond, ◌&&◌, ℕ, suc, ◌≤◌, leb}
use Rattle.std.proofs.Common.{sym, ap, subst, ◌∙◌, inl, inr, arith, leb-true}
use mathlib.Core.List.Memᴰ
use mathlib.Core.List.{List, [], ◌∷◌, ◌++◌, Memᴰ}
use Rattle.lists.specs.ListLaws.{and_first, and_second}
use Rattle.utf8.specs.Utf8.{Range, ◌to◌, chars, within, Place, wrong, due, begin, next, after, done, well_formed}
use Rattle.utf8.specs.Grammar.{Char, end, octet, Octets, char, ByGrammar}

false_true : {C : Type 0} → false ≡ true → C
false_true e = let z : ◌≡◌ {A = ℕ} 0 1 = cc in absurd (omega arith)

-- ── what is accepted is derived ──

-- the octets that end a character begun, and characters after it
pub data Rest (rs : List Range) : List ℕ → Type 0 where
  rest : {c bs : List ℕ} → Char rs c → Octets bs → Rest rs (c ++ bs)

after_wrong : (bs : List ℕ) → done (after wrong bs) ≡ true → ⊥
unfolding after next
after_wrong [] h = false_true h
after_wrong (b ∷ bs) h = after_wrong bs h

-- an octet begins one of the rows, or no character
pub data Begun (rows : List (List Range)) (b : ℕ) : Place → Type 0 where
  neither : Begun rows b wrong
  row : {r : Range} {rs : List Range} → Memᴰ (r ∷ rs) rows → within r b ≡ true → Begun rows b (due rs)

later : {rows : List (List Range)} {b : ℕ} {p : Place} (x : List Range) → Begun rows b p → Begun (x ∷ rows) b p
later x neither = neither
later x (row m w) = row (Memᴰ.tail m) w

begun : (rows : List (List Range)) (b : ℕ) → Begun rows b (begin rows b)
unfolding begin
begun [] b = neither
begun ([] ∷ rows) b = later [] (begun rows b)
begun ((r ∷ rs) ∷ rows) b = go (within r b) refl (begun rows b)
  where
    go : (t : Bool) → within r b ≡ t → Begun rows b (begin rows b) → Begun ((r ∷ rs) ∷ rows) b (cond t (due rs) (begin rows b))
    go true w ih = row (Memᴰ.head refl) w
    go false w ih = later (r ∷ rs) ih

octets_of : {bs : List ℕ} → Rest [] bs → Octets bs
octets_of (rest end o) = o

derived : (bs : List ℕ) (rs : List Range) → done (after (due rs) bs) ≡ true → Rest rs bs
unfolding after next
derived [] [] h = rest end Octets.none
derived [] (r ∷ rs) h = false_true h
derived (b ∷ bs) [] h = go (begin chars b) (begun chars b) h (derived bs)
  where
    go : (p : Place) → Begun chars b p → done (after p bs) ≡ true → ((rs : List Range) → done (after (due rs) bs) ≡ true → Rest rs bs) → Rest [] (b ∷ bs)
    go _ neither h ih = absurd (after_wrong bs h)
    go _ (row {r} {rs} m w) h ih = begin_char (ih rs h)
      where
        begin_char : {xs : List ℕ} → Rest rs xs → Rest [] (b ∷ xs)
        begin_char (rest c o) = rest end (char m (octet w c) o)
derived (b ∷ bs) (r ∷ rs) h = go (within r b) refl h (derived bs rs)
  where
    more : {xs : List ℕ} → within r b ≡ true → Rest rs xs → Rest (r ∷ rs) (b ∷ xs)
    more w (rest c o) = rest (octet w c) o

    go : (t : Bool) → within r b ≡ t → done (after (cond t (due rs) wrong) bs) ≡ true → (done (after (due rs) bs) ≡ true → Rest rs bs) → Rest (r ∷ rs) (b ∷ bs)
    go true w h ih = more w (ih h)
    go false w h ih = absurd (after_wrong bs h)

-- ── what is derived is accepted ──

abbrev pub low : Range → ℕ
low (a to z) = a

abbrev pub high : Range → ℕ
high (a to z) = z

-- the rows' first ranges rise from n on, one above the other
abbrev pub rising : ℕ → List (List Range) → Bool
rising n [] = true
rising n ([] ∷ rows) = false
rising n ((r ∷ rs) ∷ rows) = (leb n (low r) && leb (low r) (high r)) && rising (suc (high r)) rows

within_low : (r : Range) (b : ℕ) → within r b ≡ true → low r ≤ b
within_low (a to z) b h = leb-true a b (and_first (leb a b) (leb b z) h)

within_high : (r : Range) (b : ℕ) → within r b ≡ true → b ≤ high r
within_high (a to z) b h = leb-true b z (and_second (leb a b) (leb b z) h)

not_begun : (rows : List (List Range)) (n b : ℕ) {r : Range} {rs : List Range} → rising n rows ≡ true → Memᴰ (r ∷ rs) rows → within r b ≡ true → n ≤ b
not_begun [] n b k m w = absurd (Memᴰ.not-nil m)
not_begun ([] ∷ rows) n b k m w = false_true k
not_begun ((q ∷ qs) ∷ rows) n b {r} {rs} k m w =
    let here = and_first (leb n (low q) && leb (low q) (high q)) (rising (suc (high q)) rows) k in
    let first : n ≤ low q = leb-true n (low q) (and_first (leb n (low q)) (leb (low q) (high q)) here) in
    let last : low q ≤ high q = leb-true (low q) (high q) (and_second (leb n (low q)) (leb (low q) (high q)) here) in
    let rest = and_second (leb n (low q) && leb (low q) (high q)) (rising (suc (high q)) rows) k in
    go first last (Memᴰ.cases_cons m) (λ m. not_begun rows (suc (high q)) b rest m w)
  where
    go : n ≤ low q → low q ≤ high q → (r ∷ rs ≡ q ∷ qs) ⊎ Memᴰ (r ∷ rs) rows → (Memᴰ (r ∷ rs) rows → suc (high q) ≤ b) → n ≤ b
    go l u (inl e) ih = let h : r ≡ q = cc in omega (arith, within_low q b (subst (λ x. within x b ≡ true) h w))
    go l u (inr m) ih = omega (arith, ih m)

-- the row that a character is made by is the one that its first octet begins
pub begin_row : (rows : List (List Range)) (n b : ℕ) {r : Range} {rs : List Range} → rising n rows ≡ true → Memᴰ (r ∷ rs) rows → within r b ≡ true → begin rows b ≡ due rs
unfolding begin
begin_row [] n b k m w = absurd (Memᴰ.not-nil m)
begin_row ([] ∷ rows) n b k m w = false_true k
begin_row ((q ∷ qs) ∷ rows) n b {r} {rs} k m w =
    let rest = and_second (leb n (low q) && leb (low q) (high q)) (rising (suc (high q)) rows) k in
    go (within q b) refl rest (Memᴰ.cases_cons m) (λ m. begin_row rows (suc (high q)) b rest m w)
  where
    go : (t : Bool) → within q b ≡ t → rising (suc (high q)) rows ≡ true → (r ∷ rs ≡ q ∷ qs) ⊎ Memᴰ (r ∷ rs) rows →
        (Memᴰ (r ∷ rs) rows → begin rows b ≡ due rs) → cond t (due qs) (begin rows b) ≡ due rs
    go true v k (inl e) ih = cc
    go true v k (inr m) ih = absurd (omega (arith, within_high q b v, not_begun rows (suc (high q)) b k m w))
    go false v k (inl e) ih = let h : r ≡ q = cc in false_true (sym v ∙ ap (λ x. within x b) (sym h) ∙ w)
    go false v k (inr m) ih = ih m

no_empty_row : (rows : List (List Range)) (n : ℕ) → rising n rows ≡ true → Memᴰ [] rows → ⊥
no_empty_row [] n k m = Memᴰ.not-nil m
no_empty_row ([] ∷ rows) n k m = false_true k
no_empty_row ((q ∷ qs) ∷ rows) n k m = go (Memᴰ.cases_cons m) (no_empty_row rows (suc (high q)) (and_second (leb n (low q) && leb (low q) (high q)) (rising (suc (high q)) rows) k))
  where
    go : ([] ≡ q ∷ qs) ⊎ Memᴰ [] rows → (Memᴰ [] rows → ⊥) → ⊥
    go (inl e) ih = let z : ◌≡◌ {A = ℕ} 0 1 = cc in omega arith
    go (inr m) ih = ih m

-- a character's octets leave nothing of its row to come
after_char : {row : List Range} {c : List ℕ} (bs : List ℕ) → Char row c → after (due row) (c ++ bs) ≡ after (due []) bs
unfolding after next
after_char bs end = refl
after_char bs (octet {r} {row} {b} {c} w k) = go (within r b) w (after_char bs k)
  where
    go : (t : Bool) → t ≡ true → after (due row) (c ++ bs) ≡ after (due []) bs → after (cond t (due row) wrong) (c ++ bs) ≡ after (due []) bs
    go true w ih = ih
    go false w ih = false_true w

after_whole : {row : List Range} {c : List ℕ} (bs : List ℕ) → Memᴰ row chars → Char row c → after (due []) (c ++ bs) ≡ after (due []) bs
unfolding after next
after_whole bs m end = absurd (no_empty_row chars 0 refl m)
after_whole bs m (octet {r} {row} {b} {c} w k) = ap (λ p. after p (c ++ bs)) (begin_row chars 0 b refl m w) ∙ after_char bs k

accepted : {bs : List ℕ} → Octets bs → done (after (due []) bs) ≡ true
unfolding after
accepted Octets.none = refl
accepted (char {row} {c} {bs} m k o) = ap done (after_whole bs m k) ∙ accepted o

-- THE GRAMMAR DECIDES
pub by_grammar : ByGrammar
unfolding ByGrammar well_formed
by_grammar bs = (λ h. octets_of (derived bs [] h), accepted)
